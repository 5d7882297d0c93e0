-- Bytes that are written one piece after another.
use Rattle.std.specs.Prelude.{ℕ, ◌+◌, ◌≤◌, ◌≡◌, List, length}
use Rattle.std.proofs.lemmas.List.Edits.{sets}

-- the bytes ws, at most so many, stand from place `at` on, and the next piece goes to place `next`
pub record Writes (ws : List ℕ) (most : ℕ) (before : List ℕ) (at : ℕ) (after : List ℕ) (next : ℕ) : Type 0 where
  pub stands : after ≡ sets before at ws
  pub is_next : next ≡ at + length ws
  pub short : length ws ≤ most
