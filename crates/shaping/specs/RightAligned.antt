-- Two operands of a broadcast, brought to one rank.
use Rattle.std.specs.Prelude.{ℕ, max, ◌≡◌, List, length}
use Rattle.shapes.specs.Rules.{aligned}
use Rattle.shapes.specs.Shown.{shown}
use Rattle.shaping.specs.declared.Operands.{Operands}

-- "right-aligned"
pub record RightAligned (o : Operands) (s t : List ℕ) : Type 0 where
  pub rank : o.rank ≡ max (length s) (length t)
  pub left : shown o.left ≡ aligned (max (length s) (length t)) s
  pub right : shown o.right ≡ aligned (max (length s) (length t)) t
