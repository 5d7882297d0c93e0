-- What a call writes, by the writer before it and after it.
use Rattle.std.specs.Prelude.{ℕ, List, ◌≡◌, length}
use Rattle.laws.specs.Pieces.{Writes}
use Rattle.listing.specs.declared.Writer.{Writer}

-- the bytes ws, at most so many, come next, in the same text
pub record Puts (ws : List ℕ) (most : ℕ) (before after : Writer) : Type 0 where
  pub writes : Writes ws most before.text.now before.at after.text.now after.at
  pub same_text : after.text.ghost_name ≡ before.text.ghost_name
  pub same_room : length after.text.now ≡ length before.text.now
