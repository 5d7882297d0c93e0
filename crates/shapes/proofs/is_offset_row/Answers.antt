use Prim.Native.Nat.{ℕ}
use borrow.Author.Rules.{rules}
use lib.Dec.{leb}
use Rattle.shapes.specs.Rows.{extent_limit, is_offset_row}
use Rattle.shapes.proofs.is_offset_row.Goals as goal

pub returns : goal.returns
unfolding is_offset_row
returns c = c.row_of.ensures (λ (n : ℕ). leb n extent_limit) (λ w b met. search rules)
