use Prim.Native.Nat.{ℕ}
use borrow.Author.Rules.{rules}
use lib.Dec.{leb}
use Rattle.shapes.specs.Rows.{is_flag_row}
use Rattle.shapes.proofs.is_flag_row.Goals as goal

pub returns : goal.returns
unfolding is_flag_row
returns c = c.row_of.ensures (λ (n : ℕ). leb n 1) (λ w b met. search rules)
