use Prim.Native.Nat.{ℕ}
use mathlib.Core.Bool.{cond}
use borrow.Author.Rules.{rules}
use lib.Dec.{eqb, ltb}
use lib.ListN.{get_or}
use Rattle.plan.specs.Words.{list_of}
use Rattle.shapes.specs.Rows.{row_of}
use Rattle.shapes.proofs.row_of.Goals as goal

pub returns : goal.returns
unfolding row_of
returns g c p e =
    let a = c.args in
    c.all_below.ensures (λ (k : ℕ). cond (ltb k a.rank) (p (get_or (list_of a.row) k 0)) (eqb (get_or (list_of a.row) k 0) 0))
    (λ k b h met. search rules)
