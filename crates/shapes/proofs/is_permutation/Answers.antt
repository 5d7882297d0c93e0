use Prim.Native.Nat.{ℕ}
use borrow.Author.Rules.{rules}
use lib.Dec.{eqb, ltb}
use lib.ListN.{take}
use Rattle.laws.specs.Lists.{occurrences}
use Rattle.plan.specs.Words.{list_of}
use Rattle.shapes.specs.Rows.{is_permutation}
use Rattle.shapes.proofs.RowTests.{no_permutation}
use Rattle.shapes.proofs.is_permutation.Goals as goal

pub returns-then-rank-gt4 : goal.returns-then-rank-gt4
returns-then-rank-gt4 c = no_permutation _ _ _ _ _ c.if-rank-gt4.true

pub returns : goal.returns
unfolding is_permutation
returns c =
    let e = c.args in
    rw (
      c.row_of.ensures (λ (n : ℕ). ltb n e.rank) (λ w b met. search rules),
      c.all_below.ensures (λ (k : ℕ). eqb (occurrences k (take e.rank (list_of e.row))) 1) (λ k b h met. search rules),
    )
