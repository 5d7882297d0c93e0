use Prim.Native.Nat.{ℕ}
use mathlib.Core.Bool.{cond}
use borrow.Author.Rules.{rules}
use lib.Dec.{leb}
use Rattle.plan.specs.Words.{list_of}
use Rattle.shapes.specs.Rules.{word_of}
use Rattle.shapes.specs.Shown.{words_in}
use Rattle.shaping.proofs.Axes.{permuted_tab}
use Rattle.shaping.proofs.permuted.Goals as goal

pub returns : goal.returns
returns c =
    let e = c.args in
    let words = c.shape_of.ensures (λ (k : ℕ). cond (leb c.rank-n.result k) 0 (word_of (words_in e.s) (word_of (list_of e.row) k))) (λ k w met. search rules) in
    rw words (permuted_tab e.s e.row c.requires c.rank-n.ensures)
