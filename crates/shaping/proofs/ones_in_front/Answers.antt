use Prim.Native.Nat.{ℕ, ◌-◌}
use mathlib.Core.Bool.{cond}
use borrow.Author.Rules.{rules}
use lib.Dec.{ltb}
use Rattle.shapes.specs.Rules.{word_of}
use Rattle.shapes.specs.Shown.{words_in}
use Rattle.shaping.proofs.Alignment.{front_tab}
use Rattle.shaping.proofs.ones_in_front.Goals as goal

pub returns : goal.returns
returns c =
    let e = c.args in
    let words = c.shape_of.ensures (λ (k : ℕ). cond (ltb k e.d) 1 (word_of (words_in e.s) (k - e.d))) (λ k w met. search rules) in
    rw words (front_tab e.s e.d c.requires)
