use Prim.Native.Nat.{ℕ}
use mathlib.Core.Path.{◌≡◌, ◌∙◌}
use mathlib.Core.Bool.{◌||◌}
use borrow.Author.Rules.{rules}
use lib.Dec.{eqb}
use Rattle.shapes.specs.Rules.{word_of}
use Rattle.shapes.specs.Shown.{words_in}
use Rattle.shaping.proofs.Axes.{axis_same}
use Rattle.shaping.proofs.expand_agrees.Goals as goal

pub returns : goal.returns
returns c =
    let s = c.args.s in
    let r = c.args.r in
    c.same_rank.ensures _
    (λ k b h l met.
    let e : b ≡ (eqb (word_of (words_in s) k) 1 || eqb (word_of (words_in s) k) (word_of (words_in r) k)) = search rules in
    e ∙ axis_same (λ (k n m : ℕ). eqb n 1 || eqb n m) s r k h l)
