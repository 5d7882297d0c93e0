use Prim.Native.Nat.{ℕ}
use mathlib.Core.Path.{◌≡◌, ◌∙◌}
use borrow.Author.Rules.{rules}
use lib.Dec.{eqb}
use Rattle.shapes.specs.Rules.{word_of, same_shape}
use Rattle.shapes.specs.Shown.{words_in}
use Rattle.shaping.proofs.Axes.{axis_same}
use Rattle.shaping.proofs.same_shape.Goals as goal

pub returns : goal.returns
unfolding same_shape
returns c =
    let s = c.args.s in
    let r = c.args.r in
    c.same_rank.ensures _
    (λ k b h l met.
    let e : b ≡ eqb (word_of (words_in s) k) (word_of (words_in r) k) = search rules in
    e ∙ axis_same (λ (k n m : ℕ). eqb n m) s r k h l)
