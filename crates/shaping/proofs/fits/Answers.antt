use Prim.Native.Nat.{ℕ, ◌+◌}
use mathlib.Core.Path.{◌≡◌, ◌∙◌}
use borrow.Author.Rules.{rules}
use lib.Dec.{leb}
use Rattle.shapes.specs.Rules.{word_of}
use Rattle.shapes.specs.Shown.{words_in}
use Rattle.shaping.proofs.Axes.{axis_same}
use Rattle.shaping.proofs.fits.Goals as goal

pub returns : goal.returns
returns c =
    let s = c.args.inner in
    let r = c.args.outer in
    c.same_rank.ensures _
    (λ k b h l met.
    let e : b ≡ leb (word_of (words_in c.args.o) k + word_of (words_in s) k) (word_of (words_in r) k) = search rules in
    e ∙ axis_same (λ (k n m : ℕ). leb (word_of (words_in c.args.o) k + n) m) s r k h l)
