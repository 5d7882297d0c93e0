use Prim.Native.Nat.{ℕ}
use borrow.Author.Rules.{rules}
use Rattle.shapes.specs.Rules.{word_of}
use Rattle.shapes.specs.Shown.{words_in}
use Rattle.shaping.proofs.Flags.{kept_word, kept_tab}
use Rattle.shaping.proofs.ones_along.Goals as goal

pub returns : goal.returns
returns g c p e =
    let s = c.args.s in
    let words = c.shape_of.ensures (λ (k : ℕ). kept_word (word_of (words_in s) k) (p k)) (λ k w met. search rules) in
    rw words (kept_tab s p)
