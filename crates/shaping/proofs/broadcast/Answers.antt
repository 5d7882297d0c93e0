use Prim.Native.Nat.{ℕ, max}
use borrow.Author.Rules.{rules}
use Rattle.shapes.specs.Rules.{word_of}
use Rattle.shapes.specs.Shown.{words_in, shown}
use Rattle.shaping.proofs.Alignment.{larger_tab}
use Rattle.shaping.proofs.broadcast.Goals as goal

pub returns : goal.returns
returns c =
    let o = c.aligned-o.ensures in
    let left = c.aligned-o.result.left in
    let right = c.aligned-o.result.right in
    let words = c.shape_of.ensures (λ (k : ℕ). max (word_of (words_in left) k) (word_of (words_in right) k)) (λ k w met. search rules) in
    rw words (larger_tab left right (shown c.args.s) (shown c.args.t) o.left o.right)
