use mathlib.Core.Path.{◌≡◌}
use borrow.Author.Rules.{rules}
use Rattle.shapes.specs.Rules.{word_of, equal_or_one}
use Rattle.shapes.specs.Shown.{words_in, shown}
use Rattle.shaping.proofs.Alignment.{can_axis, can_all}
use Rattle.shaping.proofs.can_broadcast.Goals as goal

pub returns : goal.returns
returns c =
    let o = c.aligned-o.ensures in
    let left = c.aligned-o.result.left in
    let right = c.aligned-o.result.right in
    let s = shown c.args.s in
    let t = shown c.args.t in
    can_all left right s t o.left o.right o.rank
    (c.all_below.ensures _
    (λ k b h met.
    let e : b ≡ equal_or_one (word_of (words_in left) k) (word_of (words_in right) k) = search rules in
    can_axis left right s t o.left o.right o.rank h e))
