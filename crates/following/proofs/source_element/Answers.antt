use mathlib.Core.List.{[]}
use Rattle.evaluation.proofs.Groups.{padded_right, followed_viewed, viewed_right, viewed_result}
use Rattle.following.proofs.Elements.{padded_element, kept_element, viewed_element}
use Rattle.following.proofs.source_element.Goals as goal

pub padded_origin-requires : goal.padded_origin-requires
padded_origin-requires c = (padded_right c.args.x _ [] [] _ c.requires.1 c.if-op.true, c.requires.2)

pub returns-then-op : goal.returns-then-op
returns-then-op c = rw c.padded_origin.ensures (padded_element c.args.x _ _ c.args.e c.if-op.true)

pub returns-then-op-2 : goal.returns-then-op-2
returns-then-op-2 c = kept_element c.args.x _ _ c.args.e c.if-op-2.true

pub viewed_origin-requires : goal.viewed_origin-requires
viewed_origin-requires c =
    let group = followed_viewed c.args.x.op c.requires.0 c.if-op.false c.if-op-2.false in
    (viewed_right c.args.x _ [] [] _ c.requires.1 group, viewed_result c.args.x _ [] [] _ c.requires.1 group, c.requires.2)

pub returns : goal.returns
returns c =
    let group = followed_viewed c.args.x.op c.requires.0 c.if-op.false c.if-op-2.false in
    rw c.viewed_origin.ensures (viewed_element c.args.x _ _ c.args.e group)
