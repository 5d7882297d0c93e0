use mathlib.Core.Path.{sym, ◌∙◌}
use Rattle.walking.proofs.Walks.{plane_below, merged_still}
use Rattle.walking.proofs.merge.Goals as goal

pub merged_grid-requires : goal.merged_grid-requires
merged_grid-requires c = plane_below c.args.w.grid c.requires.some c.requires.few

pub returns : goal.returns
returns c =
    let w = c.args.w in
    let x = c.merged_grid.ensures in
    let a = c.merged_view.ensures in
    let y = c.merged_view-2.ensures in
    let d = c.merged_view-3.ensures in
    rw (x, a, y, d)
    (merged_still w c.requires.some (sym c.can_merge.ensures ∙ c.if-not-can_merge.false) (sym c.can_merge-2.ensures ∙ c.if-not-can_merge-2.false) (sym c.can_merge-3.ensures ∙ c.if-not-can_merge-3.false))
