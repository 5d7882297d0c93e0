use native.Mathlib.Omega.{arith}
use native.Mathlib.Nat.{mod-lt}
use Rattle.shapes.specs.Shown.{shown}
use Rattle.views.specs.Views.{reach}
use Rattle.views.proofs.Fronts.{grid_cells}
use Rattle.views.proofs.Axiswise.{fourth_pos, row_lt}
use Rattle.views.proofs.RowPlaces.{rows_below}
use Rattle.following.proofs.Elements.{walked_element}
use Rattle.following.proofs.viewed_origin.Goals as goal

pub nonzero_div-e : goal.nonzero_div-e
nonzero_div-e c = fourth_pos c.grid-g.result c.args.e (rw (grid_cells (shown c.args.r) c.grid-g.result c.grid-g.ensures) c.requires.2)

pub row_place-begins-requires : goal.row_place-begins-requires
row_place-begins-requires c =
    let g = c.grid-g in
    let w = c.view_of-v.ensures g.result (rw c.requires.1 at g.ensures) in
    (row_lt g.result c.args.e (rw (grid_cells (shown c.args.r) g.result g.ensures) c.requires.2), rows_below g.result c.view_of-v.result (omega (arith, w.inside, c.requires.0.few)))

pub nonzero_rem-e : goal.nonzero_rem-e
nonzero_rem-e c = fourth_pos c.grid-g.result c.args.e (rw (grid_cells (shown c.args.r) c.grid-g.result c.grid-g.ensures) c.requires.2)

pub step_at-requires : goal.step_at-requires
unfolding reach
step_at-requires c =
    let g = c.grid-g in
    let w = c.view_of-v.ensures g.result (rw c.requires.1 at g.ensures) in
    (mod-lt c.args.e (fourth_pos g.result c.args.e (rw (grid_cells (shown c.args.r) g.result g.ensures) c.requires.2)), omega (arith, w.inside, c.requires.0.few))

pub overflow_add-result : goal.overflow_add-result
unfolding reach
overflow_add-result c =
    let g = c.grid-g in
    let w = c.view_of-v.ensures g.result (rw c.requires.1 at g.ensures) in
    omega (arith, w.inside, c.requires.0.few, c.row_place-begins.ensures.1, c.step_at.ensures.1)

pub returns : goal.returns
returns c =
    let g = c.grid-g in
    let w = rw (← c.requires.1) at (c.view_of-v.ensures g.result (rw c.requires.1 at g.ensures)) in
    walked_element w c.args.e c.requires.2 c.row_place-begins.ensures.0 c.step_at.ensures.0
