use native.Mathlib.Omega.{arith}
use Rattle.views.specs.Views.{row_place, row_reach}
use Rattle.views.proofs.Steps.{first_lt, second_lt, third_lt, span0_lt, span1_lt, span2_lt, row_le}
use Rattle.views.proofs.row_place.Goals as goal

pub step_at-p0-requires : goal.step_at-p0-requires
step_at-p0-requires c = (first_lt c.args.g c.args.i c.requires.0, omega (arith, span0_lt c.args.g c.args.v c.requires.1))

pub step_at-p1-requires : goal.step_at-p1-requires
step_at-p1-requires c = (second_lt c.args.g c.args.i c.requires.0, omega (arith, span1_lt c.args.g c.args.v c.requires.1))

pub step_at-p2-requires : goal.step_at-p2-requires
step_at-p2-requires c = (third_lt c.args.g c.args.i c.requires.0, omega (arith, span2_lt c.args.g c.args.v c.requires.1))

pub overflow_add-result : goal.overflow_add-result
unfolding row_reach
overflow_add-result c = omega (arith, c.requires.1, c.step_at-p2.ensures, c.step_at-p1.ensures, c.step_at-p0.ensures)

pub overflow_add-result-2 : goal.overflow_add-result-2
unfolding row_reach
overflow_add-result-2 c = omega (arith, c.requires.1, c.step_at-p2.ensures, c.step_at-p1.ensures, c.step_at-p0.ensures)

pub overflow_add-result-3 : goal.overflow_add-result-3
unfolding row_reach
overflow_add-result-3 c = omega (arith, c.requires.1, c.step_at-p2.ensures, c.step_at-p1.ensures, c.step_at-p0.ensures)

pub returns : goal.returns
unfolding row_place
returns c =
    let x0 = c.step_at-p0.ensures.0 in
    let x1 = c.step_at-p1.ensures.0 in
    let x2 = c.step_at-p2.ensures.0 in
    (rw (x0, x1, x2), rw (x0, x1, x2) (row_le c.args.g c.args.i c.requires.0 c.args.v))
