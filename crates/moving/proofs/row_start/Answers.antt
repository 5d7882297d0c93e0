use native.Mathlib.Omega.{arith}
use Rattle.views.specs.Walks.{row_start}
use Rattle.views.proofs.Padding.{first_in, second_in, third_in, row_in_source}
use Rattle.moving.proofs.Bands.{start_fits}
use Rattle.moving.proofs.row_start.Goals as goal

pub overflow_sub-p0 : goal.overflow_sub-p0
overflow_sub-p0 c = (first_in c.args.r c.args.o c.args.s c.args.i c.requires.2).0

pub overflow_mul-p0 : goal.overflow_mul-p0
overflow_mul-p0 c = omega (arith, start_fits c.args.r c.args.o c.args.s c.args.base c.args.i c.requires.0 c.requires.2 c.requires.3 c.strides-t.ensures)

pub overflow_sub-p1 : goal.overflow_sub-p1
overflow_sub-p1 c = (second_in c.args.r c.args.o c.args.s c.args.i c.requires.2).0

pub overflow_mul-p1 : goal.overflow_mul-p1
overflow_mul-p1 c = omega (arith, start_fits c.args.r c.args.o c.args.s c.args.base c.args.i c.requires.0 c.requires.2 c.requires.3 c.strides-t.ensures)

pub overflow_sub-p2 : goal.overflow_sub-p2
overflow_sub-p2 c = (third_in c.args.r c.args.o c.args.s c.args.i c.requires.2).0

pub overflow_add-result : goal.overflow_add-result
overflow_add-result c = omega (arith, start_fits c.args.r c.args.o c.args.s c.args.base c.args.i c.requires.0 c.requires.2 c.requires.3 c.strides-t.ensures)

pub overflow_add-result-2 : goal.overflow_add-result-2
overflow_add-result-2 c = omega (arith, start_fits c.args.r c.args.o c.args.s c.args.base c.args.i c.requires.0 c.requires.2 c.requires.3 c.strides-t.ensures)

pub overflow_add-result-3 : goal.overflow_add-result-3
overflow_add-result-3 c = omega (arith, start_fits c.args.r c.args.o c.args.s c.args.base c.args.i c.requires.0 c.requires.2 c.requires.3 c.strides-t.ensures)

pub returns : goal.returns
unfolding row_start
returns c =
    let e = c.strides-t.ensures in
    (rw e, rw e (row_in_source c.args.r c.args.o c.args.s c.args.i c.requires.2 c.args.base c.requires.0.extents.p3))
