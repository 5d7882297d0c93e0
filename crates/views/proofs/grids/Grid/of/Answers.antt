use native.Mathlib.Omega.{arith}
use Rattle.views.proofs.Rowwise.{rows_few, outer_few}
use Rattle.views.proofs.grids.Grid.of.Goals as goal

pub overflow_mul-rows : goal.overflow_mul-rows
overflow_mul-rows c = omega (arith, outer_few c.args.extents c.requires.0 c.requires.1)

pub overflow_mul-rows-2 : goal.overflow_mul-rows-2
overflow_mul-rows-2 c = omega (arith, rows_few c.args.extents c.requires.0 c.requires.1)
