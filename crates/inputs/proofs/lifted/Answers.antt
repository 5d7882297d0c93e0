use Rattle.laws.proofs.Machine.{cast_index}
use Rattle.inputs.proofs.Limits.{raised_fits, lift_fits, lift_cast, below_lifted, sum_fits, from_lifted}
use Rattle.inputs.proofs.lifted.Goals as goal

pub overflow_add-result : goal.overflow_add-result
overflow_add-result c = raised_fits c.ranges.x c.if-x-lt0.true

pub overflow_add-result-then-x-lt0 : goal.overflow_add-result-then-x-lt0
overflow_add-result-then-x-lt0 c = lift_fits c.ranges.x c.if-x-lt0.true

pub overflow_cast-result : goal.overflow_cast-result
overflow_cast-result c = lift_cast c.ranges.x c.if-x-lt0.true

pub returns-then-x-lt0 : goal.returns-then-x-lt0
returns-then-x-lt0 c = below_lifted c.ranges.x c.if-x-lt0.true

pub overflow_cast-result-2 : goal.overflow_cast-result-2
overflow_cast-result-2 c = cast_index c.ranges.x c.if-x-lt0.false

pub overflow_add-result-2 : goal.overflow_add-result-2
overflow_add-result-2 c = sum_fits c.ranges.x c.if-x-lt0.false

pub returns : goal.returns
returns c = from_lifted c.ranges.x c.if-x-lt0.false
