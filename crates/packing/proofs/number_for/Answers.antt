use Rattle.laws.proofs.Machine.{cast_index, flip_fits, flip_cast}
use Rattle.packing.proofs.Putting.{flip_twice, flip_next, below_is, plain_twice, plain_is}
use Rattle.packing.proofs.number_for.Goals as goal

pub overflow_sub-below : goal.overflow_sub-below
overflow_sub-below c = flip_fits c.ranges.w c.if-w-lt0.true

pub overflow_cast-below : goal.overflow_cast-below
overflow_cast-below c = flip_cast c.ranges.w c.if-w-lt0.true

pub overflow_mul-result : goal.overflow_mul-result
overflow_mul-result c = flip_twice c.ranges.w c.if-w-lt0.true

pub overflow_add-result : goal.overflow_add-result
overflow_add-result c = flip_next c.ranges.w c.if-w-lt0.true

pub returns-then-w-lt0 : goal.returns-then-w-lt0
returns-then-w-lt0 c = below_is c.ranges.w c.if-w-lt0.true

pub overflow_cast-result : goal.overflow_cast-result
overflow_cast-result c = cast_index c.ranges.w c.if-w-lt0.false

pub overflow_mul-result-2 : goal.overflow_mul-result-2
overflow_mul-result-2 c = plain_twice c.ranges.w c.if-w-lt0.false

pub returns : goal.returns
returns c = plain_is c.ranges.w c.if-w-lt0.false
