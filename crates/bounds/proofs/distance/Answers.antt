use Rattle.bounds.proofs.Floors.{flip_fits, flip_cast, flip_mag, plain_cast, plain_mag}
use Rattle.bounds.proofs.distance.Goals as goal

pub overflow_sub-result : goal.overflow_sub-result
overflow_sub-result c = flip_fits c.ranges.a c.requires c.if-a-lt0.true

pub overflow_cast-result : goal.overflow_cast-result
overflow_cast-result c = flip_cast c.ranges.a c.requires c.if-a-lt0.true

pub overflow_cast-result-else-a-lt0 : goal.overflow_cast-result-else-a-lt0
overflow_cast-result-else-a-lt0 c = plain_cast c.ranges.a c.requires c.if-a-lt0.false

pub returns-then-a-lt0 : goal.returns-then-a-lt0
returns-then-a-lt0 c = flip_mag c.ranges.a c.requires c.if-a-lt0.true

pub returns-else-a-lt0 : goal.returns-else-a-lt0
returns-else-a-lt0 c = plain_mag c.ranges.a c.requires c.if-a-lt0.false
