use Rattle.laws.proofs.Machine.{read_back_is}
use Rattle.bounds.proofs.Floors.{quotient_fits, below_is, above_is}
use Rattle.bounds.proofs.floor_by.Goals as goal

pub distance-requires : goal.distance-requires
distance-requires c = rw (read_back_is c.ranges.a) c.requires.0

pub overflow_cast-q : goal.overflow_cast-q
overflow_cast-q c = quotient_fits c.ranges.a c.requires.0 c.args.b _ c.distance.ensures

pub returns-then-a-lt0 : goal.returns-then-a-lt0
returns-then-a-lt0 c = below_is c.ranges.a c.requires.0 c.args.b _ c.distance.ensures c.if-a-lt0.true

pub returns : goal.returns
returns c = above_is c.ranges.a c.requires.0 c.args.b _ c.distance.ensures c.if-a-lt0.false
