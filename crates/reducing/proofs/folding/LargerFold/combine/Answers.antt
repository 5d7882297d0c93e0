use Rattle.laws.specs.Integers.{max_z}
use Rattle.laws.proofs.Machine.{read_back_is, lt_z_read}
use Rattle.reducing.proofs.folding.LargerFold.combine.Goals as goal

pub returns-then-x-y : goal.returns-then-x-y
unfolding max_z
returns-then-x-y c = rw (lt_z_read c.ranges.x c.ranges.y c.if-x-y.true) (read_back_is c.ranges.y)

pub returns-else-x-y : goal.returns-else-x-y
unfolding max_z
returns-else-x-y c = rw (lt_z_read c.ranges.x c.ranges.y c.if-x-y.false) (read_back_is c.ranges.x)
