use Rattle.arithmetic.proofs.Raised.{raised_is}
use Rattle.arithmetic.proofs.Powers.{shift_sub}
use Rattle.arithmetic.proofs.shifted.Goals as goal

pub returns : goal.returns
returns c = shift_sub c.args.k c.requires.0 (raised_is c.ranges.x c.requires.0) c.requires.1
