use Rattle.arithmetic.proofs.Raised.{raised_is, less_bit}
use Rattle.arithmetic.proofs.LessMix.mix.Goals as goal

pub returns : goal.returns
returns c = let p = c.requires in less_bit c.args.x c.args.y _ _ p.0 p.1 (raised_is c.ranges.x p.0) (raised_is c.ranges.y p.1)
