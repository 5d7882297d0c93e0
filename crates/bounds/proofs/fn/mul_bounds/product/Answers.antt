use Rattle.laws.proofs.Machine.{read_mul}
use Rattle.bounds.proofs.fn.mul_bounds.product.Goals as goal

pub returns : goal.returns
returns c = read_mul c.requires.0 c.requires.1
