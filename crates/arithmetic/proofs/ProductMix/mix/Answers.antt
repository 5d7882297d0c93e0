use Rattle.laws.proofs.Machine.{read_mul_fits, read_mul}
use Rattle.arithmetic.proofs.ProductMix.mix.Goals as goal

pub overflow_mul-result : goal.overflow_mul-result
overflow_mul-result c = read_mul_fits c.requires.0 c.requires.1

pub returns : goal.returns
returns c = read_mul c.requires.0 c.requires.1
