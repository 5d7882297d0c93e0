use borrow.Author.Rules.{sfits_of}
use Rattle.arithmetic.proofs.Powers.{multiple_fits, remainder_fits, remainder_is}
use Rattle.arithmetic.proofs.low_bits.Goals as goal

pub overflow_mul-result : goal.overflow_mul-result
overflow_mul-result c = multiple_fits c.requires.0 c.requires.1 c.ranges.x (sfits_of c.shifted.type_inv) c.shifted.ensures

pub overflow_sub-result : goal.overflow_sub-result
overflow_sub-result c = remainder_fits c.requires.0 c.requires.1 c.ranges.x (sfits_of c.shifted.type_inv) c.shifted.ensures

pub returns : goal.returns
returns c = remainder_is c.requires.0 c.requires.1 c.ranges.x (sfits_of c.shifted.type_inv) c.shifted.ensures
