use native.Mathlib.Omega.{arith}
use Rattle.laws.specs.Lists.{among}
use Rattle.rules.specs.Rules.{divisor_right}
use Rattle.rules.proofs.divisor_right.Goals as goal

pub returns-in-Idiv : goal.returns-in-Idiv
unfolding divisor_right among
returns-in-Idiv c = grind arith

pub returns-in_default : goal.returns-in_default
unfolding divisor_right among
returns-in_default c = grind arith
