use Rattle.std.proofs.Common.{arith, refl}
use Rattle.plan.specs.Operations.{is_operation}
use Rattle.plan.proofs.operations.OperationTryFromUsize.try_from.Goals as goal

pub returns-in_default : goal.returns-in_default
unfolding is_operation
returns-in_default c = let r = c.in_default.in_default-own in (refl, grind arith)
