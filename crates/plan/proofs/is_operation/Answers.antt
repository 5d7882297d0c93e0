use mathlib.Core.Path.{refl}
use Rattle.plan.specs.Operations.{is_operation}
use Rattle.plan.proofs.is_operation.Goals as goal

pub returns : goal.returns
unfolding is_operation
returns c = refl
