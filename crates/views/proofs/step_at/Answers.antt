use mathlib.Core.Path.{refl}
use native.Mathlib.Omega.{arith}
use Rattle.views.specs.Views.{step}
use Rattle.views.proofs.Steps.{step_le}
use Rattle.views.proofs.step_at.Goals as goal

pub overflow_mul-result : goal.overflow_mul-result
unfolding step
overflow_mul-result c = omega (arith, step_le c.args.n c.args.s c.args.c c.requires.0)

pub overflow_mul-result-2 : goal.overflow_mul-result-2
unfolding step
overflow_mul-result-2 c = omega (arith, step_le c.args.n c.args.s c.args.c c.requires.0)

pub overflow_add-result : goal.overflow_add-result
unfolding step
overflow_add-result c = omega (arith, step_le c.args.n c.args.s c.args.c c.requires.0)

pub returns : goal.returns
unfolding step
returns c = (refl, step_le c.args.n c.args.s c.args.c c.requires.0)
