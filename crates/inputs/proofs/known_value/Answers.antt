use Rattle.std.proofs.Common.{refl, to_z-of_z, ne_eqb}
use Rattle.runner.specs.Inputs.{input_cell}
use Rattle.inputs.proofs.known_value.Goals as goal

pub returns-then-flag-eq1 : goal.returns-then-flag-eq1
unfolding input_cell
returns-then-flag-eq1 c = rw c.if-flag-eq1.true (to_z-of_z c.ranges.value)

pub returns-else-flag-eq1 : goal.returns-else-flag-eq1
unfolding input_cell
returns-else-flag-eq1 c = rw (ne_eqb _ 1 c.if-flag-eq1.false) refl
