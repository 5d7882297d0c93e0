use Rattle.std.proofs.Common.{refl, ne_eqb}
use Rattle.inputs.proofs.one_if_gap.Goals as goal

pub returns-then-flag-eq1 : goal.returns-then-flag-eq1
returns-then-flag-eq1 c = rw c.if-flag-eq1.true refl

pub returns-else-flag-eq1 : goal.returns-else-flag-eq1
returns-else-flag-eq1 c = rw (ne_eqb _ 1 c.if-flag-eq1.false) refl
