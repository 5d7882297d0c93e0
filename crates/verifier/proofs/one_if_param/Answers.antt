use mathlib.Core.Path.{refl}
use borrow.Author.Tests.{eq-eqb, ne_eqb}
use Rattle.verifier.proofs.one_if_param.Goals as goal

pub returns-then-op-eq1 : goal.returns-then-op-eq1
returns-then-op-eq1 c = rw (eq-eqb _ _ c.if-op-eq1.true) refl

pub returns-else-op-eq1 : goal.returns-else-op-eq1
returns-else-op-eq1 c = rw (ne_eqb _ _ c.if-op-eq1.false) refl
