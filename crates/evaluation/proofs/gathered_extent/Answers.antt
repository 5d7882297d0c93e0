use mathlib.Core.Path.{refl}
use borrow.Author.Tests.{ne_eqb}
use Rattle.evaluation.proofs.gathered_extent.Goals as goal

pub returns-then-flag-eq1 : goal.returns-then-flag-eq1
returns-then-flag-eq1 c = rw c.if-flag-eq1.true refl

pub returns-else-flag-eq1 : goal.returns-else-flag-eq1
returns-else-flag-eq1 c = rw (ne_eqb c.args.flag 1 c.if-flag-eq1.false) refl
