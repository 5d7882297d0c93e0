use mathlib.Core.Path.{refl}
use Rattle.laws.proofs.Machine.{read_back_is}
use Rattle.plan.proofs.if_unused.Goals as goal

pub returns-then-used : goal.returns-then-used
returns-then-used c = rw c.if-used.true refl

pub returns : goal.returns
returns c = rw c.if-used.false (read_back_is c.ranges.word)
