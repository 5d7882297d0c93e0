use Rattle.laws.proofs.Machine.{cast_index}
use Rattle.plan.proofs.Decoding.{size_below, size_above}
use Rattle.plan.proofs.size_of_word.Goals as goal

pub returns-then-w-lt0 : goal.returns-then-w-lt0
returns-then-w-lt0 c = search size_below

pub overflow_cast-result : goal.overflow_cast-result
overflow_cast-result c = cast_index c.ranges.w c.if-w-lt0.false

pub returns : goal.returns
returns c = search size_above
