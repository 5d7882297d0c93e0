use mathlib.Core.Path.{refl}
use Rattle.plan.specs.Words.{node_count, length_right}
use Rattle.plan.proofs.length_right.Goals as goal

pub returns : goal.returns
unfolding length_right node_count
returns c = refl
