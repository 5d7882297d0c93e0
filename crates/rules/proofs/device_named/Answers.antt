use mathlib.Core.Path.{refl}
use Rattle.rules.specs.Rules.{device_named}
use Rattle.rules.proofs.device_named.Goals as goal

pub returns : goal.returns
unfolding device_named
returns c = refl
