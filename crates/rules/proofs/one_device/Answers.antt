use mathlib.Core.Path.{refl}
use Rattle.rules.specs.Rules.{one_device}
use Rattle.rules.proofs.one_device.Goals as goal

pub returns : goal.returns
unfolding one_device
returns c = refl
