use mathlib.Core.Path.{◌∙◌}
use Rattle.packing.proofs.Turning.{answered}
use Rattle.packing.proofs.pack.Goals as goal

pub returns : goal.returns
returns c = (c.from.ensures ∙ answered _ _ c.try_pack.ensures.0, c.try_pack.ensures.1)
