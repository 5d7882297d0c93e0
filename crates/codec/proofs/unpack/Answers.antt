use mathlib.Core.Path.{◌∙◌}
use Rattle.codec.proofs.Unpacking.{answered}
use Rattle.codec.proofs.unpack.Goals as goal

pub returns : goal.returns
returns c = (c.from.ensures ∙ answered _ _ c.try_unpack.ensures.0, c.try_unpack.ensures.1)
