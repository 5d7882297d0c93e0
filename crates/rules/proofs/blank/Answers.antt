use mathlib.Core.Path.{refl}
use Rattle.shapes.specs.Rows.{extents_of}
use Rattle.rules.proofs.blank.Goals as goal

pub returns : goal.returns
unfolding extents_of
returns c = refl
