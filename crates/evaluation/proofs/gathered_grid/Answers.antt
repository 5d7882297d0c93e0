use mathlib.Core.Path.{refl}
use Rattle.laws.specs.Lists.{tab}
use Rattle.shapes.specs.Rules.{gathered_extents}
use Rattle.evaluation.proofs.gathered_grid.Goals as goal

pub returns : goal.returns
unfolding gathered_extents tab
returns c = rw (c.gathered_extent.ensures, c.gathered_extent-2.ensures, c.gathered_extent-3.ensures, c.gathered_extent-4.ensures) refl
