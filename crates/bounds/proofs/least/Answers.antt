use mathlib.Core.Path.{sym, ◌∙◌}
use mir.Facts.{to_z-of_z}
use Rattle.laws.proofs.Extremes.{min_z_left, min_z_right}
use Rattle.laws.proofs.Machine.{arith_machine}
use Rattle.bounds.proofs.least.Goals as goal

pub returns-then-b-a : goal.returns-then-b-a
returns-then-b-a c = to_z-of_z c.ranges.b ∙ sym (min_z_right (omega arith_machine))

pub returns-else-b-a : goal.returns-else-b-a
returns-else-b-a c = to_z-of_z c.ranges.a ∙ sym (min_z_left (omega arith_machine))
