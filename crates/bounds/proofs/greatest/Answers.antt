use mathlib.Core.Path.{sym, ◌∙◌}
use mir.Facts.{to_z-of_z}
use Rattle.laws.proofs.Extremes.{max_z_left, max_z_right}
use Rattle.laws.proofs.Machine.{arith_machine}
use Rattle.bounds.proofs.greatest.Goals as goal

pub returns-then-a-b : goal.returns-then-a-b
returns-then-a-b c = to_z-of_z c.ranges.b ∙ sym (max_z_right (omega arith_machine))

pub returns-else-a-b : goal.returns-else-a-b
returns-else-a-b c = to_z-of_z c.ranges.a ∙ sym (max_z_left (omega arith_machine))
