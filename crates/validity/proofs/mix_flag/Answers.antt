use Rattle.std.proofs.Common.{◌∙◌}
use Rattle.laws.proofs.Machine.{read_back_is}
use Rattle.plan.specs.Coded.{number_of}
use Rattle.validity.proofs.Rows.{side_chosen, both_chosen, other_number}
use Rattle.validity.proofs.mix_flag.Goals as goal

pub returns-in-Where : goal.returns-in-Where
returns-in-Where c y z = let a = c.args in rw c.in-Where.is (c.side_flag.ensures ∙ rw (c.side.ensures, read_back_is c.ranges.x) (side_chosen a.x y z a.f a.g a.h))

pub returns-in_default : goal.returns-in_default
returns-in_default c y z = let a = c.args in c.both_flag.ensures ∙ both_chosen (number_of a.op) a.x y z a.f a.g a.h (other_number a.op c.in_default.not-Where)
