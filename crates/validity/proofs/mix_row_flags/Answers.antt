use Rattle.validity.proofs.Rows.{flags_alike, other_number}
use Rattle.validity.proofs.mix_row_flags.Goals as goal

pub returns-in_default : goal.returns-in_default
returns-in_default c = flags_alike _ (other_number c.args.op c.in_default.not-Where) _ _ _ _ _ _ _ _ c.both_flags.ensures
