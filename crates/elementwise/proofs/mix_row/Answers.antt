use Rattle.std.proofs.Common.{ap}
use Rattle.plan.specs.Coded.{number_of}
use Rattle.validity.proofs.Rows.{other_number}
use Rattle.elementwise.proofs.Rows.{where_mixed, both_mixed}
use Rattle.elementwise.proofs.mix_row.Goals as goal

pub returns-in-Where : goal.returns-in-Where
returns-in-Where c =
    let a = c.args in
    let p = c.requires in
    let r = c.mix_row_flags.ensures in
    (where_mixed (number_of a.op) a.values.now _ _ a.flags.now _ a.to a.n a.lines p.1.before p.2 p.3 c.plain_row.ensures r (ap number_of c.in-Where.is) c.clear_row.ensures, r)

pub returns-in_default : goal.returns-in_default
returns-in_default c =
    let a = c.args in
    let p = c.requires in
    let r = c.mix_row_flags.ensures in
    (both_mixed (number_of a.op) a.values.now _ _ a.flags.now _ a.to a.n a.lines p.1.before p.2 p.3 c.plain_row.ensures r (other_number a.op c.in_default.not-Where) c.clear_own.ensures, r)
