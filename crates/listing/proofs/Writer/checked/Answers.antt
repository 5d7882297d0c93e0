use native.Mathlib.Omega.{arith}
use Rattle.listing.proofs.Plans.{refused_text, as_many, accepted_text, in_table}
use Rattle.listing.proofs.Writing.{said}
use Rattle.listing.proofs.Writer.checked.Goals as goal

pub returns-in-Err : goal.returns-in-Err
returns-in-Err c = said (refused_text c.args.table.now c.in-Err.ensures) (rw c.from-answer.ensures at c.refusal.ensures)

pub accepted-requires : goal.accepted-requires
accepted-requires c =
    let accepts = c.in-Ok.ensures in
    let many = as_many c.args.table.now accepts c.nodes.ensures in
    (omega (arith, many, accepts.few), in_table c.args.table.now accepts c.nodes.ensures, c.requires)

pub returns-in-Ok : goal.returns-in-Ok
returns-in-Ok c = said (accepted_text c.args.table.now c.in-Ok.ensures c.nodes.ensures) c.accepted.ensures
