use Rattle.validity.proofs.Rows.{where_done}
use Rattle.validity.proofs.where_flags.Goals as goal

pub returns-then-are_stepping : goal.returns-then-are_stepping
returns-then-are_stepping c =
    let a = c.args in
    let e = c.are_stepping.ensures c.if-are_stepping.true in
    rw e (where_done a.values.now a.flags.now _ _ a.to a.n _ c.requires.2 (rw e at c.requires.0) c.unit_sides.ensures (rw c.stepping.ensures at c.row_chosen.ensures))

pub returns-then-are_stepping-2 : goal.returns-then-are_stepping-2
returns-then-are_stepping-2 c =
    let a = c.args in
    let e = c.are_stepping-else-are_stepping.ensures c.if-are_stepping-2.true in
    let sides = rw c.stepping-lines.ensures at c.row_sides.ensures in
    rw e (where_done a.values.now a.flags.now _ _ a.to a.n _ c.requires.2 (rw e at c.requires.0) sides (rw c.stepping-lines.ensures at c.row_chosen-then-are_stepping-2.ensures))
