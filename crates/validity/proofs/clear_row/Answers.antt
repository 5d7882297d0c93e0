use Rattle.validity.proofs.Clearing.{all_kept, unit_room, unit_cleared}
use Rattle.validity.proofs.clear_row.Goals as goal

pub flags_from-requires : goal.flags_from-requires
flags_from-requires c = unit_room c.args.n c.args.line.place _ (rw (c.steps_by.ensures c.if-not-steps_by.false) at c.requires.0)

pub returns-else-not-flags_from : goal.returns-else-not-flags_from
returns-else-not-flags_from c =
    let a = c.args in
    rw (c.steps_by.ensures c.if-not-steps_by.false)
    (unit_cleared a.values.now _ a.flags.now a.n a.line.place a.to (all_kept a.values.now a.flags.now a.n a.line.place a.to (c.flags_from.ensures c.if-not-flags_from.false)))
