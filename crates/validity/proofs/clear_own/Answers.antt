use Rattle.validity.proofs.Clearing.{all_kept, unit_near, own_cleared}
use Rattle.validity.proofs.clear_own.Goals as goal

pub clear_gaps-requires : goal.clear_gaps-requires
clear_gaps-requires c = rw c.unit.ensures (unit_near c.args.n c.args.to _ c.requires.1, c.requires.0)

pub returns-then-not-flags_from : goal.returns-then-not-flags_from
returns-then-not-flags_from c = let a = c.args in own_cleared a.values.now _ a.flags.now a.n a.to (rw c.unit.ensures at c.clear_gaps.ensures)

pub returns-else-not-flags_from : goal.returns-else-not-flags_from
returns-else-not-flags_from c = let a = c.args in all_kept a.values.now a.flags.now a.n a.to a.to (c.flags_from.ensures c.if-not-flags_from.false)
