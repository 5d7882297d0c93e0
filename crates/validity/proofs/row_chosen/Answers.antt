use Rattle.std.proofs.Common.{◌+◌, arith, ◌∙◌}
use Rattle.laws.proofs.Store.{store_none, store_step, store_ahead}
use Rattle.validity.proofs.Rows.{kept, cells_kept, chosen_read}
use Rattle.validity.proofs.row_chosen.Goals as goal

pub loop-i-init : goal.loop-i-init
loop-i-init c = store_none _ _ _

pub loop-i-preserved : goal.loop-i-preserved
loop-i-preserved c =
    let a = c.args in
    let l = c.loop-i in
    let e = cells_kept (kept 0 _ _ _ _ _ l.invariant) a.lines a.n l.i c.requires.0 c.loop-i-test.true (c.read-f.ensures 0) in
    store_step _ _ _ _ _ _ l.invariant (c.side_flag.ensures ∙ chosen_read a.flags.now _ (a.to + l.i) _ _ _ (store_ahead _ _ _ _ _ (a.to + l.i) 0 l.invariant (omega arith)) e)
