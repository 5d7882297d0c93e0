use Rattle.std.proofs.Common.{rules, ◌∙◌}
use Rattle.laws.proofs.Machine.{read_back_is}
use Rattle.laws.proofs.Store.{store_none, store_step}
use Rattle.validity.proofs.Rows.{side_read}
use Rattle.validity.proofs.row_sides.Goals as goal

pub loop-i-init : goal.loop-i-init
loop-i-init c = store_none _ _ _

pub loop-i-preserved : goal.loop-i-preserved
loop-i-preserved c = store_step _ _ _ _ _ _ c.loop-i.invariant (c.side.ensures ∙ side_read c.args.values.now (read_back_is (search rules)) c.at.ensures.0)
