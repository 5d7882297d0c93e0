use Rattle.std.proofs.Common.{rules, ◌∙◌, refl, zero-add}
use Rattle.laws.proofs.Machine.{read_back_is}
use Rattle.laws.proofs.Store.{store_none, store_step, store_done}
use Rattle.validity.proofs.Rows.{whole, side_read}
use Rattle.validity.proofs.read_sides.Goals as goal

pub loop-i-init : goal.loop-i-init
loop-i-init c = store_none _ _ _

pub loop-i-preserved : goal.loop-i-preserved
loop-i-preserved c = rw zero-add at (store_step _ _ _ _ _ _ c.loop-i.invariant (c.side.ensures ∙ side_read c.args.values.now (read_back_is (search rules)) refl))

pub returns : goal.returns
returns c = store_done _ _ _ c.loop-i.i 8 _ c.loop-i.invariant c.loop-i.auto.i-end c.loop-i-test.false ∙ whole _ 0 _ 8 refl
