use Rattle.std.proofs.Common.{refl}
use Rattle.laws.proofs.Store.{store_none, store_step}
use Rattle.moving.proofs.fill.Goals as goal

pub loop-i-init : goal.loop-i-init
loop-i-init g c = store_none _ _ _

pub loop-i-preserved : goal.loop-i-preserved
loop-i-preserved g c = store_step _ _ _ _ _ _ c.loop-i.invariant refl
