use Rattle.std.proofs.Common.{refl, rules}
use Rattle.laws.proofs.Store.{store_none, store_step}
use Rattle.inputs.proofs.param_flags.Goals as goal

pub loop-i-init : goal.loop-i-init
loop-i-init c = (refl, store_none _ _ _)

pub loop-i-preserved : goal.loop-i-preserved
loop-i-preserved c = (search rules, store_step _ _ _ _ _ _ c.loop-i.invariant.1 c.known_flag.ensures)
