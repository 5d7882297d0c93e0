use Rattle.std.proofs.Common.{◌∙◌, rules}
use mir.Facts.{to_z-of_z}
use mir.Syntax.{w64}
use Rattle.laws.proofs.Store.{store_none, store_step}
use Rattle.overlaying.proofs.known_values.Goals as goal

pub loop-i-init : goal.loop-i-init
loop-i-init c = store_none _ _ _

pub loop-i-preserved : goal.loop-i-preserved
loop-i-preserved c = store_step _ _ _ _ _ _ c.loop-i.invariant (to_z-of_z {w = w64} (search rules) ∙ c.from.ensures)
