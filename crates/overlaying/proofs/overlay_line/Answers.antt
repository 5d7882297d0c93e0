use Rattle.std.proofs.Common.{◌<◌, arith, rules, length}
use Rattle.laws.proofs.Store.{store_none, store_step, store_done}
use Rattle.overlaying.proofs.Overlays.{over_read}
use Rattle.overlaying.proofs.overlay_line.Goals as goal

pub loop-i-init : goal.loop-i-init
loop-i-init g c d = store_none _ _ _

pub loop-i-preserved : goal.loop-i-preserved
loop-i-preserved g c d =
    let first : c.at-k.result < length c.args.cells.now = omega arith in
    let second : c.at.result < length c.args.cells.now = omega arith in
    store_step _ _ _ _ _ _ (c.loop-i.invariant d) (over_read d _ _ c.at-k.ensures.0 c.at.ensures.0 first second c.upper.ensures c.index-cells-k.is c.index-cells-at.is)

pub returns : goal.returns
returns g c d = store_done _ _ _ _ _ _ (c.loop-i.invariant d) (search rules) (search rules)
