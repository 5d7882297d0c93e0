use Rattle.std.proofs.Common.{◌<◌, ◌∙◌, rules, arith, length}
use Rattle.laws.proofs.Store.{store_none, store_step, store_load, store_done}
use Rattle.std.proofs.lemmas.List.{get_or_default}
use Rattle.moving.proofs.copy.Goals as goal

pub loop-i-init : goal.loop-i-init
loop-i-init g c d = store_none _ _ _

pub loop-i-preserved : goal.loop-i-preserved
loop-i-preserved g c d =
    let m = c.loop-i.cells in
    let there : c.at.result < length m = omega arith in
    let e = c.loop-i.invariant d in
    store_step _ _ _ _ _ _ e (c.index-cells-at.is ∙ get_or_default m c.at.result _ d there ∙ store_load _ _ _ _ _ _ _ d e c.at.ensures.0 (omega arith))

pub returns : goal.returns
returns g c d = store_done _ _ _ _ _ _ (c.loop-i.invariant d) (search rules) (search rules)
