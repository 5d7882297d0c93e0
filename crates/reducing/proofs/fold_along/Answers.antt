use native.Mathlib.Omega.{arith}
use Rattle.reducing.proofs.Folds.{cell_read, fold_none, fold_turn}
use Rattle.reducing.proofs.Rooms.{run_room}
use Rattle.reducing.proofs.fold_along.Goals as goal

pub loop-i-init : goal.loop-i-init
loop-i-init g c = fold_none _ _ _

pub combine-folded-requires : goal.combine-folded-requires
combine-folded-requires g c =
    let a = c.args in
    run_room g.met.F.Fold.laws g.F.Fold.blank a.acc a.cells.now a.n a.line c.loop-i.i c.requires.0 c.requires.1 c.requires.2 c.loop-i-test.true c.loop-i.invariant
    c.at.ensures.0 c.index-cells-at.is

pub loop-i-preserved : goal.loop-i-preserved
loop-i-preserved g c =
    let a = c.args in
    let d = g.F.Fold.blank in
    fold_turn _ _ d a.cells.now a.n a.line c.loop-i.i c.loop-i.invariant c.at.ensures.0
    (cell_read d a.cells.now c.at.result c.index-cells-at.is (omega (arith, c.at.ensures.1, c.requires.0))) c.combine-folded.ensures
