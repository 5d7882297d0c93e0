use Prim.Native.Nat.{◌+◌}
use mathlib.Core.Path.{refl}
use native.Mathlib.Omega.{arith}
use Rattle.laws.proofs.Store.{store_none, store_step}
use Rattle.reducing.proofs.Folds.{cell_read, cell_turn}
use Rattle.reducing.proofs.Rooms.{fit_at, room_at}
use borrow.Author.Rules.{rules}
use Rattle.reducing.proofs.take_along.Goals as goal

pub loop-c-init : goal.loop-c-init
loop-c-init g c = (refl, store_none _ _ _)

pub combine-requires : goal.combine-requires
combine-requires g c =
    let fold = g.F.Fold in
    let v = c.loop-c.invariant in
    let at = c.at.ensures in (
      rw (cell_read fold.blank c.loop-c.cells (c.args.to + c.loop-c.c) c.index-cells-to.is (omega (arith, v.0, c.requires.1, c.loop-c-test.true)))
          (room_at fold.blank c.args.cells.now c.loop-c.cells c.args.to c.loop-c.c _ v.1 fold.HasRoom c.args.n 1 c.requires.3 c.loop-c-test.true),
      rw (cell_read fold.blank c.loop-c.cells c.at.result c.index-cells-at.is (omega (arith, v.0, at.1, c.requires.0, c.requires.1)))
          (fit_at fold.blank c.args.cells.now c.loop-c.cells c.args.to c.loop-c.c _ v.1 fold.Fits c.at.result c.requires.2 (omega (arith, c.requires.0)) (omega (arith, at.0)) (omega (arith, at.1))),
    )

pub loop-c-preserved : goal.loop-c-preserved
loop-c-preserved g c =
    let a = c.args in
    let fold = g.F.Fold in
    let v = c.loop-c.invariant in
    let at = c.at.ensures in (
      search rules,
      store_step _ _ _ _ _ _ v.1
          (cell_turn _ fold.blank _ _ a.to c.loop-c.c a.n a.line _ v.1 c.requires.0 c.loop-c-test.true at.0
          (cell_read fold.blank c.loop-c.cells (c.args.to + c.loop-c.c) c.index-cells-to.is (omega (arith, v.0, c.requires.1, c.loop-c-test.true)))
          (cell_read fold.blank c.loop-c.cells c.at.result c.index-cells-at.is (omega (arith, v.0, at.1, c.requires.0, c.requires.1))) c.combine.ensures),
    )
