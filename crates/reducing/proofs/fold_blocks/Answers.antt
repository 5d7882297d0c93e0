use Prim.Native.Nat.{◌+◌}
use mathlib.Core.Path.{refl}
use native.Mathlib.Omega.{arith}
use Rattle.laws.proofs.Store.{length_store}
use Rattle.views.specs.Views.{cells_of, rows_of, reach}
use Rattle.reducing.proofs.Folds.{blocks_none}
use Rattle.reducing.proofs.Rows.{row_near, sources_fit, block_turn}
use Rattle.reducing.proofs.Rooms.{fit_kept, room_block}
use Rattle.reducing.proofs.fold_blocks.Goals as goal

pub loop-j-init : goal.loop-j-init
loop-j-init g c = (refl, blocks_none _ _ _ _ _ _ _)

pub fold_rows-requires : goal.fold_rows-requires
fold_rows-requires g c =
    let a = c.args in
    let fold = g.F.Fold in
    let v = c.loop-j.invariant in
    let kept = a.kept in
    let over = a.gathered in
    let run = c.row-run.ensures in
    let near = row_near over.grid.extents over.view (reach kept.grid.extents kept.view) (reach kept.grid.extents kept.view + reach over.grid.extents over.view + 1) c.loop-j.j (omega arith) run.0 run.1 in (
      omega (arith, near, c.requires.0),
      omega (arith, v.0, c.requires.1),
      fit_kept fold.blank a.cells.now c.loop-j.cells a.start (cells_of kept.grid.extents) _ v.1 fold.Fits c.requires.2 (omega (arith, c.requires.0)) (omega arith) (omega (arith, near)),
      room_block g.met.F.Fold.laws fold.blank _ _ a.start (cells_of kept.grid.extents) c.loop-j.j (rows_of over.grid.extents) over.grid.extents.r3 _ c.requires.1 v.1
          (sources_fit kept.grid.extents kept.view fold.Fits fold.blank a.cells.now over.grid.extents over.view c.requires.2) c.requires.3 (rw (← over.grid.all_rows) c.loop-j-test.true),
    )

pub loop-j-preserved : goal.loop-j-preserved
loop-j-preserved g c =
    let a = c.args in
    let v = c.loop-j.invariant in
    let h = c.fold_rows.ensures in (
      rw (h, length_store) v.0,
      block_turn _ _ _ _ _ a.kept.grid.extents a.kept.view a.start a.gathered.grid.extents a.gathered.view c.loop-j.j c.requires.0 c.requires.1
          (rw (← a.gathered.grid.all_rows) c.loop-j-test.true) v.1 h c.row-run.ensures.0,
    )
