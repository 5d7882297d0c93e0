use Prim.Native.Nat.{◌+◌, ◌*◌, ◌≤◌}
use mathlib.Core.Path.{refl}
use native.Mathlib.Omega.{arith}
use native.Mathlib.Nat.{zero-mul}
use Rattle.laws.proofs.Store.{store_none, length_store}
use Rattle.views.specs.Views.{cells_of, reach}
use Rattle.views.proofs.RowPlaces.{base_row, block_fits}
use Rattle.reducing.specs.Gathering.{far}
use Rattle.reducing.proofs.Rows.{row_near, row_turn}
use Rattle.reducing.proofs.Rooms.{fit_kept, room_ahead}
use Rattle.reducing.proofs.fold_rows.Goals as goal

pub loop-i-init : goal.loop-i-init
loop-i-init g c = (refl, rw zero-mul (store_none _ _ _))

pub fold_row-requires : goal.fold_row-requires
fold_row-requires g c =
    let a = c.args in
    let k = a.kept.grid.extents in
    let fold = g.F.Fold in
    let v = c.loop-i.invariant in
    let i = c.loop-i.i in
    let row = c.row-row.ensures in
    let more = far a.m a.gathered in
    let fits : i * k.r3 + k.r3 ≤ cells_of k = rw (← a.kept.grid.all_rows) (block_fits i a.kept.grid.rows k.r3 c.loop-i-test.true) in
    let near = row_near k a.kept.view more (reach k a.kept.view + more + 1) i (omega arith) row.0 row.1 in (
      omega (arith, near, c.requires.0),
      omega (arith, v.0, c.requires.1, fits),
      fit_kept fold.blank a.cells.now c.loop-i.cells a.start (i * k.r3) _ v.1 fold.Fits c.requires.2 (omega (arith, c.requires.0)) (rw row.0 (omega (arith, base_row k a.kept.view i))) (omega (arith, near)),
      room_ahead fold.blank a.cells.now c.loop-i.cells a.start (i * k.r3) _ v.1 fold.HasRoom (cells_of k) a.m c.requires.3 fits,
    )

pub loop-i-preserved : goal.loop-i-preserved
loop-i-preserved g c =
    let a = c.args in
    let v = c.loop-i.invariant in
    let h = c.fold_row.ensures in (
      rw (h, length_store) v.0,
      row_turn _ _ _ _ _ a.kept.grid.extents a.kept.view a.start c.loop-i.i a.m a.gathered c.requires.0 (rw (← a.kept.grid.all_rows) c.loop-i-test.true) v.1 h c.row-row.ensures.0,
    )
