use Rattle.std.proofs.Common.{◌≡◌, arith}
use native.Mathlib.Nat.{zero-mul}
use Rattle.laws.proofs.Store.{store_none}
use Rattle.views.proofs.RowPlaces.{rows_below, row_below}
use Rattle.views.proofs.Rowwise.{row_within}
use Rattle.overlaying.proofs.Overlays.{overlay_turn}
use Rattle.overlaying.proofs.overlay.Goals as goal

pub loop-i-init : goal.loop-i-init
loop-i-init g c d = rw zero-mul (store_none _ _ _)

pub row-requires : goal.row-requires
row-requires g c = (omega arith, rows_below c.args.grid.extents c.args.a (omega arith))

pub row-requires-in-loop-i : goal.row-requires-in-loop-i
row-requires-in-loop-i g c = (omega arith, rows_below c.args.grid.extents c.args.b (omega arith))

pub overlay_row-requires : goal.overlay_row-requires
overlay_row-requires g c =
    let a = c.row.ensures in
    let b = c.row-in-loop-i.ensures in
    rw (a.0, b.0)
    (rw a.0 at (row_below c.args.grid.extents c.args.a c.requires.0 a.1), rw b.0 at (row_below c.args.grid.extents c.args.b c.requires.1 b.1), c.requires.2, omega (arith, row_within c.args.grid c.loop-i-test.true))

pub loop-i-preserved : goal.loop-i-preserved
loop-i-preserved g c d =
    overlay_turn d _ _ _ c.args.grid.extents c.args.a c.args.b c.loop-i.i (c.loop-i.invariant d) (rw (c.row.ensures.0, c.row-in-loop-i.ensures.0) at c.overlay_row.ensures d)

pub returns : goal.returns
returns g c d =
    let e : c.loop-i.i ≡ c.args.grid.rows = omega arith in
    rw (← c.args.grid.all_rows, ← e) (c.loop-i.invariant d)
