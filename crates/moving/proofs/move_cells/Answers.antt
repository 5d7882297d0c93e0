use Rattle.std.proofs.Common.{◌≡◌, arith}
use native.Mathlib.Nat.{zero-mul}
use Rattle.laws.proofs.Store.{store_none}
use Rattle.views.proofs.RowPlaces.{rows_below, row_below}
use Rattle.views.proofs.Rowwise.{row_within}
use Rattle.moving.proofs.Moves.{move_turn}
use Rattle.moving.proofs.move_cells.Goals as goal

pub loop-i-init : goal.loop-i-init
loop-i-init g c d = rw zero-mul (store_none _ _ _)

pub row-requires : goal.row-requires
row-requires g c = (omega arith, rows_below c.args.grid.extents c.args.v (omega arith))

pub copy_row-requires : goal.copy_row-requires
copy_row-requires g c =
    let line = c.row.ensures.0 in
    let near = row_below c.args.grid.extents c.args.v c.requires.0 c.row.ensures.1 in
    rw line (omega (arith, rw line at near), omega (arith, row_within c.args.grid c.loop-i-test.true))

pub loop-i-preserved : goal.loop-i-preserved
loop-i-preserved g c d = move_turn d _ c.args.grid.extents c.args.v c.args.start c.loop-i.i c.requires.0 (omega arith) (c.loop-i.invariant d) (rw c.row.ensures.0 at c.copy_row.ensures d)

pub returns : goal.returns
returns g c d =
    let e : c.loop-i.i ≡ c.args.grid.rows = omega arith in
    rw (← c.args.grid.all_rows, ← e) (c.loop-i.invariant d)
