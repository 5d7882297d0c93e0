use Rattle.std.proofs.Common.{◌≡◌, ◌<◌, arith, length}
use Rattle.views.specs.Views.{stride_of}
use Rattle.views.proofs.Steps.{stride_both}
use Rattle.moving.proofs.Moves.{still_filled}
use Rattle.moving.proofs.copy_row.Goals as goal

pub returns-in-1 : goal.returns-in-1
returns-in-1 g c d = let e : c.args.from.stride ≡ stride_of 1 0 = stride_both (omega arith) (omega arith) in rw e (rw c.unit.ensures at c.copy.ensures d)

pub returns-in-0 : goal.returns-in-0
returns-in-0 g c d =
    let a = c.args in
    let e : a.from.stride ≡ stride_of 0 0 = stride_both (omega arith) (omega arith) in
    let there : a.from.place < length a.cells.now = omega arith in
    rw e (still_filled d a.cells.now a.n a.from.place a.to there c.index-cells-from.is c.fill.ensures)
