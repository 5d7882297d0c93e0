use Rattle.std.proofs.Common.{arith}
use native.Mathlib.Nat.{zero-mul}
use Rattle.laws.proofs.Store.{store_none}
use Rattle.views.proofs.Rowwise.{row_within}
use Rattle.moving.proofs.Bands.{pad_turn}
use Rattle.moving.proofs.lay_cells.Goals as goal

pub loop-i-init : goal.loop-i-init
loop-i-init g c = rw zero-mul (store_none _ _ _)

pub lay_row-requires : goal.lay_row-requires
lay_row-requires g c =
    let fits = row_within c.args.grid c.loop-i-test.true in
    (c.requires.0, omega arith, omega arith, omega (arith, fits))

pub loop-i-preserved : goal.loop-i-preserved
loop-i-preserved g c = pad_turn c.args.gap _ c.args.grid.extents c.args.o c.args.s c.args.base c.args.start c.loop-i.i c.requires.0.extents.p3 c.requires.1 c.loop-i.invariant c.lay_row.ensures
