use Rattle.evaluation.proofs.Filled.{overlaid_both}
use native.Mathlib.Omega.{arith}
use Rattle.evaluation.proofs.overlay_cells.Goals as goal

pub settle-t-requires : goal.settle-t-requires
settle-t-requires c = record { some = c.requires.1; few = omega (arith, c.requires.2, c.well_formed.0); a = omega (arith, c.requires.0.a, c.requires.2, c.well_formed.0); b = omega (arith, c.requires.0.b, c.requires.2, c.well_formed.0); d = omega (arith, c.requires.0.d, c.requires.2, c.well_formed.0) }

pub of-grid-requires : goal.of-grid-requires
of-grid-requires c = let w = c.settle-t.ensures in (omega (arith, w.cells, c.requires.1), omega (arith, w.cells, c.requires.2, c.well_formed.0))

pub overlay_values-requires : goal.overlay_values-requires
overlay_values-requires c =
    let w = c.settle-t.ensures in
    let n = c.of-grid.ensures in
    (rw n (omega (arith, w.a.far, c.requires.0.a)), rw n (omega (arith, w.b.far, c.requires.0.b)), rw n (omega (arith, w.cells, c.requires.2)), rw n (omega (arith, w.cells, c.requires.3)))

pub overlay_flags-requires : goal.overlay_flags-requires
overlay_flags-requires c =
    let w = c.settle-t.ensures in
    let n = c.of-grid.ensures in
    (rw n (omega (arith, w.a.far, c.requires.0.a)), rw n (omega (arith, w.b.far, c.requires.0.b)), rw n (omega (arith, w.cells, c.requires.3)))

pub returns : goal.returns
returns c =
    let t = c.settle-t in
    let a = c.args in
    overlaid_both a.values.now a.flags.now a.w t.result a.start t.ensures (rw c.of-grid.ensures at c.overlay_values.ensures) (rw c.of-grid.ensures at c.overlay_flags.ensures)
