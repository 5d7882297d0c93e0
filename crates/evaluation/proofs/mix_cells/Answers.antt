use native.Mathlib.Omega.{arith}
use Rattle.plan.specs.Coded.{number_of}
use Rattle.evaluation.proofs.Mixed.{mixed_both, seen_alike}
use Rattle.evaluation.proofs.mix_cells.Goals as goal

pub settle-t-requires : goal.settle-t-requires
settle-t-requires c = record { some = c.requires.3; few = omega (arith, c.requires.4, c.well_formed.0); a = omega (arith, c.requires.2.a, c.requires.4, c.well_formed.0); b = omega (arith, c.requires.2.b, c.requires.4, c.well_formed.0); d = omega (arith, c.requires.2.d, c.requires.4, c.well_formed.0) }

pub of-grid-requires : goal.of-grid-requires
of-grid-requires c = let w = c.settle-t.ensures in (omega (arith, w.cells, c.requires.3), omega (arith, w.cells, c.requires.4, c.well_formed.0))

pub mix-requires : goal.mix-requires
mix-requires c =
    let w = c.settle-t.ensures in
    let n = c.of-grid.ensures in
    let near = c.requires.2 in
    ((c.requires.0, c.requires.1), rw n (omega (arith, w.a.far, near.a)), rw n (omega (arith, w.b.far, near.b)), rw n (omega (arith, w.d.far, near.d)), rw n (omega (arith, w.cells, c.requires.4)), rw n (omega (arith, w.cells, c.requires.5)), rw n (seen_alike c.args.values.now w.cells w.a c.requires.6), rw n (seen_alike c.args.values.now w.cells w.b c.requires.7))

pub returns : goal.returns
returns c =
    let t = c.settle-t in
    let a = c.args in
    mixed_both (number_of a.op) a.values.now a.flags.now a.w t.result a.start t.ensures (rw c.of-grid.ensures at c.mix.ensures)
