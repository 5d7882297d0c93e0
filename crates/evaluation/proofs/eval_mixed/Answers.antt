use Rattle.shapes.specs.Shown.{shown}
use native.Mathlib.Omega.{arith}
use Rattle.evaluation.proofs.Mixed.{spread_near, spread_small, mixed_evaluates}
use Rattle.evaluation.proofs.eval_mixed.Goals as goal

pub mix_cells-requires : goal.mix_cells-requires
mix_cells-requires c =
    let a = c.args in
    let p = c.requires in
    let w = c.mixed_walk-w.ensures in
    let cells = w.first.cells in
    let room = p.4 in
    (omega (arith, p.0, p.1), omega (arith, p.0, p.2), spread_near w p.7 p.8 p.9, omega (arith, cells, room.some), omega (arith, cells, room.values), omega (arith, cells, room.flags), spread_small a.values.now (shown a.a.shape) (shown a.r) w.first p.5, spread_small a.values.now (shown a.b.shape) (shown a.r) w.second p.6)

pub returns : goal.returns
returns c =
    let w = c.mixed_walk-w.ensures in
    λ o first second third. mixed_evaluates c.args.x o _ _ c.args.start c.requires.1 c.requires.2 w first second third (rw c.requires.0 at c.mix_cells.ensures)
