use Rattle.evaluation.proofs.Leaves.{flat_moved}
use Rattle.views.proofs.Walking.{flat_walks}
use native.Mathlib.Omega.{arith}
use lib.IntN.{pos}
use mathlib.Core.Path.{◌∙◌}
use Rattle.evaluation.proofs.copy_cells.Goals as goal

pub move_cells-requires : goal.move_cells-requires
move_cells-requires c =
    let w = flat_walks c.args.p c.args.n c.requires.0 in
    (omega (arith, w.cells, c.requires.0), omega (arith, w.inside, c.requires.1), omega (arith, w.cells, c.requires.2), omega (arith, w.cells, c.requires.3))

pub returns : goal.returns
returns c =
    let m = c.move_cells.ensures in
    (m.0 ∙ flat_moved (pos 0) c.args.values.now c.args.p c.args.n c.args.to c.requires.0, m.1 ∙ flat_moved 0 c.args.flags.now c.args.p c.args.n c.args.to c.requires.0)
