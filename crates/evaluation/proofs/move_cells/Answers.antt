use mathlib.Core.Path.{◌∙◌}
use native.Mathlib.Omega.{arith}
use lib.IntN.{pos}
use Rattle.evaluation.proofs.Walked.{moved_alike}
use Rattle.evaluation.proofs.move_cells.Goals as goal

pub move_cells-requires : goal.move_cells-requires
move_cells-requires c =
    let w = c.settle-w.ensures in
    let n = c.of-grid.ensures in
    (rw n (omega (arith, w.a.far, c.requires.1)), rw n (omega (arith, w.cells, c.requires.2)))

pub move_cells-requires-2 : goal.move_cells-requires-2
move_cells-requires-2 c =
    let w = c.settle-w.ensures in
    let n = c.of-grid.ensures in
    (rw n (omega (arith, w.a.far, c.requires.1)), rw n (omega (arith, w.cells, c.requires.3)))

pub returns : goal.returns
returns c =
    let w = c.settle-w in
    let s = w.ensures in
    (rw c.of-grid.ensures at (c.move_cells.ensures (pos 0)) ∙ moved_alike (pos 0) _ _ _ _ _ _ s.cells s.a, rw c.of-grid.ensures at (c.move_cells-2.ensures 0) ∙ moved_alike 0 _ _ _ _ _ _ s.cells s.a)
