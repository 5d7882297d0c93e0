use native.Mathlib.Omega.{arith}
use Rattle.evaluation.proofs.Walked.{walk_evaluates, viewed_cell}
use Rattle.evaluation.proofs.eval_viewed.Goals as goal

pub move_cells-requires : goal.move_cells-requires
move_cells-requires c =
    let g = c.grid in
    let w = rw (← c.requires.1) at (c.view_of-v.ensures g.result (rw c.requires.1 at g.ensures)) in
    let room = c.requires.2 in
    (omega (arith, w.cells, room.some), omega (arith, w.inside, c.requires.3), omega (arith, w.cells, room.values), omega (arith, w.cells, room.flags))

pub returns : goal.returns
returns c =
    let g = c.grid in
    let a = c.args in
    let w = rw (← c.requires.1) at (c.view_of-v.ensures g.result (rw c.requires.1 at g.ensures)) in
    let m = c.move_cells.ensures in
    λ o from. walk_evaluates a.x _ _ o _ _ a.start from w (λ e. rw (← from.shape) (viewed_cell a.x _ o e c.requires.0.operation)) m.0 m.1
