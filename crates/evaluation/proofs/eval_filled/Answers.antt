use Rattle.evaluation.proofs.Filled.{fill_evaluates}
use native.Mathlib.Omega.{arith}
use Rattle.evaluation.proofs.eval_filled.Goals as goal

pub overlay_cells-requires : goal.overlay_cells-requires
overlay_cells-requires c =
    let g = c.grid-grid in
    let wa = c.operand_view-va.ensures _ g.result g.ensures c.requires.3 c.requires.4 in
    let wb = c.operand_view-vb.ensures _ g.result g.ensures c.requires.3 c.requires.5 in
    let room = c.requires.6 in
    (record { a = omega (arith, wa.inside, c.requires.7); b = omega (arith, wb.inside, c.requires.8); d = omega (arith, wb.inside, c.requires.8) }, omega (arith, wa.cells, room.some), omega (arith, wa.cells, room.values), omega (arith, wa.cells, room.flags))

pub returns : goal.returns
returns c =
    let g = c.grid-grid in
    let wa = c.operand_view-va.ensures _ g.result g.ensures c.requires.3 c.requires.4 in
    let wb = c.operand_view-vb.ensures _ g.result g.ensures c.requires.3 c.requires.5 in
    λ o first second. fill_evaluates c.args.x _ o _ _ c.args.start c.requires.0 wa wb first second c.overlay_cells.ensures
