use native.Mathlib.Omega.{arith}
use Rattle.shapes.specs.Shown.{shown}
use Rattle.views.proofs.Fronts.{grid_cells}
use Rattle.evaluation.proofs.Laying.{pad_laid, pad_evaluates}
use Rattle.evaluation.proofs.eval_padded.Goals as goal

pub of-grid-requires : goal.of-grid-requires
of-grid-requires c =
    let cells = grid_cells (shown c.args.r) c.grid-g.result c.grid-g.ensures in
    (omega (arith, cells, c.requires.1.some), omega (arith, cells, c.requires.0.few))

pub lay_cells-requires : goal.lay_cells-requires
lay_cells-requires c =
    let under = c.grid-inner in
    let over = c.grid-g in
    let o = rw c.rank.ensures at c.words-offsets.ensures in
    let n = c.of-grid.ensures in
    let cells = grid_cells (shown c.args.r) over.result over.ensures in
    let inner = grid_cells (shown c.args.s) under.result under.ensures in
    (rw n (pad_laid c.args.x _ _ under.result over.result c.words-offsets.result c.requires.0 under.ensures over.ensures o), omega (arith, inner, c.requires.2), rw n (omega (arith, cells, c.requires.1.values)))

pub lay_cells-requires-2 : goal.lay_cells-requires-2
lay_cells-requires-2 c =
    let under = c.grid-inner in
    let over = c.grid-g in
    let o = rw c.rank.ensures at c.words-offsets.ensures in
    let n = c.of-grid.ensures in
    let cells = grid_cells (shown c.args.r) over.result over.ensures in
    let inner = grid_cells (shown c.args.s) under.result under.ensures in
    (rw n (pad_laid c.args.x _ _ under.result over.result c.words-offsets.result c.requires.0 under.ensures over.ensures o), omega (arith, inner, c.requires.2), rw n (omega (arith, cells, c.requires.1.flags)))

pub returns : goal.returns
returns c =
    let under = c.grid-inner in
    let over = c.grid-g in
    let o = rw c.rank.ensures at c.words-offsets.ensures in
    λ s from. pad_evaluates c.args.x _ _ under.result over.result c.words-offsets.result c.requires.0 under.ensures over.ensures o c.args.base s _ _ c.args.start from (rw c.of-grid.ensures at c.lay_cells.ensures) (rw c.of-grid.ensures at c.lay_cells-2.ensures)
