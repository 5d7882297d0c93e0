use Prim.Native.Nat.{◌%◌}
use native.Mathlib.Omega.{arith}
use Rattle.shapes.specs.Shown.{shown}
use Rattle.views.proofs.Fronts.{grid_cells}
use Rattle.views.proofs.Axiswise.{fourth_pos, row_lt}
use Rattle.views.proofs.Padding.{band_in}
use Rattle.evaluation.proofs.Laying.{pad_laid}
use Rattle.following.proofs.Elements.{row_gap, column_gap, laid_element}
use Rattle.following.proofs.padded_origin.Goals as goal

pub nonzero_div-row : goal.nonzero_div-row
nonzero_div-row c =
    let over = c.grid-g in
    fourth_pos over.result c.args.e (rw (grid_cells (shown c.args.r) over.result over.ensures) c.requires.1)

pub nonzero_rem-column : goal.nonzero_rem-column
nonzero_rem-column c = nonzero_div-row c

pub row_inside-requires : goal.row_inside-requires
row_inside-requires c =
    let under = c.grid-inner in
    let over = c.grid-g in
    let o = rw c.rank.ensures at c.words-offsets.ensures in (
      pad_laid c.args.x _ _ under.result over.result c.words-offsets.result c.requires.0 under.ensures over.ensures o,
      row_lt over.result c.args.e (rw (grid_cells (shown c.args.r) over.result over.ensures) c.requires.1),
    )

pub returns-then-not-row_inside : goal.returns-then-not-row_inside
returns-then-not-row_inside c =
    let under = c.grid-inner in
    let over = c.grid-g in
    let o = rw c.rank.ensures at c.words-offsets.ensures in
    row_gap c.args.x _ _ under.result over.result c.words-offsets.result c.requires.0 under.ensures over.ensures o c.args.e c.requires.1 (rw c.row_inside.ensures at c.if-not-row_inside.true)

pub in_band-requires : goal.in_band-requires
in_band-requires c =
    let o = rw c.rank.ensures at c.words-offsets.ensures in
    let laid = pad_laid c.args.x _ _ c.grid-inner.result c.grid-g.result c.words-offsets.result c.requires.0 c.grid-inner.ensures c.grid-g.ensures o in
    omega (arith, laid.l3, laid.narrow)

pub returns-then-not-in_band : goal.returns-then-not-in_band
returns-then-not-in_band c =
    let under = c.grid-inner in
    let over = c.grid-g in
    let o = rw c.rank.ensures at c.words-offsets.ensures in
    let inside = rw c.row_inside.ensures at c.if-not-row_inside.false in
    column_gap c.args.x _ _ under.result over.result c.words-offsets.result c.requires.0 under.ensures over.ensures o c.args.e c.requires.1 inside (rw c.in_band.ensures at c.if-not-in_band.true)

pub row_start-begins-requires : goal.row_start-begins-requires
row_start-begins-requires c =
    let under = c.grid-inner in
    let over = c.grid-g in
    let o = rw c.rank.ensures at c.words-offsets.ensures in
    let laid = pad_laid c.args.x _ _ under.result over.result c.words-offsets.result c.requires.0 under.ensures over.ensures o in
    let low = row_lt over.result c.args.e (rw (grid_cells (shown c.args.r) over.result over.ensures) c.requires.1) in
    let inside = rw c.row_inside.ensures at c.if-not-row_inside.false in
    (laid, low, inside, omega (arith, grid_cells (shown c.args.s) under.result under.ensures, c.requires.0.few))

pub overflow_sub-result : goal.overflow_sub-result
overflow_sub-result c = (band_in _ _ _ (rw c.in_band.ensures at c.if-not-in_band.false)).0

pub overflow_add-result : goal.overflow_add-result
overflow_add-result c =
    let under = c.grid-inner in
    let column = band_in c.words-offsets.result.r3 under.result.r3 (c.args.e % c.grid-g.result.r3) (rw c.in_band.ensures at c.if-not-in_band.false) in
    omega (arith, column.1, c.row_start-begins.ensures.1, grid_cells (shown c.args.s) under.result under.ensures, c.requires.0.few)

pub returns : goal.returns
returns c =
    let under = c.grid-inner in
    let over = c.grid-g in
    let o = rw c.rank.ensures at c.words-offsets.ensures in
    let inside = rw c.row_inside.ensures at c.if-not-row_inside.false in
    let column = rw c.in_band.ensures at c.if-not-in_band.false in
    laid_element c.args.x _ _ under.result over.result c.words-offsets.result c.requires.0 under.ensures over.ensures o c.args.e c.requires.1 inside column c.row_start-begins.ensures.0
