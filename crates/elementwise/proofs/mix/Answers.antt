use Rattle.std.proofs.Common.{◌≡◌, ◌<◌, arith, pos}
use native.Mathlib.Nat.{zero-mul}
use Rattle.laws.proofs.Store.{store_none}
use Rattle.plan.specs.Coded.{number_of}
use Rattle.views.specs.Views.{rows_of}
use Rattle.views.proofs.RowPlaces.{rows_below}
use Rattle.views.proofs.Rowwise.{row_within}
use Rattle.validity.specs.Flags.{mix_flag}
use Rattle.validity.proofs.Rows.{kept, mix_turn}
use Rattle.elementwise.specs.Mixing.{mix_value}
use Rattle.elementwise.proofs.Rows.{row_sources}
use Rattle.elementwise.proofs.mix.Goals as goal

pub loop-i-init : goal.loop-i-init
loop-i-init c = (rw zero-mul (store_none _ _ _), rw zero-mul (store_none _ _ _))

pub row-requires : goal.row-requires
row-requires c = (omega (arith, c.loop-i-test.true, c.args.grid.all_rows), omega (arith, rows_below c.args.grid.extents c.args.a c.requires.1, c.requires.4, c.well_formed.0))

pub row-requires-in-loop-i : goal.row-requires-in-loop-i
row-requires-in-loop-i c = (omega (arith, c.loop-i-test.true, c.args.grid.all_rows), omega (arith, rows_below c.args.grid.extents c.args.b c.requires.2, c.requires.4, c.well_formed.0))

pub row-requires-in-loop-i-2 : goal.row-requires-in-loop-i-2
row-requires-in-loop-i-2 c = (omega (arith, c.loop-i-test.true, c.args.grid.all_rows), omega (arith, rows_below c.args.grid.extents c.args.d c.requires.3, c.requires.4, c.well_formed.0))

pub mix_long_row-requires : goal.mix_long_row-requires
mix_long_row-requires c =
    let a = c.args in
    let l = c.loop-i in
    let p = c.requires in
    let fits = row_within a.grid c.loop-i-test.true in
    let few : l.i < rows_of a.grid.extents = omega (arith, a.grid.all_rows, c.loop-i-test.true) in
    let v = kept (pos 0) a.values.now l.values a.start _ _ l.invariant.0 in (
      p.0,
      rw (c.row.ensures.0, c.row-in-loop-i.ensures.0, c.row-in-loop-i-2.ensures.0) (row_sources v a.grid.extents a.a a.b a.d l.i p.1 p.2 p.3 few p.6 p.7),
      omega (arith, l.auto.values, p.4, fits),
      omega (arith, l.auto.flags, p.5, fits),
    )

pub loop-i-preserved : goal.loop-i-preserved
loop-i-preserved c =
    let a = c.args in
    let l = c.loop-i in
    let p = c.requires in
    let few : l.i < rows_of a.grid.extents = omega (arith, a.grid.all_rows, c.loop-i-test.true) in
    let v = kept (pos 0) a.values.now l.values a.start _ _ l.invariant.0 in
    let f = kept 0 a.flags.now l.flags a.start _ _ l.invariant.1 in
    let h = rw (c.row.ensures.0, c.row-in-loop-i.ensures.0, c.row-in-loop-i-2.ensures.0) at c.mix_long_row.ensures in (
      mix_turn v f (mix_value (number_of a.op)) a.grid.extents a.a a.b a.d _ _ _ l.i p.1 p.2 p.3 few l.invariant.0 h.0,
      mix_turn v f (mix_flag (number_of a.op)) a.grid.extents a.a a.b a.d _ _ _ l.i p.1 p.2 p.3 few l.invariant.1 h.1,
    )

pub returns : goal.returns
returns c =
    let l = c.loop-i in
    let done : l.i ≡ rows_of c.args.grid.extents = omega (arith, c.args.grid.all_rows, c.loop-i-test.false, l.auto.i-end) in
    rw done at l.invariant
