use mathlib.Core.Path.{◌≡◌}
use mathlib.Core.Bool.{true, false}
use lib.IntN.{pos}
use lib.Signed.{lt_z, le_z}
use Rattle.laws.proofs.Machine.{lt_z_read, le_z_read, fit_at}
use Rattle.bounds.specs.Rules.{cmplt_bounds}
use Rattle.plan.specs.declared.Interval.{Interval}
use Rattle.bounds.proofs.cmplt_bounds.Goals as goal

module _ (x y : Interval) where
  below : lt_z x.high y.low ≡ true → record { low = pos 1; high = pos 1 } ≡ cmplt_bounds x y
  unfolding cmplt_bounds
  below e = rw e

  above : lt_z x.high y.low ≡ false → le_z y.high x.low ≡ true → record { low = pos 0; high = pos 0 } ≡ cmplt_bounds x y
  unfolding cmplt_bounds
  above e f = rw (e, f)

  mixed : lt_z x.high y.low ≡ false → le_z y.high x.low ≡ false → record { low = pos 0; high = pos 1 } ≡ cmplt_bounds x y
  unfolding cmplt_bounds
  mixed e f = rw (e, f)

pub returns-then-aa-b : goal.returns-then-aa-b
returns-then-aa-b c =
    let g = c.struct_told-4-1.given in
    let k = c.struct_told-2-1.given in
    below c.args.x c.args.y (lt_z_read (fit_at c.args.x.high k.1.0.1) (fit_at c.args.y.low g.0.1) c.if-aa-b.true)

pub returns-then-bb-a : goal.returns-then-bb-a
returns-then-bb-a c =
    let g = c.struct_told-4-1.given in
    let k = c.struct_told-2-1.given in
    above c.args.x c.args.y (lt_z_read (fit_at c.args.x.high k.1.0.1) (fit_at c.args.y.low g.0.1) c.if-aa-b.false)
    (le_z_read (fit_at c.args.y.high g.1.0.1) (fit_at c.args.x.low k.0.1) c.if-bb-a.true)

pub returns : goal.returns
returns c =
    let g = c.struct_told-4-1.given in
    let k = c.struct_told-2-1.given in
    mixed c.args.x c.args.y (lt_z_read (fit_at c.args.x.high k.1.0.1) (fit_at c.args.y.low g.0.1) c.if-aa-b.false)
    (le_z_read (fit_at c.args.y.high g.1.0.1) (fit_at c.args.x.low k.0.1) c.if-bb-a.false)
