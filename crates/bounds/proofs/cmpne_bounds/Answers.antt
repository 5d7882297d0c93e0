use mathlib.Core.Path.{◌≡◌}
use mathlib.Core.Bool.{true, false}
use lib.IntN.{pos}
use Rattle.laws.proofs.Machine.{read_back_is, fit_at}
use Rattle.plan.specs.declared.Interval.{Interval}
use Rattle.plan.specs.Types.{between}
use Rattle.bounds.specs.Rules.{disjoint, all_ends_equal, cmpne_bounds}
use Rattle.bounds.proofs.cmpne_bounds.Goals as goal

module _ (x y : Interval) where
  apart : disjoint x y ≡ true → between (pos 1) (pos 1) ≡ cmpne_bounds x y
  unfolding cmpne_bounds
  apart e = rw e

  equal : disjoint x y ≡ false → all_ends_equal x y ≡ true → between (pos 0) (pos 0) ≡ cmpne_bounds x y
  unfolding cmpne_bounds
  equal e f = rw (e, f)

  mixed : disjoint x y ≡ false → all_ends_equal x y ≡ false → between (pos 0) (pos 1) ≡ cmpne_bounds x y
  unfolding cmpne_bounds
  mixed e f = rw (e, f)

pub returns-then-aa-b : goal.returns-then-aa-b
unfolding disjoint
returns-then-aa-b c =
    let s = c.args in
    let y = c.struct_told-4-1.given in
    let x = c.struct_told-2-1.given in
    apart s.x s.y (rw (read_back_is (fit_at s.x.low x.0.1), read_back_is (fit_at s.x.high x.1.0.1), read_back_is (fit_at s.y.low y.0.1), read_back_is (fit_at s.y.high y.1.0.1)) at c.if-aa-b.true)

pub returns-then-a-aa : goal.returns-then-a-aa
unfolding disjoint all_ends_equal
returns-then-a-aa c =
    let s = c.args in
    let y = c.struct_told-4-1.given in
    let x = c.struct_told-2-1.given in
    equal s.x s.y
    (rw (read_back_is (fit_at s.x.low x.0.1), read_back_is (fit_at s.x.high x.1.0.1), read_back_is (fit_at s.y.low y.0.1), read_back_is (fit_at s.y.high y.1.0.1)) at c.if-aa-b.false)
    (rw (read_back_is (fit_at s.x.low x.0.1), read_back_is (fit_at s.x.high x.1.0.1), read_back_is (fit_at s.y.low y.0.1), read_back_is (fit_at s.y.high y.1.0.1)) at c.if-a-aa.true)

pub returns : goal.returns
unfolding disjoint all_ends_equal
returns c =
    let s = c.args in
    let y = c.struct_told-4-1.given in
    let x = c.struct_told-2-1.given in
    mixed s.x s.y
    (rw (read_back_is (fit_at s.x.low x.0.1), read_back_is (fit_at s.x.high x.1.0.1), read_back_is (fit_at s.y.low y.0.1), read_back_is (fit_at s.y.high y.1.0.1)) at c.if-aa-b.false)
    (rw (read_back_is (fit_at s.x.low x.0.1), read_back_is (fit_at s.x.high x.1.0.1), read_back_is (fit_at s.y.low y.0.1), read_back_is (fit_at s.y.high y.1.0.1)) at c.if-a-aa.false)
