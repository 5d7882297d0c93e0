use mathlib.Core.Path.{◌≡◌}
use native.Mathlib.Omega.{arith}
use native.Mathlib.Numerals.{add-one}
use Rattle.views.specs.Strides.{axes_in_front}
use Rattle.views.proofs.Steps.{two, three}
use Rattle.views.proofs.axes.Goals as goal

pub returns-in-0 : goal.returns-in-0
unfolding axes_in_front
returns-in-0 c = rw c.in-0.is

pub returns-in-1 : goal.returns-in-1
unfolding axes_in_front
returns-in-1 c = rw (c.in-1.is, three)

pub returns-in-2 : goal.returns-in-2
unfolding axes_in_front
returns-in-2 c = rw (c.in-2.is, two, two)

pub returns-in-3 : goal.returns-in-3
unfolding axes_in_front
returns-in-3 c = rw (c.in-3.is, add-one, add-one, add-one)

pub returns-in_default : goal.returns-in_default
unfolding axes_in_front
returns-in_default c = let e : c.args.rank ≡ 4 = omega arith in rw e
