use mathlib.Core.Path.{ap}
use borrow.Author.Rules.{sfits_of}
use mir.Syntax.{w64}
use mir.Val.{of_z}
use Rattle.laws.specs.Integers.{floor_div}
use Rattle.laws.proofs.Machine.{read_back_is}
use Rattle.bounds.proofs.Readback.{back, by_zero_below, by_zero_above}
use Rattle.bounds.proofs.quotient.Goals as goal

pub returns-then-a-lt0 : goal.returns-then-a-lt0
returns-then-a-lt0 c = by_zero_below c.ranges.a c.ranges.b c.if-b-eq0.true c.if-a-lt0.true

pub returns-then-b-eq0 : goal.returns-then-b-eq0
returns-then-b-eq0 c = by_zero_above c.ranges.a c.ranges.b c.if-b-eq0.true c.if-a-lt0.false

pub floor_div-requires : goal.floor_div-requires
floor_div-requires c = rw (read_back_is c.ranges.a, read_back_is c.ranges.b) (c.requires.0, c.requires.1, λ e. c.if-b-eq0.false (ap (of_z w64) e))

pub returns : goal.returns
returns c = back floor_div c.ranges.a c.ranges.b (sfits_of c.floor_div.type_inv) c.floor_div.ensures
