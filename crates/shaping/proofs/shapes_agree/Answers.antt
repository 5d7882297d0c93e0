use mathlib.Core.Path.{refl}
use native.Mathlib.Omega.{arith}
use Rattle.laws.specs.Lists.{among}
use Rattle.plan.proofs.Coded.{number_is}
use Rattle.shapes.specs.Rules.{shapes_agree}
use Rattle.shaping.proofs.Rule8.{movement-laws}
use Rattle.shaping.proofs.shapes_agree.Goals as goal

pub narrow-requires : goal.narrow-requires
unfolding among
narrow-requires c = c.requires.row_a (rw (number_is c.args.x c.in-Reshape.is) refl)

pub narrow-requires-in-Expand : goal.narrow-requires-in-Expand
unfolding among
narrow-requires-in-Expand c = c.requires.row_a (rw (number_is c.args.x c.in-Expand.is) refl)

pub narrow-requires-in-Pad : goal.narrow-requires-in-Pad
unfolding among
narrow-requires-in-Pad c = c.requires.row_a (rw (number_is c.args.x c.in-Pad.is) refl)

pub narrow-requires-in-Pad-2 : goal.narrow-requires-in-Pad-2
unfolding among
narrow-requires-in-Pad-2 c = c.requires.row_b (rw (number_is c.args.x c.in-Pad.is) refl)

pub narrow-requires-in-Shrink : goal.narrow-requires-in-Shrink
unfolding among
narrow-requires-in-Shrink c = c.requires.row_a (rw (number_is c.args.x c.in-Shrink.is) refl)

pub narrow-requires-in-Shrink-2 : goal.narrow-requires-in-Shrink-2
unfolding among
narrow-requires-in-Shrink-2 c = c.requires.row_b (rw (number_is c.args.x c.in-Shrink.is) refl)

pub returns-in-Reshape : goal.returns-in-Reshape
returns-in-Reshape c = let q = number_is c.args.x c.in-Reshape.is in search movement-laws

pub returns-in-Expand : goal.returns-in-Expand
returns-in-Expand c = let q = number_is c.args.x c.in-Expand.is in search movement-laws

pub returns-in-Pad : goal.returns-in-Pad
returns-in-Pad c = let q = number_is c.args.x c.in-Pad.is in search movement-laws

pub returns-in-Shrink : goal.returns-in-Shrink
returns-in-Shrink c = let q = number_is c.args.x c.in-Shrink.is in search movement-laws

pub returns-in-Where : goal.returns-in-Where
returns-in-Where c = let q = number_is c.args.x c.in-Where.is in search movement-laws

pub returns-in-Const : goal.returns-in-Const
unfolding shapes_agree among
returns-in-Const c = let q = c.args.x.named in grind arith

pub returns-in-Add : goal.returns-in-Add
unfolding shapes_agree among
returns-in-Add c = let q = c.args.x.named in grind arith
