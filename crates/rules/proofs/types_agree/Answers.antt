use mathlib.Core.Path.{refl}
use native.Mathlib.Omega.{arith}
use Rattle.laws.specs.Lists.{among}
use Rattle.plan.proofs.Coded.{number_is}
use Rattle.rules.specs.Rules.{types_agree}
use Rattle.rules.proofs.TypeRule.{types_stack}
use Rattle.rules.proofs.types_agree.Goals as goal

pub returns-in-Const : goal.returns-in-Const
unfolding types_agree among
returns-in-Const c = let q = c.args.x.named in grind arith

pub returns-in-Add : goal.returns-in-Add
unfolding types_agree among
returns-in-Add c = let q = c.args.x.named in grind arith

pub returns-in-CmpNe : goal.returns-in-CmpNe
unfolding types_agree among
returns-in-CmpNe c = let q = c.args.x.named in grind arith

pub returns-in-And : goal.returns-in-And
unfolding types_agree among
returns-in-And c = let q = c.args.x.named in grind arith

pub returns-in-Where : goal.returns-in-Where
unfolding types_agree among
returns-in-Where c = rw (number_is c.args.x c.in-Where.is) refl

pub returns-in-Reduce : goal.returns-in-Reduce
unfolding types_agree among
returns-in-Reduce c = rw (number_is c.args.x c.in-Reduce.is) refl

pub returns-in-Stack : goal.returns-in-Stack
returns-in-Stack c = types_stack c.args.x.node _ _ _ (number_is c.args.x c.in-Stack.is) c.in_number.ensures
