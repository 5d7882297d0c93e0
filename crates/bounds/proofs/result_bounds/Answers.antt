use mir.Syntax.{w64}
use mir.Val.{SFits}
use mathlib.Core.Path.{refl}
use borrow.Author.Rules.{rules}
use native.Mathlib.Omega.{arith}
use Rattle.laws.specs.Lists.{among}
use Rattle.laws.proofs.Machine.{read_back_is}
use Rattle.plan.proofs.Coded.{number_is}
use Rattle.bounds.specs.Rules.{result_bounds}
use Rattle.bounds.proofs.Gathering.{bounds_reduce, bounds_stack}
use Rattle.bounds.proofs.result_bounds.Goals as goal

pub returns-in-Add : goal.returns-in-Add
unfolding result_bounds among
returns-in-Add c s g = rw (number_is c.args.x c.in-Add.is) c.add_bounds.ensures

pub returns-in-Mul : goal.returns-in-Mul
unfolding result_bounds among
returns-in-Mul c s g = rw (number_is c.args.x c.in-Mul.is) c.mul_bounds.ensures

pub returns-in-Idiv : goal.returns-in-Idiv
unfolding result_bounds among
returns-in-Idiv c s g = rw (number_is c.args.x c.in-Idiv.is) c.idiv_bounds.ensures

pub returns-in-Mod : goal.returns-in-Mod
unfolding result_bounds among
returns-in-Mod c s g = rw (number_is c.args.x c.in-Mod.is) c.mod_bounds.ensures

pub returns-in-CmpLt : goal.returns-in-CmpLt
unfolding result_bounds among
returns-in-CmpLt c s g = rw (number_is c.args.x c.in-CmpLt.is) c.cmplt_bounds.ensures

pub returns-in-CmpNe : goal.returns-in-CmpNe
unfolding result_bounds among
returns-in-CmpNe c s g = rw (number_is c.args.x c.in-CmpNe.is) c.cmpne_bounds.ensures

pub returns-in-And : goal.returns-in-And
unfolding result_bounds among
returns-in-And c s g = rw (number_is c.args.x c.in-And.is) c.min_bounds.ensures

pub returns-in-Where : goal.returns-in-Where
unfolding result_bounds among
returns-in-Where c s g = rw (number_is c.args.x c.in-Where.is) c.where_bounds.ensures

pub returns-in-Fill : goal.returns-in-Fill
unfolding result_bounds among
returns-in-Fill c s g = rw (number_is c.args.x c.in-Fill.is) c.where_bounds-in-Fill.ensures

pub returns-in-Known : goal.returns-in-Known
unfolding result_bounds among
returns-in-Known c s g = rw (number_is c.args.x c.in-Known.is) refl

pub returns-in-Permute : goal.returns-in-Permute
unfolding result_bounds among
returns-in-Permute c s g = let q = c.args.x.named in grind arith

pub returns-in-Max : goal.returns-in-Max
unfolding result_bounds among
returns-in-Max c s g = let q = c.args.x.named in grind arith

pub returns-in-Const : goal.returns-in-Const
unfolding result_bounds among
returns-in-Const c s g =
    let number : SFits w64 c.args.x.node.number = search rules in
    rw (number_is c.args.x c.in-Const.is, read_back_is number) refl

pub returns-in-Param : goal.returns-in-Param
unfolding result_bounds among
returns-in-Param c s g =
    let low : SFits w64 c.args.x.node.low = search rules in
    let high : SFits w64 c.args.x.node.high = search rules in
    rw (number_is c.args.x c.in-Param.is, read_back_is low, read_back_is high) refl

pub returns-in-Reduce : goal.returns-in-Reduce
returns-in-Reduce c =
    let number : SFits w64 c.args.x.node.number = search rules in
    bounds_reduce c.args.x.node _ _ _ _ (number_is c.args.x c.in-Reduce.is) (rw (read_back_is number) at c.reduce_bounds.ensures)

pub returns-in-Stack : goal.returns-in-Stack
returns-in-Stack c = bounds_stack c.args.x.node _ _ _ _ (number_is c.args.x c.in-Stack.is) c.in_number.ensures c.stack_bounds.ensures
