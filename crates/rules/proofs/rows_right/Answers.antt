use mir.Syntax.{w64}
use mir.Val.{SFits}
use mathlib.Core.Path.{refl, ◌∙◌}
use native.Mathlib.Omega.{arith}
use borrow.Author.Rules.{rules}
use Rattle.laws.specs.Lists.{among}
use Rattle.laws.proofs.Machine.{read_back_is}
use Rattle.plan.proofs.Coded.{number_is}
use Rattle.rules.specs.Rules.{rows_right, stack_number}
use Rattle.rules.proofs.RowRule.{rows_param, rows_load}
use Rattle.rules.proofs.rows_right.Goals as goal

pub returns-in-Const : goal.returns-in-Const
unfolding rows_right among
returns-in-Const c = let q = c.args.x.named in grind arith

pub returns-in-Reshape : goal.returns-in-Reshape
unfolding rows_right among
returns-in-Reshape c = let q = c.args.x.named in grind arith

pub returns-in-Pad : goal.returns-in-Pad
unfolding rows_right among
returns-in-Pad c = let q = c.args.x.named in grind arith

pub returns-in-Param : goal.returns-in-Param
returns-in-Param c = simp (c.is_shape_row.ensures, c.device_named.ensures, c.param_right.ensures) (rows_param c.args.x.node _ _ (number_is c.args.x c.in-Param.is))

pub returns-in-Permute : goal.returns-in-Permute
unfolding rows_right among
returns-in-Permute c = rw (number_is c.args.x c.in-Permute.is) c.is_permutation.ensures

pub returns-in-Flip : goal.returns-in-Flip
unfolding rows_right among
returns-in-Flip c = rw (number_is c.args.x c.in-Flip.is) c.is_flag_row.ensures

pub returns-in-Load : goal.returns-in-Load
returns-in-Load c = c.device_named-in-Load.ensures ∙ rows_load c.args.x.node _ _ (number_is c.args.x c.in-Load.is)

pub returns-in-Stack : goal.returns-in-Stack
unfolding rows_right among stack_number
returns-in-Stack c = rw (number_is c.args.x c.in-Stack.is) c.stack_number.ensures

pub returns-in-Reduce : goal.returns-in-Reduce
unfolding rows_right among
returns-in-Reduce c =
    let number : SFits w64 c.args.x.node.number = search rules in
    rw (number_is c.args.x c.in-Reduce.is, c.size_of_word.ensures, read_back_is number, c.is_flag_row-in-Reduce.ensures) refl
