use mathlib.Core.Path.{refl}
use native.Mathlib.Omega.{arith}
use Rattle.laws.specs.Lists.{among}
use Rattle.plan.proofs.Coded.{number_is}
use Rattle.shapes.specs.Rows.{extents_of}
use Rattle.shapes.specs.Rules.{result_extents}
use Rattle.shaping.proofs.Rule8.{result_where}
use Rattle.shaping.proofs.result_shape.Goals as goal

pub narrow-requires : goal.narrow-requires
unfolding among
narrow-requires c = let q = c.args.x.named in let row = c.requires.tested.row_a in grind arith

pub returns-in-Const : goal.returns-in-Const
unfolding result_extents among extents_of
returns-in-Const c = rw (number_is c.args.x c.in-Const.is) refl

pub returns-in-Permute : goal.returns-in-Permute
unfolding result_extents among
returns-in-Permute c = rw (number_is c.args.x c.in-Permute.is) c.permuted.ensures

pub returns-in-Reduce : goal.returns-in-Reduce
unfolding result_extents among
returns-in-Reduce c = rw (number_is c.args.x c.in-Reduce.is) c.reduced.ensures

pub returns-in-Param : goal.returns-in-Param
unfolding result_extents among
returns-in-Param c = let q = c.args.x.named in grind arith

pub returns-in-Flip : goal.returns-in-Flip
unfolding result_extents among
returns-in-Flip c = let q = c.args.x.named in grind arith

pub returns-in-Add : goal.returns-in-Add
unfolding result_extents among
returns-in-Add c = let q = c.args.x.named in grind arith

pub returns-in-Where : goal.returns-in-Where
returns-in-Where c = let q = number_is c.args.x c.in-Where.is in search result_where
