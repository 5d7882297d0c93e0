use mathlib.Core.Path.{refl}
use native.Mathlib.Omega.{arith}
use borrow.Author.Rules.{rules}
use Rattle.laws.specs.Lists.{among}
use Rattle.plan.proofs.Coded.{number_is}
use Rattle.rules.specs.Rules.{result_type}
use Rattle.rules.proofs.Narrowing.{typed}
use Rattle.rules.proofs.result_type.Goals as goal

pub returns-in-Const : goal.returns-in-Const
unfolding result_type among
returns-in-Const c = let q = c.args.x.named in typed _ _ _ (search rules) (search rules) (grind arith)

pub returns-in-CmpLt : goal.returns-in-CmpLt
unfolding result_type among
returns-in-CmpLt c = let q = c.args.x.named in typed _ _ _ (search rules) (search rules) (grind arith)

pub returns-in-Permute : goal.returns-in-Permute
unfolding result_type among
returns-in-Permute c = let q = c.args.x.named in typed _ _ _ (search rules) (search rules) (grind arith)

pub returns-in-Where : goal.returns-in-Where
unfolding result_type among
returns-in-Where c = typed _ _ _ (search rules) (search rules) (rw (number_is c.args.x c.in-Where.is) refl)
