use mathlib.Core.Path.{◌≡◌, refl}
use native.Mathlib.Omega.{arith}
use borrow.Author.Rules.{rules}
use Rattle.laws.specs.Lists.{among}
use Rattle.plan.proofs.Coded.{number_is}
use Rattle.rules.specs.Rules.{result_device, join_device}
use Rattle.rules.proofs.Narrowing.{placed}
use Rattle.rules.proofs.result_device.Goals as goal

pub returns-in-Const : goal.returns-in-Const
unfolding result_device among
returns-in-Const c = placed _ _ _ _ (search rules) (search rules) (search rules) (rw (number_is c.args.x c.in-Const.is) refl)

pub returns-in-Param : goal.returns-in-Param
unfolding result_device among
returns-in-Param c = let q = c.args.x.named in placed _ _ _ _ (search rules) (search rules) (search rules) (grind arith)

pub returns-in_default : goal.returns-in_default
unfolding result_device among
returns-in_default c =
    let q = c.args.x.named in
    let e : join_device (join_device c.args.d c.args.e) c.args.f ≡ result_device c.args.x.node c.args.d c.args.e c.args.f = grind arith in
    placed _ _ _ _ (search rules) (search rules) (search rules) (simp (c.join_device-in_default.ensures, c.join_device.ensures) e)
