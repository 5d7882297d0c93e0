use mathlib.Core.Path.{refl, ap}
use lib.IntN.{ℤ}
use lib.ListN.{set}
use Rattle.laws.proofs.Machine.{read_back_is, fit_at}
use Rattle.evaluation.proofs.Leaves.{const_evaluates}
use Rattle.evaluation.proofs.eval_const.Goals as goal

pub returns : goal.returns
returns c = λ o. const_evaluates c.args.x o _ _ c.args.start c.requires.0 c.requires.1 (ap (λ (z : ℤ). set c.args.values.now c.args.start z) (read_back_is (fit_at c.args.x.number c.struct_told-1.given.1.1.1.1.1.0.1))) refl
