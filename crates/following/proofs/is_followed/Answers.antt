use Rattle.std.proofs.Common.{◌≡◌, ℕ, false, arith}
use Rattle.std.proofs.lemmas.Result.{MatchResult-at_err}
use Rattle.plan.specs.Operations.{is_operation, followed}
use Rattle.laws.specs.Lists.{among}
use Rattle.following.proofs.is_followed.Goals as goal

unknown : (n : ℕ) → is_operation n ≡ false → false ≡ among n followed
unfolding is_operation among
unknown n h = grind arith

pub returns-in-Ok-Permute : goal.returns-in-Ok-Permute
unfolding among
returns-in-Ok-Permute c = grind arith

pub returns-in_default : goal.returns-in_default
unfolding among
returns-in_default c = grind arith

pub returns-in_default-2 : goal.returns-in_default-2
returns-in_default-2 c = unknown c.args.op (MatchResult-at_err _ _ _ c.in_default.is c.try_from.ensures).1
