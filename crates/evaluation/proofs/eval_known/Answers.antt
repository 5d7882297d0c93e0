use Rattle.evaluation.proofs.Filled.{known_evaluates}
use Rattle.evaluation.proofs.Leaves.{capped_is}
use native.Mathlib.Omega.{arith}
use Rattle.evaluation.proofs.eval_known.Goals as goal

pub known_values-requires : goal.known_values-requires
known_values-requires c = let n = capped_is c.count-n.ensures c.requires.1 in rw n (omega (arith, c.requires.3, c.requires.2.flags), c.requires.2.values)

pub fill-requires : goal.fill-requires
fill-requires c = let n = capped_is c.count-n.ensures c.requires.1 in rw n c.requires.2.flags

pub returns : goal.returns
returns c =
    let n = capped_is c.count-n.ensures c.requires.1 in
    λ o from. known_evaluates c.args.x _ o c.args.base _ _ c.args.start c.requires.0 n from c.known_values.ensures c.fill.ensures
