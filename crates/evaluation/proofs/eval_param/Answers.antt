use Rattle.evaluation.proofs.Leaves.{capped_is, param_evaluates}
use Rattle.evaluation.proofs.eval_param.Goals as goal

pub param_values-requires : goal.param_values-requires
param_values-requires c = let n = capped_is c.count-n.ensures c.requires.1 in rw n (c.requires.3, c.requires.4, c.requires.2.values)

pub param_flags-requires : goal.param_flags-requires
param_flags-requires c = let n = capped_is c.count-n.ensures c.requires.1 in rw n (c.requires.4, c.requires.2.flags)

pub returns : goal.returns
returns c =
    let n = capped_is c.count-n.ensures c.requires.1 in
    λ o input. param_evaluates c.args.x _ o c.args.given.now c.args.known.now c.args.from _ _ c.args.start c.requires.0 n input c.param_values.ensures c.param_flags.ensures
