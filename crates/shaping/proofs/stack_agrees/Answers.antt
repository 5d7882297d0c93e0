use Rattle.shaping.proofs.Rule8.{agree_stack}
use Rattle.shaping.proofs.stack_agrees.Goals as goal

pub returns : goal.returns
returns c = agree_stack _ _ _ _ c.requires c.in_number.ensures c.same_shape.ensures c.same_shape-2.ensures c.rank.ensures
