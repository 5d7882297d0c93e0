use mathlib.Core.Path.{ap, ◌∙◌}
use Rattle.plan.specs.Words.{node_of, node_at}
use Rattle.plan.proofs.Decoding.{words_part}
use Rattle.plan.proofs.node_at.Goals as goal

pub returns : goal.returns
unfolding node_at
returns c = c.node_of.ensures ∙ ap node_of (words_part _ _)
