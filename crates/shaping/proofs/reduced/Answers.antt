use borrow.Author.Rules.{rules}
use Rattle.plan.specs.Words.{list_of}
use Rattle.shapes.specs.Rules.{flagged, reduced}
use Rattle.shaping.proofs.reduced.Goals as goal

pub returns : goal.returns
unfolding reduced
returns c = c.ones_along.ensures (flagged (list_of c.args.flags)) (λ k b met. search rules)
