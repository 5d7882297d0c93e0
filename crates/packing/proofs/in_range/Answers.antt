use borrow.Author.Rules.{rules}
use Rattle.plan.specs.Types.{holds}
use Rattle.packing.proofs.in_range.Goals as goal

pub returns : goal.returns
unfolding holds
returns c = search rules
