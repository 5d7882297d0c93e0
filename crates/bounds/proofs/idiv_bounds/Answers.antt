use borrow.Author.Rules.{rules}
use Rattle.laws.specs.Integers.{floor_div}
use Rattle.bounds.specs.Rules.{idiv_bounds}
use Rattle.bounds.proofs.idiv_bounds.Goals as goal

pub returns : goal.returns
unfolding idiv_bounds
returns c = c.corners.ensures floor_div (λ a b r p q met. search rules)
