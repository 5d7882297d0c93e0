use borrow.Author.Rules.{rules}
use lib.IntN.{◌*ℤ◌}
use Rattle.bounds.specs.Rules.{mul_bounds}
use Rattle.bounds.proofs.mul_bounds.Goals as goal

pub returns : goal.returns
unfolding mul_bounds
returns c = c.corners.ensures ◌*ℤ◌ (λ a b r p q met. search rules)
