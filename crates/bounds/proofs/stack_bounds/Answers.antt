use Rattle.bounds.proofs.Gathering.{stack_three, stack_two}
use Rattle.bounds.proofs.stack_bounds.Goals as goal

pub returns-then-third : goal.returns-then-third
returns-then-third c = search stack_three

pub returns : goal.returns
returns c = search stack_two
