use Rattle.std.proofs.Common.{◌≡◌, ◌≤◌, take}
use Rattle.laws.specs.Lists.{occurrences}
use Rattle.plan.specs.Words.{list_of}
use Rattle.shapes.proofs.is_once.Given as goal

-- how often it was among the words so far
abbrev pub invariant-loop-j : goal.invariant-loop-j
invariant-loop-j l = (l.times ≡ occurrences l.k (take l.j (list_of l.row))) × (l.times ≤ l.j)
