use Rattle.std.proofs.Common.{◌+◌, ◌≤◌}
use Rattle.vectors.proofs.run_all.Given as goal

abbrev pub invariant-loop-index : goal.invariant-loop-index
invariant-loop-index g l =
    (goal.iterator-loop-index g).can_next l.index-iterator
    × (goal.iterator-loop-index g).is_finite l.index-iterator
    × (l.passed + l.failed + (goal.iterator-loop-index g).remaining l.index-iterator ≤ (goal.iterator-loop-index g).remaining l.initial.index-iterator)
