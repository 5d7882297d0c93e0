use Rattle.std.proofs.Common.{◌≡◌}
use Rattle.inputs.specs.Scanning.{gaps_from}
use Rattle.inputs.proofs.few_gaps.Given as goal

abbrev pub invariant-loop-i : goal.invariant-loop-i
invariant-loop-i l = l.gaps ≡ gaps_from l.flags l.from l.i
