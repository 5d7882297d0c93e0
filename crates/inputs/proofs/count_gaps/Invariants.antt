use Rattle.std.proofs.Common.{◌≡◌, ◌*◌, min}
use Rattle.inputs.specs.Scanning.{gaps_from}
use Rattle.inputs.proofs.count_gaps.Given as goal

abbrev pub invariant-loop-part : goal.invariant-loop-part
invariant-loop-part l = l.gaps ≡ gaps_from l.flags l.from (min (l.part * 192) l.n)
