use Rattle.packing.proofs.Turning.{Sofar}
use Rattle.packing.proofs.nodes.Given as goal

abbrev pub invariant-loop-n : goal.invariant-loop-n
invariant-loop-n l = Sofar l.table l.initial.bytes l.start l.bytes l.at l.n
