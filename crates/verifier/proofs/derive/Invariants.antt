use Prim.Native.Nat.{◌≤◌, ◌*◌}
use Rattle.verifier.proofs.Deriving.{SoFar}
use Rattle.verifier.proofs.derive.Given as goal

abbrev pub invariant-loop-i : goal.invariant-loop-i
invariant-loop-i l = (l.total ≤ l.i * 1048576) × SoFar l.table l.i l.records l.params l.total
