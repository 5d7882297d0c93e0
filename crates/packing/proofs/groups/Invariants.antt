use Prim.Native.Nat.{◌+◌, ◌-◌, ◌≤◌}
use lib.ListN.{length}
use Rattle.packing.proofs.Putting.{Put}
use Rattle.packing.proofs.groups.Given as goal

abbrev pub invariant-loop-i : goal.invariant-loop-i
invariant-loop-i l = Put l.k l.m l.initial.bytes l.at l.bytes l.rest (l.at + l.i) (l.k - l.i) × (l.at + l.k ≤ length l.initial.bytes)
