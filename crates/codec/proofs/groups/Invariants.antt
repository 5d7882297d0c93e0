use Prim.Native.Nat.{◌+◌, ◌-◌}
use Rattle.codec.proofs.Reading.{Reached}
use Rattle.codec.proofs.groups.Given as goal

abbrev pub invariant-loop-i : goal.invariant-loop-i
invariant-loop-i l = Reached l.bytes l.from l.value l.scale (l.from + l.i) (5 - l.i)
