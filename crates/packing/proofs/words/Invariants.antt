use Prim.Native.Nat.{◌*◌, ◌≤◌}
use Rattle.laws.specs.Pieces.{Writes}
use Rattle.plan.specs.Coded.{number_of}
use Rattle.codec.proofs.Prefix.{used}
use Rattle.packing.specs.Packing.{words_to}
use Rattle.packing.proofs.words.Given as goal

abbrev pub invariant-loop-k : goal.invariant-loop-k
invariant-loop-k l =
    (l.last ≤ 16) × Writes (words_to (number_of l.fn.op) l.w l.k) (5 * used (number_of l.fn.op) l.k) l.initial.bytes l.at l.bytes l.to
