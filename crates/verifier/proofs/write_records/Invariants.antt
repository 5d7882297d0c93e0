use mathlib.Core.Path.{◌≡◌}
use lib.ListN.{length, take}
use lib.Seq.{sets}
use Rattle.verifier.proofs.Writing.{words_of_all}
use Rattle.verifier.proofs.write_records.Given as goal

abbrev pub invariant-loop-i : goal.invariant-loop-i
invariant-loop-i l = (length l.derived ≡ length l.initial.derived) × (l.derived ≡ sets l.initial.derived 0 (words_of_all (take l.i l.records)))
