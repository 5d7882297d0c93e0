use mathlib.Core.Path.{◌≡◌}
use mathlib.Core.List.{[], ◌∷◌}
use lib.ListN.{length, get_or}
use lib.IntN.{pos}
use Rattle.plan.specs.Answers.{in_turn}
use Rattle.plan.specs.Coded.{number_of}
use Rattle.plan.specs.Operations.{masks}
use Rattle.codec.specs.Plans.{read_word}
use Rattle.codec.proofs.Storing.{SoFar}
use Rattle.codec.proofs.words.Given as goal

abbrev pub invariant-loop-k : goal.invariant-loop-k
invariant-loop-k l =
    (length l.table ≡ length l.initial.table)
    × (l.mask ≡ get_or masks (number_of l.fn.op) 0)
    × SoFar (in_turn (read_word (number_of l.fn.op) l.bytes) (record { words = pos (number_of l.fn.op) ∷ []; next = l.start }) l.k) l.at l.initial.table l.to l.table
