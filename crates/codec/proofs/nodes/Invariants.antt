use mathlib.Core.Path.{◌≡◌}
use lib.ListN.{length}
use Rattle.codec.specs.Steps.{edition_number, nodes_at}
use Rattle.codec.proofs.Storing.{SoFar}
use Rattle.codec.proofs.nodes.Given as goal

abbrev pub invariant-loop-n : goal.invariant-loop-n
invariant-loop-n l =
    (length l.table ≡ length l.initial.table)
    × SoFar (nodes_at (edition_number l.opening.edition) l.n l.bytes l.opening.next) l.at l.initial.table 0 l.table
