use Prim.Native.Nat.{◌*◌}
use mathlib.Core.List.{map}
use Rattle.rules.specs.Code.{view_of}
use Rattle.listing.specs.Text.{lines_of}
use Rattle.listing.specs.Writing.{Puts}
use Rattle.listing.proofs.Writer.node_lines.Given as goal

abbrev pub invariant-loop-n : goal.invariant-loop-n
invariant-loop-n l = Puts (lines_of l.table (map view_of l.records) l.n) (255 * l.n) l.initial.self l.self
