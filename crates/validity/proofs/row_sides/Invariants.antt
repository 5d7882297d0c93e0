use Prim.Native.Nat.{ℕ}
use mathlib.Core.Path.{◌≡◌}
use lib.IntN.{pos}
use lib.ListN.{get_or}
use Rattle.laws.specs.Store.{store}
use Rattle.validity.specs.Flags.{side_of}
use Rattle.validity.specs.Lines.{cell_place}
use Rattle.validity.proofs.row_sides.Given as goal

abbrev pub invariant-loop-i : goal.invariant-loop-i
invariant-loop-i l = l.flags ≡ store l.initial.flags l.to l.i (λ (j : ℕ). side_of (get_or l.values (cell_place l.n l.line j) (pos 0)))
