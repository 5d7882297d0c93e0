use Prim.Native.Nat.{ℕ, ◌+◌}
use mathlib.Core.Path.{◌≡◌}
use lib.IntN.{pos}
use lib.ListN.{get_or}
use Rattle.laws.specs.Store.{store}
use Rattle.validity.specs.Flags.{cleared_value}
use Rattle.validity.specs.Lines.{cell_place}
use Rattle.validity.proofs.clear_gaps.Given as goal

abbrev pub invariant-loop-i : goal.invariant-loop-i
invariant-loop-i l = l.values ≡ store l.initial.values l.to l.i (λ (j : ℕ). cleared_value (get_or l.flags (cell_place l.n l.line j) 0) (get_or l.initial.values (l.to + j) (pos 0)))
