use Prim.Native.Nat.{ℕ, ◌+◌, ◌*◌}
use mathlib.Core.Path.{◌≡◌}
use lib.IntN.{pos}
use lib.ListN.{get_or}
use Rattle.laws.specs.Store.{store}
use Rattle.views.specs.Views.{stride_of, step}
use Rattle.validity.specs.Flags.{side_of}
use Rattle.validity.proofs.unit_sides.Given as goal

abbrev pub invariant-loop-i : goal.invariant-loop-i
invariant-loop-i l = l.flags ≡ store l.initial.flags l.to (l.i * 8) (λ (j : ℕ). side_of (get_or l.values (l.p + step l.n (stride_of 1 0) j) (pos 0)))
