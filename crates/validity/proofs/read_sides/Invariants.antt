use Prim.Native.Nat.{ℕ, ◌+◌}
use mathlib.Core.Path.{◌≡◌}
use lib.IntN.{pos}
use lib.ListN.{get_or}
use Rattle.laws.specs.Store.{store}
use Rattle.validity.specs.Flags.{side_of}
use Rattle.validity.proofs.read_sides.Given as goal

abbrev pub invariant-loop-i : goal.invariant-loop-i
invariant-loop-i l = l.sides ≡ store l.initial.sides 0 l.i (λ (j : ℕ). side_of (get_or l.values (l.p + j) (pos 0)))
