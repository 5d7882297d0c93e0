use Prim.Native.Nat.{ℕ, ◌+◌, ◌≤◌, ◌<◌}
use mathlib.Core.Path.{◌≡◌}
use mathlib.Core.Bool.{true}
use lib.ListN.{get_or}
use Rattle.validity.proofs.flags_from.Given as goal

abbrev pub invariant-loop-i : goal.invariant-loop-i
invariant-loop-i l = l.all ≡ true → (j : ℕ) → j < l.i → (l.low ≤ get_or l.flags (l.p + j) 0) × (get_or l.flags (l.p + j) 0 ≤ 1)
