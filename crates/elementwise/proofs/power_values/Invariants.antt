use Prim.Native.Nat.{ℕ, ◌^◌}
use mathlib.Core.Path.{◌≡◌}
use lib.IntN.{ℤ, pos}
use lib.ListN.{get_or}
use Rattle.laws.specs.Store.{store}
use Rattle.validity.specs.Lines.{cell_place}
use Rattle.elementwise.proofs.power_values.Given as goal

abbrev pub invariant-loop-i : goal.invariant-loop-i
invariant-loop-i g l = (z : ℕ → ℤ) → l.values ≡ store l.initial.values l.to l.i (λ (j : ℕ). g.P.Mix.mixed (get_or l.initial.values (cell_place l.n l.line j) (pos 0)) (pos (2 ^ l.k)) (z j))
