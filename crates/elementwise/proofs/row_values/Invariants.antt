use Prim.Native.Nat.{ℕ}
use mathlib.Core.Path.{◌≡◌}
use Rattle.laws.specs.Store.{store}
use Rattle.elementwise.specs.Mixing.{numbers_along}
use Rattle.elementwise.proofs.row_values.Given as goal

abbrev pub invariant-loop-i : goal.invariant-loop-i
invariant-loop-i g l = l.values ≡ store l.initial.values l.to l.i (λ (j : ℕ). numbers_along g.M.Mix.mixed l.initial.values l.lines l.n j)
