use Prim.Native.Nat.{ℕ}
use mathlib.Core.Path.{◌≡◌}
use Rattle.laws.specs.Store.{store}
use Rattle.plan.specs.Coded.{number_of}
use Rattle.validity.specs.Flags.{mix_flag}
use Rattle.validity.specs.Lines.{along}
use Rattle.validity.proofs.row_flags.Given as goal

abbrev pub invariant-loop-i : goal.invariant-loop-i
invariant-loop-i l = l.flags ≡ store l.initial.flags l.to l.i (λ (j : ℕ). along (mix_flag (number_of l.op)) l.values l.initial.flags l.lines l.n j)
