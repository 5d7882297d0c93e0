use Prim.Native.Nat.{ℕ, ◌*◌, min}
use mathlib.Core.Path.{◌≡◌}
use Rattle.laws.specs.Store.{store}
use Rattle.plan.specs.Coded.{number_of}
use Rattle.validity.specs.Flags.{mix_flag}
use Rattle.validity.specs.Lines.{along}
use Rattle.elementwise.specs.Mixing.{mix_value}
use Rattle.elementwise.proofs.mix_parts.Given as goal

abbrev pub invariant-loop-part : goal.invariant-loop-part
invariant-loop-part l = let done = min (l.part * 1024) l.n in
    (l.values ≡ store l.initial.values l.to done (λ (j : ℕ). along (mix_value (number_of l.op)) l.initial.values l.initial.flags l.lines l.n j))
    × (l.flags ≡ store l.initial.flags l.to done (λ (j : ℕ). along (mix_flag (number_of l.op)) l.initial.values l.initial.flags l.lines l.n j))
