use Prim.Native.Nat.{ℕ, ◌*◌}
use mathlib.Core.Path.{◌≡◌}
use Rattle.laws.specs.Store.{store}
use Rattle.plan.specs.Coded.{number_of}
use Rattle.views.specs.Views.{place}
use Rattle.validity.specs.Flags.{mix_flag, three}
use Rattle.elementwise.specs.Mixing.{mix_value}
use Rattle.elementwise.proofs.mix.Given as goal

abbrev pub invariant-loop-i : goal.invariant-loop-i
invariant-loop-i l =
    (l.values ≡ store l.initial.values l.start (l.i * l.n) (λ (j : ℕ). three (mix_value (number_of l.op)) l.initial.values l.initial.flags (place l.g l.a j) (place l.g l.b j) (place l.g l.d j)))
    × (l.flags ≡ store l.initial.flags l.start (l.i * l.n) (λ (j : ℕ). three (mix_flag (number_of l.op)) l.initial.values l.initial.flags (place l.g l.a j) (place l.g l.b j) (place l.g l.d j)))
