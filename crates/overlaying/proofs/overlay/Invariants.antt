use Rattle.std.proofs.Common.{◌≡◌, ℕ, ◌*◌}
use Rattle.laws.specs.Store.{store}
use Rattle.views.specs.Views.{place}
use Rattle.overlaying.specs.Overlay.{over_cell}
use Rattle.overlaying.proofs.overlay.Given as goal

abbrev pub invariant-loop-i : goal.invariant-loop-i
invariant-loop-i g l = (d : _) → l.out ≡ store l.initial.out 0 (l.i * l.g.r3) (λ (j : ℕ). over_cell d l.cells l.flags (place l.g l.a j) (place l.g l.b j))
