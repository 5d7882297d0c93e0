use Rattle.std.proofs.Common.{◌≡◌, ℕ, ◌+◌}
use Rattle.laws.specs.Store.{store}
use Rattle.views.specs.Views.{step}
use Rattle.overlaying.specs.Overlay.{over_cell}
use Rattle.overlaying.proofs.overlay_line.Given as goal

abbrev pub invariant-loop-i : goal.invariant-loop-i
invariant-loop-i g l = (d : _) → l.out ≡ store l.initial.out l.to l.i (λ (j : ℕ). over_cell d l.cells l.flags (l.a.place + step l.n l.a.stride j) (l.b.place + step l.n l.b.stride j))
