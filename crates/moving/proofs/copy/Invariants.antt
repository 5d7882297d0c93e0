use Rattle.std.proofs.Common.{◌≡◌, ℕ, ◌+◌, get_or}
use Rattle.laws.specs.Store.{store}
use Rattle.views.specs.Views.{step}
use Rattle.moving.proofs.copy.Given as goal

abbrev pub invariant-loop-i : goal.invariant-loop-i
invariant-loop-i g l = (d : _) → l.cells ≡ store l.initial.cells l.to l.i (λ (j : ℕ). get_or l.initial.cells (l.from.place + step l.n l.from.stride j) d)
