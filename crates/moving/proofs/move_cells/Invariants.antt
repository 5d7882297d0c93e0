use Rattle.std.proofs.Common.{◌≡◌, ℕ, ◌*◌, get_or}
use Rattle.laws.specs.Store.{store}
use Rattle.views.specs.Views.{place}
use Rattle.moving.proofs.move_cells.Given as goal

abbrev pub invariant-loop-i : goal.invariant-loop-i
invariant-loop-i g l = (d : _) → l.cells ≡ store l.initial.cells l.start (l.i * l.g.r3) (λ (j : ℕ). get_or l.initial.cells (place l.g l.v j) d)
