use Rattle.std.proofs.Common.{◌≡◌, ℕ, ◌*◌}
use Rattle.laws.specs.Store.{store}
use Rattle.views.specs.Walks.{band_place}
use Rattle.moving.specs.Moved.{fetch}
use Rattle.moving.proofs.lay_cells.Given as goal

abbrev pub invariant-loop-i : goal.invariant-loop-i
invariant-loop-i g l = l.cells ≡ store l.initial.cells l.start (l.i * l.r.r3) (λ (j : ℕ). fetch l.gap l.initial.cells (band_place l.r l.o l.s l.base j))
