use Prim.Native.Nat.{ℕ, ◌+◌, ◌*◌}
use mathlib.Core.Path.{◌≡◌}
use lib.ListN.{length}
use Rattle.views.specs.Views.{place}
use Rattle.reducing.specs.Gathering.{along, taken}
use Rattle.reducing.proofs.fold_rows.Given as goal

abbrev pub invariant-loop-i : goal.invariant-loop-i
invariant-loop-i g l =
    let fold = g.F.Fold in
    (length l.cells ≡ length l.initial.cells)
    × (l.cells ≡ taken fold.op fold.blank l.initial.cells l.start (l.i * l.n) (λ (e j : ℕ). place l.kept.grid.extents l.kept.view e + along l.m l.gathered j) l.m)
