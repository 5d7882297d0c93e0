use Prim.Native.Nat.{◌*◌}
use mathlib.Core.Path.{◌≡◌}
use lib.ListN.{length}
use Rattle.views.specs.Views.{cells_of}
use Rattle.reducing.specs.Folding.{source}
use Rattle.reducing.specs.Gathering.{taken}
use Rattle.reducing.proofs.fold_blocks.Given as goal

abbrev pub invariant-loop-j : goal.invariant-loop-j
invariant-loop-j g l =
    let fold = g.F.Fold in
    (length l.cells ≡ length l.initial.cells)
    × (l.cells ≡ taken fold.op fold.blank l.initial.cells l.start (cells_of l.kept.grid.extents) (source l.kept.grid.extents l.kept.view l.gathered.grid.extents l.gathered.view) (l.j * l.m))
