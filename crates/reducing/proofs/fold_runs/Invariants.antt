use mathlib.Core.Path.{◌≡◌}
use lib.ListN.{length}
use Rattle.reducing.specs.Gathering.{taken, runs}
use Rattle.reducing.proofs.fold_runs.Given as goal

abbrev pub invariant-loop-c : goal.invariant-loop-c
invariant-loop-c g l =
    let fold = g.F.Fold in
    (length l.cells ≡ length l.initial.cells) × (l.cells ≡ taken fold.op fold.blank l.initial.cells l.to l.c (runs l.n l.kept l.m l.gathered) l.m)
