use Prim.Native.Nat.{ℕ}
use mathlib.Core.Path.{◌≡◌}
use lib.ListN.{length}
use Rattle.reducing.specs.Gathering.{along, taken}
use Rattle.reducing.proofs.take_along.Given as goal

abbrev pub invariant-loop-c : goal.invariant-loop-c
invariant-loop-c g l =
    let fold = g.F.Fold in
    (length l.cells ≡ length l.initial.cells) × (l.cells ≡ taken fold.op fold.blank l.initial.cells l.to l.c (λ (j i : ℕ). along l.n l.line j) 1)
