use mathlib.Core.Path.{◌≡◌}
use Prim.Native.Nat.{ℕ}
use lib.ListN.{get_or}
use Rattle.reducing.specs.Folding.{fold_from}
use Rattle.reducing.specs.Gathering.{along}
use Rattle.reducing.proofs.fold_along.Given as goal

abbrev pub invariant-loop-i : goal.invariant-loop-i
invariant-loop-i g l = let fold = g.F.Fold in l.folded ≡ fold_from fold.op l.fn.acc (λ (j : ℕ). get_or l.cells (along l.n l.line j) fold.blank) l.i
