use Rattle.std.proofs.Common.{◌≡◌, ℕ}
use Rattle.laws.specs.Store.{store}
use Rattle.moving.proofs.fill.Given as goal

abbrev pub invariant-loop-i : goal.invariant-loop-i
invariant-loop-i g l = l.cells ≡ store l.initial.cells l.to l.i (λ (j : ℕ). l.cell)
