use Rattle.std.proofs.Common.{◌≡◌, ℕ, ◌+◌, length}
use Rattle.laws.specs.Store.{store}
use Rattle.runner.specs.Run.{value_of}
use Rattle.inputs.specs.Scanning.{cell_in}
use Rattle.inputs.proofs.param_values.Given as goal

abbrev pub invariant-loop-i : goal.invariant-loop-i
invariant-loop-i l = (length l.values ≡ length l.initial.values) × (l.values ≡ store l.initial.values l.to l.i (λ (j : ℕ). value_of (cell_in l.given l.known (l.from + j))))
