use Rattle.std.proofs.Common.{◌≡◌, ℕ, ◌+◌, cond, eqb, length, get_or}
use Rattle.laws.specs.Store.{store}
use Rattle.inputs.proofs.param_flags.Given as goal

abbrev pub invariant-loop-i : goal.invariant-loop-i
invariant-loop-i l = (length l.flags ≡ length l.initial.flags) × (l.flags ≡ store l.initial.flags l.to l.i (λ (j : ℕ). cond (eqb (get_or l.known (l.from + j) 0) 1) 1 0))
