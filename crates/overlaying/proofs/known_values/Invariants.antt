use Rattle.std.proofs.Common.{◌≡◌, ℕ, ◌+◌, get_or}
use Rattle.std.proofs.Math.IntN.{pos}
use Rattle.laws.specs.Store.{store}
use Rattle.overlaying.proofs.known_values.Given as goal

abbrev pub invariant-loop-i : goal.invariant-loop-i
invariant-loop-i l = l.values ≡ store l.initial.values l.to l.i (λ (j : ℕ). pos (get_or l.flags (l.p + j) 0))
