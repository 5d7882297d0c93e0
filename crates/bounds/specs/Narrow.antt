-- Bounds as the code holds them, and what its functions ask of an interval.
use Rattle.std.specs.Prelude.{ℕ, ◌≡◌, List, pos, negsuc}
use Rattle.laws.specs.Integers.{Within}
use Rattle.plan.specs.declared.Interval.{Interval}
use Rattle.plan.specs.declared.Node.{Node}
use Rattle.plan.specs.Operations.{REDUCE}
use Rattle.plan.specs.Types.{between}
use Rattle.plan.specs.Words.{list_of}
use Rattle.bounds.specs.Rules.{gathered_count, result_bounds}
use Rattle.bounds.specs.declared.Bounds.{Bounds}

-- the interval that narrow bounds are
abbrev pub wide_of : Bounds → Interval
wide_of b = between b.low b.high

-- both ends within 2^31 of 0: sums and products of such numbers fit 64 bits
pub record Held (i : Interval) : Type 0 where
  pub low : Within i.low (negsuc 2147483647) (pos 2147483648)
  pub high : Within i.high (negsuc 2147483647) (pos 2147483648)

-- both ends are 32-bit numbers
pub record Narrow (i : Interval) : Type 0 where
  pub low : Within i.low (negsuc 2147483647) (pos 2147483647)
  pub high : Within i.high (negsuc 2147483647) (pos 2147483647)

-- r is the result's bounds; a REDUCE gathers n elements of a source of extents s
abbrev pub Result : Node → ℕ → Interval → Interval → Interval → Interval → Type 0
Result x n a b c r = (s : List ℕ) → (x.op ≡ REDUCE → gathered_count s (list_of x.rowa) ≡ n) → r ≡ result_bounds x s a b c
