use mathlib.Core.Path.{◌≡◌}
use Rattle.laws.specs.Lists.{all_below}
use Rattle.packing.proofs.Breaking.{in_range_at}
use Rattle.packing.proofs.all_in_range.Given as goal

abbrev pub invariant-loop-k : goal.invariant-loop-k
invariant-loop-k l = l.all ≡ all_below l.k (in_range_at l.w)
