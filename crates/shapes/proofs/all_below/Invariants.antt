use Rattle.std.proofs.Common.{ℕ, ◌<◌, true}
use Rattle.shapes.proofs.all_below.Given as goal

-- the test held of each axis so far
abbrev pub invariant-loop-k : goal.invariant-loop-k
invariant-loop-k g l = (j : ℕ) → j < l.k → goal.F-post g l.holds j true
