use Rattle.std.proofs.Common.{◌≡◌, ℕ, ◌+◌, ◌<◌, length, slice_index_or, pos}
use Rattle.framing.proofs.fill.Given as goal

abbrev pub invariant-loop-k : goal.invariant-loop-k
invariant-loop-k l = (length l.buffer ≡ length l.fn.buffer) × ((k : ℕ) → k < l.k → slice_index_or l.buffer k (pos 0) ≡ pos (1000 + k))
