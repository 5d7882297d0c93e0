use Rattle.std.proofs.Common.{◌≡◌, ℕ, ◌<◌, [], length, slice_index_or, pos}
use Rattle.framing.specs.Words.{word_of}
use Rattle.framing.proofs.read_words.Given as goal

abbrev pub invariant-loop-k : goal.invariant-loop-k
invariant-loop-k l = (length l.table ≡ length l.fn.table) × ((k : ℕ) → k < l.k → slice_index_or l.table k (pos 0) ≡ word_of (slice_index_or l.fn.words k []))
