-- The fields of a node as words of the table, and as counts.
use Prim.Native.Nat.{ℕ, ◌+◌, ◌<◌}
use mathlib.Core.Path.{◌≡◌, refl, ap, ◌∙◌}
use mathlib.Core.List.{List}
use native.Mathlib.Omega.{arith}
use lib.IntN.{ℤ, pos, negsuc}
use Rattle.plan.specs.Words.{size_of, size_at, node_of, node_at, words_of, list_of}
use Rattle.plan.proofs.ByOperation.{◌then◌, for_range}
use Rattle.plan.proofs.Decoding.{word_at_lem}
use Rattle.shapes.specs.Rules.{word_of}
use Rattle.guarantees.specs.Demand3.{word, as_count, row_from}

-- a small count is the word itself
pub size_is : (w : ℤ) (k : ℕ) → size_of w ≡ k → k < 256 → w ≡ pos k
unfolding size_of
size_is (pos n) k e h = ap pos e
size_is (negsuc n) k e h = absurd (omega arith)

pub as_count_lem : (w : ℤ) → size_of w ≡ as_count w
unfolding size_of
as_count_lem (pos z) = refl
as_count_lem (negsuc z) = refl

module _ (t : List ℤ) (n : ℕ) where
  count_at : (k : ℕ) → k < 17 → size_at (words_of t n) k ≡ as_count (word t n k)
  count_at k h = ap size_of (word_at_lem t n k h) ∙ as_count_lem (word t n k)

  -- its sources
  pub first_node : (node_at t n).source1.0 ≡ as_count (word t n 1)
  unfolding node_at node_of
  first_node = count_at 1 (omega arith)

  pub second_node : (node_at t n).source2.0 ≡ as_count (word t n 2)
  unfolding node_at node_of
  second_node = count_at 2 (omega arith)

  pub third_node : (node_at t n).source3.0 ≡ as_count (word t n 3)
  unfolding node_at node_of
  third_node = count_at 3 (omega arith)

  -- its operation, type and device
  pub op_size : (node_at t n).op ≡ size_of (word t n 0)
  unfolding node_at node_of
  op_size = ap size_of (word_at_lem t n 0 (omega arith))

  pub op_of : (k : ℕ) → word t n 0 ≡ pos k → (node_at t n).op ≡ k
  unfolding size_of
  op_of k e = op_size ∙ rw e refl

  pub op_word : (k : ℕ) → (node_at t n).op ≡ k → k < 256 → word t n 0 ≡ pos k
  op_word k e h = size_is (word t n 0) k (rw op_size at e) h

  pub dtype_size : (node_at t n).dtype ≡ size_of (word t n 4)
  unfolding node_at node_of
  dtype_size = ap size_of (word_at_lem t n 4 (omega arith))

  pub device_size : (node_at t n).device ≡ size_of (word t n 6)
  unfolding node_at node_of
  device_size = ap size_of (word_at_lem t n 6 (omega arith))

  -- its number and limits
  pub number_word : (node_at t n).number ≡ word t n 5
  unfolding node_at node_of
  number_word = word_at_lem t n 5 (omega arith)

  pub low_word : (node_at t n).low ≡ word t n 7
  unfolding node_at node_of
  low_word = word_at_lem t n 7 (omega arith)

  pub high_word : (node_at t n).high ≡ word t n 8
  unfolding node_at node_of
  high_word = word_at_lem t n 8 (omega arith)

  -- its rows
  pub row_a : list_of (node_at t n).rowa ≡ row_from t n 9
  unfolding node_at node_of
  row_a = rw (count_at 9 (omega arith), count_at 10 (omega arith), count_at 11 (omega arith), count_at 12 (omega arith)) refl

  pub row_b : list_of (node_at t n).rowb ≡ row_from t n 13
  unfolding node_at node_of
  row_b = rw (count_at 13 (omega arith), count_at 14 (omega arith), count_at 15 (omega arith), count_at 16 (omega arith)) refl

  pub row_a_at : (i : ℕ) → i < 4 → word_of (list_of (node_at t n).rowa) i ≡ size_of (word t n (9 + i))
  unfolding node_at node_of
  row_a_at i =
      for_range (λ (j : ℕ). word_of (list_of (node_at t n).rowa) j ≡ size_of (word t n (9 + j))) i 0 4
      (ap size_of (word_at_lem t n 9 (omega arith)) then ap size_of (word_at_lem t n 10 (omega arith)) then ap size_of (word_at_lem t n 11 (omega arith)) then ap size_of (word_at_lem t n 12 (omega arith)) then tt) (omega arith)

  pub row_b_at : (i : ℕ) → i < 4 → word_of (list_of (node_at t n).rowb) i ≡ size_of (word t n (13 + i))
  unfolding node_at node_of
  row_b_at i =
      for_range (λ (j : ℕ). word_of (list_of (node_at t n).rowb) j ≡ size_of (word t n (13 + j))) i 0 4
      (ap size_of (word_at_lem t n 13 (omega arith)) then ap size_of (word_at_lem t n 14 (omega arith)) then ap size_of (word_at_lem t n 15 (omega arith)) then ap size_of (word_at_lem t n 16 (omega arith)) then tt) (omega arith)
