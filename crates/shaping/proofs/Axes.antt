-- Tests of two shapes axis by axis, and the axes of a permutation.
use Prim.Native.Nat.{ℕ, ◌<◌, ◌≤◌}
use native.Mathlib.Omega.{arith}
use mathlib.Core.Path.{◌≡◌, ap, sym, ◌∙◌}
use mathlib.Core.Bool.{Bool, true, false, cond}
use mathlib.Core.List.{List, map}
use borrow.Author.Tests.{eq-eqb, ne_eqb, eqb-true, eqb-false, le-leb, lt-leb}
use lib.Dec.{eqb, leb}
use lib.ListN.{length}
use Rattle.laws.specs.Lists.{tab, all_below}
use Rattle.laws.proofs.Booleans.{bool_cases}
use Rattle.laws.proofs.Lists.{tab_map, take_tab}
use Rattle.plan.specs.declared.Row.{Row}
use Rattle.plan.specs.Words.{list_of}
use Rattle.shapes.specs.declared.Shape.{Shape}
use Rattle.shapes.specs.Rows.{extents_of, is_permutation}
use Rattle.shapes.specs.Rules.{extent, word_of, same_rank, permuted}
use Rattle.shapes.specs.Shown.{words_in, shown}
use Rattle.shapes.proofs.Extents.{extents_positive, extents_length}
use Rattle.shapes.proofs.RowTests.{axis_below}
use Rattle.shapes.proofs.Words.{extent_word, extents_tab}

pub shown_ranked : (s : Shape) → length (shown s) ≤ 4
shown_ranked s = extents_length (words_in s)

-- ---- a test t of each axis

module _ (t : ℕ → ℕ → ℕ → Bool) (a b : Shape) where
  pub axis_same : (k : ℕ) → k < length (shown a) → k < length (shown b)
      → t k (word_of (words_in a) k) (word_of (words_in b) k) ≡ t k (extent (shown a) k) (extent (shown b) k)
  axis_same k h l = rw (extent_word (words_in a) k h, extent_word (words_in b) k l)

module _ (a b : Shape) (p : ℕ → Bool) where
  pub ranks_same : {n m : ℕ} {r : Bool} → n ≡ length (shown a) → m ≡ length (shown b) → n ≡ m → r ≡ all_below n p → r ≡ same_rank (shown a) (shown b) p
  unfolding same_rank
  ranks_same e f same each = rw (eq-eqb (length (shown a)) (length (shown b)) (omega arith), ← e) each

  pub ranks_differ : {n m : ℕ} → n ≡ length (shown a) → m ≡ length (shown b) → (n ≡ m → ⊥) → false ≡ same_rank (shown a) (shown b) p
  unfolding same_rank
  ranks_differ e f differ = rw (ne_eqb (length (shown a)) (length (shown b)) (λ q. differ (e ∙ q ∙ sym f)))

-- the same rank either way round
pub same_rank_swap : (s r : List ℕ) (p : ℕ → Bool) → same_rank s r p ≡ same_rank r s p
unfolding same_rank
same_rank_swap s r p =
    bool_cases (eqb (length s) (length r))
    (λ e. let z : length s ≡ length r = eqb-true _ _ e in rw z)
    (λ e. let z : (length s ≡ length r → ⊥) = eqb-false _ _ e in rw (e, ne_eqb (length r) (length s) (λ q. z (sym q))))

-- ---- PERMUTE

module _ (s : Shape) (row : Row) (p : is_permutation (length (shown s)) (list_of row) ≡ true) where
  axes : permuted (shown s) (list_of row) ≡ tab (length (shown s)) (λ (k : ℕ). extent (shown s) (word_of (list_of row) k))
  unfolding permuted tab
  axes =
      ap (map (λ (a : ℕ). extent (shown s) a)) (take_tab (length (shown s)) 4 (word_of (list_of row)) (shown_ranked s))
      ∙ tab_map (λ (a : ℕ). extent (shown s) a) (length (shown s)) (word_of (list_of row))

  pub permuted_tab : {n : ℕ} → n ≡ length (shown s)
      → extents_of (tab 4 (λ (k : ℕ). cond (leb n k) 0 (word_of (words_in s) (word_of (list_of row) k)))) ≡ permuted (shown s) (list_of row)
  permuted_tab {n} e =
      rw (axes, ← e)
      (extents_tab n 4 (λ (k : ℕ). extent (shown s) (word_of (list_of row) k)) (λ (k : ℕ). cond (leb n k) 0 (word_of (words_in s) (word_of (list_of row) k)))
      (omega (arith, shown_ranked s))
      (λ k h. rw (lt-leb n k h) (sym (extent_word (words_in s) (word_of (list_of row) k) (axis_below (length (shown s)) (list_of row) p k (omega (arith, shown_ranked s)) (omega arith)))))
      (λ k h. extents_positive (words_in s) (word_of (list_of row) k))
      (λ h. rw (le-leb n n (omega arith))))
