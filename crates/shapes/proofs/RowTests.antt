-- Tests of the four words of a row, and what a row that passes is.
use Prim.Native.Nat.{ℕ, zero, suc, ◌+◌, ◌<◌, ◌≤◌}
use native.Mathlib.Nat.{not-suc-le-zero, le_of_suc-le-suc}
use native.Mathlib.Omega.{arith}
use mathlib.Core.Path.{◌≡◌, refl, sym, ◌∙◌}
use mathlib.Core.Bool.{Bool, true, false, cond, false≢true}
use mathlib.Core.List.{List, [], ◌∷◌}
use borrow.Author.Tests.{eqb-true, eq-eqb, ne_eqb, leb-true, ltb-true, ltb-false, lt-ltb}
use lib.Dec.{eqb, leb, ltb}
use lib.ListN.{length, take}
use Rattle.laws.specs.Lists.{occurrences}
use Rattle.laws.proofs.Booleans.{bool_cases, and_true, all_below_lem}
use Rattle.laws.proofs.Lists.{take_whole}
use Rattle.plan.specs.declared.Row.{Row}
use Rattle.plan.specs.Words.{list_of}
use Rattle.shapes.specs.Rows.{extent_limit, row_of, is_shape_row, is_offset_row, is_permutation}
use Rattle.shapes.specs.Rules.{word_of}
use Rattle.shapes.specs.Shown.{Narrow}

-- one word more, that is k or not
pub occurs_more : (k j : ℕ) (ns : List ℕ) → j < length ns → word_of ns j ≡ k → occurrences k (take (suc j) ns) ≡ suc (occurrences k (take j ns))
unfolding occurrences
occurs_more k j [] h e = absurd (not-suc-le-zero h)
occurs_more k zero (n ∷ ns) h e = rw (eq-eqb k n (sym e)) refl
occurs_more k (suc j) (n ∷ ns) h e = rw (occurs_more k j ns (le_of_suc-le-suc h) e) (omega arith)

pub occurs_same : (k j : ℕ) (ns : List ℕ) → (word_of ns j ≡ k → ⊥) → occurrences k (take (suc j) ns) ≡ occurrences k (take j ns)
unfolding occurrences
occurs_same k zero [] e = refl
occurs_same k (suc j) [] e = refl
occurs_same k zero (n ∷ ns) e = rw (ne_eqb k n (λ q. e (sym q))) refl
occurs_same k (suc j) (n ∷ ns) e = rw (occurs_same k j ns e) refl

-- four words are not five axes
one_axis : (x : ℕ) → cond (eqb 0 x) 1 0 + (cond (eqb 1 x) 1 0 + (cond (eqb 2 x) 1 0 + (cond (eqb 3 x) 1 0 + cond (eqb 4 x) 1 0))) ≤ 1
one_axis zero = omega arith
one_axis (suc zero) = omega arith
one_axis (suc (suc zero)) = omega arith
one_axis (suc (suc (suc zero))) = omega arith
one_axis (suc (suc (suc (suc zero)))) = omega arith
one_axis (suc (suc (suc (suc (suc x))))) =
    let y : ℕ = suc (suc (suc (suc (suc x)))) in
    rw (ne_eqb 0 y (λ e. omega arith), ne_eqb 1 y (λ e. omega arith), ne_eqb 2 y (λ e. omega arith), ne_eqb 3 y (λ e. omega arith), ne_eqb 4 y (λ e. omega arith)) (omega arith)

each_once : (rank : ℕ) (row : List ℕ) → length row ≤ rank → is_permutation rank row ≡ true → (k : ℕ) → k < rank → occurrences k row ≡ 1
unfolding is_permutation
each_once rank row l e k h =
    rw (take_whole rank row l) at
    (eqb-true (occurrences k (take rank row)) 1 (all_below_lem rank (λ (k : ℕ). eqb (occurrences k (take rank row)) 1) (and_true (row_of (λ (n : ℕ). ltb n rank) rank row) _ e).1 k h))

pub no_permutation : (rank a b c d : ℕ) → 4 < rank → false ≡ is_permutation rank (a ∷ b ∷ c ∷ d ∷ [])
unfolding occurrences
no_permutation rank a b c d h =
    bool_cases (is_permutation rank (a ∷ b ∷ c ∷ d ∷ []))
    (λ e.
    let once = each_once rank (a ∷ b ∷ c ∷ d ∷ []) (omega arith) e in
    absurd (omega (arith, one_axis a, one_axis b, one_axis c, one_axis d, once 0 (omega arith), once 1 (omega arith), once 2 (omega arith), once 3 (omega arith), once 4 h)))
    (λ e. sym e)

pub permutation_ranked : (rank : ℕ) (row : Row) → is_permutation rank (list_of row) ≡ true → rank ≤ 4
permutation_ranked rank row e =
    bool_cases (ltb 4 rank)
    (λ l. absurd (false≢true (no_permutation rank row.r0 row.r1 row.r2 row.r3 (ltb-true 4 rank l) ∙ e)))
    (λ l. ltb-false 4 rank l)

-- ---- the words of a row that passes

-- what is asked of word k
pub row_word : (p : ℕ → Bool) (rank : ℕ) (row : List ℕ) → row_of p rank row ≡ true → (k : ℕ) → k < 4
    → cond (ltb k rank) (p (word_of row k)) (eqb (word_of row k) 0) ≡ true
unfolding row_of
row_word p rank row e = all_below_lem 4 (λ (k : ℕ). cond (ltb k rank) (p (word_of row k)) (eqb (word_of row k) 0)) e

-- PERMUTE's are axes
pub axis_below : (rank : ℕ) (row : List ℕ) → is_permutation rank row ≡ true → (k : ℕ) → k < 4 → k < rank → word_of row k < rank
unfolding is_permutation
axis_below rank row e k l h =
    let test = row_word (λ (n : ℕ). ltb n rank) rank row (and_true (row_of (λ (n : ℕ). ltb n rank) rank row) _ e).0 k l in
    ltb-true (word_of row k) rank (rw (lt-ltb k rank h) at test)

-- words of at most 1048576 fit 32 bits
module _ (p : ℕ → Bool) (small : (n : ℕ) → p n ≡ true → n ≤ extent_limit) (rank : ℕ) (row : Row) (passes : row_of p rank (list_of row) ≡ true) where
  word_small : (k : ℕ) → k < 4 → word_of (list_of row) k ≤ extent_limit
  word_small k h =
      let test = row_word p rank (list_of row) passes k h in
      bool_cases (ltb k rank)
      (λ e. small (word_of (list_of row) k) (rw e at test))
      (λ e. omega (arith, eqb-true (word_of (list_of row) k) 0 (rw e at test)))

  row_narrow : Narrow row
  row_narrow =
      record {
        word_0 = omega (arith, word_small 0 (omega arith));
        word_1 = omega (arith, word_small 1 (omega arith));
        word_2 = omega (arith, word_small 2 (omega arith));
        word_3 = omega (arith, word_small 3 (omega arith));
      }

module _ (row : Row) where
  pub offset_narrow : (rank : ℕ) → is_offset_row rank (list_of row) ≡ true → Narrow row
  unfolding is_offset_row
  offset_narrow rank = row_narrow (λ (n : ℕ). leb n extent_limit) (λ n e. leb-true n extent_limit e) rank row

  pub shape_narrow : is_shape_row (list_of row) ≡ true → Narrow row
  unfolding is_shape_row
  shape_narrow = row_narrow (λ (n : ℕ). leb n extent_limit) (λ n e. leb-true n extent_limit e) _ row
