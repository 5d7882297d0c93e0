-- Rule 7: a row's tests, and what they say of the table's words.
use Prim.Native.Nat.{ℕ, zero, suc, ◌+◌, ◌<◌, ◌≤◌}
use mathlib.Core.Path.{◌≡◌, refl, ap, sym, ◌∙◌}
use mathlib.Core.Bool.{Bool, true}
use mathlib.Core.List.{List, [], ◌∷◌}
use native.Mathlib.Omega.{arith}
use borrow.Author.Tests.{eqb-true, eq-eqb, ne_eqb, ltb-true, ltb-false, lt-ltb, le-ltb, leb-true, le-leb}
use lib.IntN.{ℤ, pos, negsuc}
use lib.Signed.{◌≤ℤ◌, ◌<ℤ◌}
use lib.Dec.{eqb, ltb, leb}
use lib.ListN.{length, get_or, take}
use lib.Seq.{get_or-take, length-take-le, ext_get_or}
use Rattle.laws.specs.Lists.{occurrences, position}
use Rattle.laws.proofs.Booleans.{bool_cases, and_true, and_true_of, all_below_lem, all_below_of}
use Rattle.laws.proofs.Lists.{position_lt, position_at, position_of}
use Rattle.laws.proofs.Parts.{arithℤ}
use Rattle.plan.specs.Words.{size_of}
use Rattle.shapes.specs.Rows.{extents_of, row_of, is_shape_row, is_flag_row, is_offset_row, is_permutation}
use Rattle.shapes.specs.Rules.{word_of}
use Rattle.shapes.proofs.Extents.{extents_length}
use Rattle.shapes.proofs.RowTests.{row_word}
use Rattle.shapes.proofs.Words.{word_positive, extent_word}
use Rattle.guarantees.specs.Demand3.{word}
use Rattle.guarantees.specs.Rules.{Exactly, From, RowOf, PermutationRow, IsRow}

-- ---- words as counts

-- a count that no negative word has
pub size_from : (w : ℤ) (m : ℕ) → m < 18446744073709551615 → size_of w ≤ m → From (pos 0) (pos m) w
unfolding size_of
size_from (pos k) m l h = (omega arithℤ, omega (arithℤ, h))
size_from (negsuc k) m l h = absurd (omega arith)

pub from_size : (w : ℤ) (m : ℕ) → From (pos 0) (pos m) w → size_of w ≤ m
unfolding size_of
from_size (pos k) m h = omega (arithℤ, h.1)
from_size (negsuc k) m h = absurd (omega (arithℤ, h.0))

-- from 1 on
pub size_from_1 : (w : ℤ) (m : ℕ) → m < 18446744073709551615 → 1 ≤ size_of w → size_of w ≤ m → From (pos 1) (pos m) w
unfolding size_of
size_from_1 (pos k) m l a h = (omega (arithℤ, a), omega (arithℤ, h))
size_from_1 (negsuc k) m l a h = absurd (omega arith)

pub from_1_size : (w : ℤ) (m : ℕ) → From (pos 1) (pos m) w → (1 ≤ size_of w) × (size_of w ≤ m)
unfolding size_of
from_1_size (pos k) m h = (omega (arithℤ, h.0), omega (arithℤ, h.1))
from_1_size (negsuc k) m h = absurd (omega (arithℤ, h.0))

pub size_zero : (w : ℤ) → size_of w ≡ 0 → w ≡ pos 0
unfolding size_of
size_zero (pos k) e = ap pos e
size_zero (negsuc k) e = absurd (omega arith)

zero_size : (w : ℤ) → w ≡ pos 0 → size_of w ≡ 0
unfolding size_of
zero_size w e = rw e refl

pub size_below : (w : ℤ) (n : ℕ) → n ≤ 256 → size_of w < n → (pos 0 ≤ℤ w) × (w <ℤ pos n)
unfolding size_of
size_below (pos k) n l h = (omega arithℤ, omega (arithℤ, h))
size_below (negsuc k) n l h = absurd (omega arith)

pub below_size : (w : ℤ) (n : ℕ) → (pos 0 ≤ℤ w) × (w <ℤ pos n) → size_of w < n
unfolding size_of
below_size (pos k) n h = omega (arithℤ, h.1)
below_size (negsuc k) n h = absurd (omega (arithℤ, h.0))

-- ---- a number that stands once in a list

once_at : (xs : List ℕ) (m : ℕ) → occurrences m xs ≡ 1 → (k : ℕ) × (k < length xs) × (get_or xs k 0 ≡ m) × ((j : ℕ) → j < length xs → get_or xs j 0 ≡ m → j ≡ k)
once_at xs m e =
    (position m xs, position_lt m xs (omega (arith, e)), position_at m xs 0 (omega (arith, e)), λ j l q. sym (position_of xs j 0 (rw q e) l) ∙ ap (λ (i : ℕ). position i xs) q)

none_at : (xs : List ℕ) (m : ℕ) → ((j : ℕ) → j < length xs → get_or xs j 0 ≡ m → ⊥) → occurrences m xs ≡ 0
unfolding occurrences
none_at [] m h = refl
none_at (x ∷ xs) m h = rw (ne_eqb m x (λ e. h 0 (omega arith) (sym e))) (omega (arith, none_at xs m (λ j l q. h (suc j) (omega arith) q)))

at_once : (xs : List ℕ) (m k : ℕ) → k < length xs → get_or xs k 0 ≡ m → ((j : ℕ) → j < length xs → get_or xs j 0 ≡ m → j ≡ k) → occurrences m xs ≡ 1
unfolding occurrences
at_once [] m k l e h = absurd (omega arith)
at_once (x ∷ xs) m zero l e h = rw (eq-eqb m x (sym e)) (omega (arith, none_at xs m (λ j g q. absurd (omega (arith, h (suc j) (omega arith) q)))))
at_once (x ∷ xs) m (suc k) l e h =
    rw (ne_eqb m x (λ q. absurd (omega (arith, h 0 (omega arith) (sym q))))) (omega (arith, at_once xs m k (omega arith) e (λ j g q. omega (arith, h (suc j) (omega arith) q))))

-- ---- the extents of a row

extents_rank : (ns : List ℕ) (rank : ℕ) → rank ≤ length ns → ((i : ℕ) → i < rank → 0 < word_of ns i) → (rank < length ns → word_of ns rank ≡ 0) → length (extents_of ns) ≡ rank
unfolding extents_of
extents_rank [] zero l h z = refl
extents_rank [] (suc rank) l h z = absurd (omega arith)
extents_rank (m ∷ ns) zero l h z = rw (z (omega arith)) refl
extents_rank (m ∷ ns) (suc rank) l h z =
    rw (ne_eqb m 0 (λ e. absurd (omega (arith, h 0 (omega arith), e)))) (ap suc (extents_rank ns rank (omega arith) (λ i q. h (suc i) (omega arith)) (λ q. z (omega arith))))

-- ---- a row of four words from word k of node n on

module _ (t : List ℤ) (n k : ℕ) (row : List ℕ) (long : length row ≡ 4) (at : (i : ℕ) → i < 4 → word_of row i ≡ size_of (word t n (k + i))) where
  module _ (p : ℕ → Bool) (P : ℤ → Type 0) (asks : (w : ℤ) → Exactly (p (size_of w) ≡ true) (P w)) (rank : ℕ) (ranked : rank ≤ 4) where
    row_says : Exactly (row_of p rank row ≡ true) (RowOf P t n k rank)
    unfolding row_of
    row_says = (
      λ e.
          record {
            ranked = ranked;
            each = λ i l. (asks (word t n (k + i))).0 (rw (at i (omega arith)) at (rw (lt-ltb i rank l) at (row_word p rank row e i (omega arith))));
            zeros = λ i l h. size_zero (word t n (k + i)) (sym (at i h) ∙ eqb-true _ 0 (rw (le-ltb i rank l) at (row_word p rank row e i h)));
          },
      λ r. all_below_of 4 _ (λ i h.
          bool_cases (ltb i rank)
          (λ l. rw (l, at i h) ((asks (word t n (k + i))).1 (r.each i (ltb-true i rank l))))
          (λ l. rw l (eq-eqb _ 0 (at i h ∙ zero_size (word t n (k + i)) (r.zeros i (ltb-false i rank l) h))))),
    )

  -- flags, offsets, axes
  pub flags_say : (rank : ℕ) → rank ≤ 4 → Exactly (is_flag_row rank row ≡ true) (RowOf (From (pos 0) (pos 1)) t n k rank)
  unfolding is_flag_row
  flags_say = row_says (λ (m : ℕ). leb m 1) (From (pos 0) (pos 1)) (λ w. (λ e. size_from w 1 (omega arith) (leb-true _ 1 e), λ h. le-leb _ 1 (from_size w 1 h)))

  pub offsets_say : (rank : ℕ) → rank ≤ 4 → Exactly (is_offset_row rank row ≡ true) (RowOf (From (pos 0) (pos 1048576)) t n k rank)
  unfolding is_offset_row
  offsets_say = row_says (λ (m : ℕ). leb m 1048576) (From (pos 0) (pos 1048576)) (λ w. (λ e. size_from w 1048576 (omega arith) (leb-true _ 1048576 e), λ h. le-leb _ 1048576 (from_size w 1048576 h)))

  -- extents: as many as stand before the first zero
  rank_is : (rank : ℕ) → rank ≤ 4 → ((i : ℕ) → i < rank → 0 < size_of (word t n (k + i))) → (rank < 4 → size_of (word t n (k + rank)) ≡ 0) → length (extents_of row) ≡ rank
  rank_is rank l h z =
      extents_rank row rank (omega (arith, long)) (λ i q. rw (at i (omega arith)) (h i q)) (λ q. at rank (omega (arith, long)) ∙ z (omega (arith, long)))

  pub shape_says : Exactly (is_shape_row row ≡ true) ((rank : ℕ) × RowOf (From (pos 1) (pos 1048576)) t n k rank)
  unfolding is_shape_row is_offset_row
  shape_says = (
    λ e.
        let l : length (extents_of row) ≤ 4 = omega (arith, long, extents_length row) in
        let r = (offsets_say (length (extents_of row)) l).0 e in (
          length (extents_of row),
          record {
            ranked = l;
            each = λ i q. size_from_1 (word t n (k + i)) 1048576 (omega arith) (rw (at i (omega arith)) at (word_positive row i q)) (from_size (word t n (k + i)) 1048576 (r.each i q));
            zeros = r.zeros;
          },
        ),
    λ w.
        let rank = w.0 in
        let r = w.1 in
        let same = rank_is rank r.ranked (λ i q. omega (arith, from_1_size (word t n (k + i)) 1048576 (r.each i q))) (λ q. zero_size (word t n (k + rank)) (r.zeros rank (omega arith) q)) in
        rw same ((offsets_say rank r.ranked).1 (record { ranked = r.ranked; each = λ i q. size_from (word t n (k + i)) 1048576 (omega arith) (from_1_size (word t n (k + i)) 1048576 (r.each i q)).1; zeros = r.zeros })),
  )

  -- the extents that a row is
  pub row_is : (r : List ℕ) → IsRow t n k r → extents_of row ≡ r
  unfolding size_of
  row_is r w =
      let same = rank_is (length r) w.ranked (λ i q. rw (w.each i q).1 (omega (arith, (w.each i q).0))) (λ q. zero_size (word t n (k + length r)) (w.zeros (length r) (omega arith) q)) in
      ext_get_or 1 (extents_of row) r same (λ i q. let h : i < length r = omega (arith, same) in extent_word row i q ∙ at i (omega (arith, w.ranked)) ∙ rw (w.each i h).1 refl)

-- PERMUTE's row
module _ (t : List ℤ) (n : ℕ) (row : List ℕ) (long : length row ≡ 4) (at : (i : ℕ) → i < 4 → word_of row i ≡ size_of (word t n (9 + i))) (rank : ℕ) (ranked : rank ≤ 4) where
  front : length (take rank row) ≡ rank
  front = length-take-le rank row (omega (arith, long))

  front_at : (i : ℕ) → i < rank → get_or (take rank row) i 0 ≡ size_of (word t n (9 + i))
  front_at i l = get_or-take rank row i 0 l ∙ at i (omega arith)

  axes_say : Exactly (row_of (λ (m : ℕ). ltb m rank) rank row ≡ true) (RowOf (λ (w : ℤ). (pos 0 ≤ℤ w) × (w <ℤ pos rank)) t n 9 rank)
  axes_say = row_says t n 9 row long at (λ (m : ℕ). ltb m rank) _ (λ w. (λ e. size_below w rank (omega arith) (ltb-true _ rank e), λ h. lt-ltb _ rank (below_size w rank h))) rank ranked

  small_is : (w : ℤ) (m : ℕ) → m < rank → size_of w ≡ m → w ≡ pos m
  unfolding size_of
  small_is (pos j) m l e = ap pos e
  small_is (negsuc j) m l e = absurd (omega arith)

  is_small : (w : ℤ) (m : ℕ) → w ≡ pos m → size_of w ≡ m
  unfolding size_of
  is_small w m e = rw e refl

  pub permutation_says : Exactly (is_permutation rank row ≡ true) (PermutationRow t n rank)
  unfolding is_permutation
  permutation_says = (
    λ e.
        let both = and_true (row_of (λ (m : ℕ). ltb m rank) rank row) _ e in
        record {
          row = axes_say.0 both.0;
          once = λ m l.
              let w = once_at (take rank row) m (eqb-true _ 1 (all_below_lem rank (λ (k : ℕ). eqb (occurrences k (take rank row)) 1) both.1 m l)) in
              let q : w.0 < rank = omega (arith, front, w.1) in
              (w.0, q, small_is _ m l (sym (front_at w.0 q) ∙ w.2), λ j g z. w.3 j (omega (arith, front)) (front_at j g ∙ is_small _ m z));
        },
    λ p. and_true_of _ _ (axes_say.1 p.row) (all_below_of rank (λ (k : ℕ). eqb (occurrences k (take rank row)) 1) (λ m l.
        let w = p.once m l in
        eq-eqb _ 1 (at_once (take rank row) m w.0 (omega (arith, front, w.1)) (front_at w.0 w.1 ∙ is_small _ m w.2)
        (λ j g z. let h : j < rank = omega (arith, front) in w.3 j h (small_is _ m l (sym (front_at j h) ∙ z)))))),
  )
