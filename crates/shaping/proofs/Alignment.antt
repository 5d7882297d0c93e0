-- The operands of a broadcast, right-aligned, and the larger extents.
use Prim.Native.Nat.{ℕ, ◌+◌, ◌-◌, ◌<◌, ◌≤◌, max}
use native.Mathlib.Omega.{arith}
use mathlib.Core.Path.{◌≡◌, refl, ap, sym, ◌∙◌}
use mathlib.Core.Bool.{Bool, cond}
use mathlib.Core.List.{List, [], ◌∷◌, ◌++◌}
use lib.Dec.{ltb}
use lib.ListN.{length, replicate, length-append, length-replicate}
use Rattle.laws.specs.Lists.{tab, all_below}
use Rattle.plan.proofs.ByOperation.{◌then◌, for_range}
use Rattle.shapes.specs.declared.Shape.{Shape}
use Rattle.shapes.specs.Rows.{extents_of}
use Rattle.shapes.specs.Rules.{extent, word_of, equal_or_one, aligned, can_broadcast, broadcast}
use Rattle.shapes.specs.Shown.{words_in, shown}
use Rattle.shapes.proofs.Extents.{extents_positive}
use Rattle.shapes.proofs.Words.{extent_word, word_after, extents_take, extents_tab}
use Rattle.shaping.proofs.Axes.{shown_ranked, axis_same}

-- ---- extents of 1 in front

module _ (s : Shape) where
  front_none : 0 + length (shown s) ≤ 4 → shown s ≡ replicate 0 1 ++ shown s
  front_none l = refl

  front_one : 1 + length (shown s) ≤ 4 → extents_of (1 ∷ s.n0 ∷ s.n1 ∷ s.n2 ∷ []) ≡ replicate 1 1 ++ shown s
  unfolding extents_of
  front_one l = ap (λ (r : List ℕ). 1 ∷ r) (extents_take 3 (words_in s) (omega arith))

  front_two : 2 + length (shown s) ≤ 4 → extents_of (1 ∷ 1 ∷ s.n0 ∷ s.n1 ∷ []) ≡ replicate 2 1 ++ shown s
  unfolding extents_of
  front_two l = ap (λ (r : List ℕ). 1 ∷ 1 ∷ r) (extents_take 2 (words_in s) (omega arith))

  front_three : 3 + length (shown s) ≤ 4 → extents_of (1 ∷ 1 ∷ 1 ∷ s.n0 ∷ []) ≡ replicate 3 1 ++ shown s
  unfolding extents_of
  front_three l = ap (λ (r : List ℕ). 1 ∷ 1 ∷ 1 ∷ r) (extents_take 1 (words_in s) (omega arith))

  front_four : 4 + length (shown s) ≤ 4 → extents_of (1 ∷ 1 ∷ 1 ∷ 1 ∷ []) ≡ replicate 4 1 ++ shown s
  unfolding extents_of
  front_four l = ap (λ (r : List ℕ). 1 ∷ 1 ∷ 1 ∷ 1 ∷ r) (extents_take 0 (words_in s) (omega arith))

pub front_tab : (s : Shape) (d : ℕ) → d + length (shown s) ≤ 4
    → extents_of (tab 4 (λ (k : ℕ). cond (ltb k d) 1 (word_of (words_in s) (k - d)))) ≡ replicate d 1 ++ shown s
unfolding tab
front_tab s d l =
    for_range (λ (d : ℕ). d + length (shown s) ≤ 4 → extents_of (tab 4 (λ (k : ℕ). cond (ltb k d) 1 (word_of (words_in s) (k - d)))) ≡ replicate d 1 ++ shown s) d 0 5
    (front_none s then front_one s then front_two s then front_three s then front_four s then tt) (omega arith) (omega arith) l

-- d of them bring a list to rank n
pub aligned_front : (n d : ℕ) (s : List ℕ) {r : List ℕ} → r ≡ replicate d 1 ++ s → d + length s ≡ n → r ≡ aligned n s
unfolding aligned
aligned_front n d s f e = let z : n - length s ≡ d = omega arith in rw z f

aligned_length : (n : ℕ) (s : List ℕ) → length s ≤ n → length (aligned n s) ≡ n
unfolding aligned
aligned_length n s l = rw (length-append, length-replicate) (omega arith)

-- ---- operands of one rank

module _ (a b : Shape) (s t : List ℕ) (left : shown a ≡ aligned (max (length s) (length t)) s) (right : shown b ≡ aligned (max (length s) (length t)) t) where
  left_rank : max (length s) (length t) ≡ length (shown a)
  left_rank = rw left (sym (aligned_length (max (length s) (length t)) s (omega arith)))

  right_rank : max (length s) (length t) ≡ length (shown b)
  right_rank = rw right (sym (aligned_length (max (length s) (length t)) t (omega arith)))

  pub can_axis : {n k : ℕ} {r : Bool} → n ≡ max (length s) (length t) → k < n → r ≡ equal_or_one (word_of (words_in a) k) (word_of (words_in b) k)
      → r ≡ equal_or_one (extent (aligned (max (length s) (length t)) s) k) (extent (aligned (max (length s) (length t)) t) k)
  can_axis {n} {k} e h is = rw (← left, ← right) (is ∙ axis_same (λ (k n m : ℕ). equal_or_one n m) a b k (omega (arith, left_rank)) (omega (arith, right_rank)))

  pub can_all : {n : ℕ} {r : Bool} → n ≡ max (length s) (length t)
      → r ≡ all_below n (λ (k : ℕ). equal_or_one (extent (aligned (max (length s) (length t)) s) k) (extent (aligned (max (length s) (length t)) t) k))
      → r ≡ can_broadcast s t
  unfolding can_broadcast
  can_all e all = rw e at all

  pub larger_tab : extents_of (tab 4 (λ (k : ℕ). max (word_of (words_in a) k) (word_of (words_in b) k))) ≡ broadcast s t
  unfolding broadcast
  larger_tab =
      let n = max (length s) (length t) in
      rw (← left, ← right)
      (extents_tab n 4 (λ (k : ℕ). max (extent (shown a) k) (extent (shown b) k)) (λ (k : ℕ). max (word_of (words_in a) k) (word_of (words_in b) k)) (omega (arith, left_rank, shown_ranked a))
      (λ k h. rw (extent_word (words_in a) k (omega (arith, left_rank)), extent_word (words_in b) k (omega (arith, right_rank))))
      (λ k h. omega (arith, extents_positive (words_in a) k))
      (λ h. omega (arith, rw (← left_rank) at (word_after (words_in a)), rw (← right_rank) at (word_after (words_in b)))))
