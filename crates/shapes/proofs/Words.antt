-- Which extents words show: those before the first zero.
use Prim.Native.Nat.{ℕ, zero, suc, ◌<◌, ◌≤◌, suc-le-suc}
use native.Mathlib.Nat.{not-suc-le-zero, le_of_suc-le-suc, zero-lt-suc}
use native.Mathlib.Omega.{arith}
use mathlib.Core.Path.{◌≡◌, refl, ap}
use mathlib.Core.List.{List, [], ◌∷◌}
use borrow.Author.Tests.{eq-eqb, ne_eqb, eqb-true}
use lib.Dec.{eqb}
use lib.ListN.{length, take}
use Rattle.laws.specs.Lists.{tab}
use Rattle.laws.proofs.Booleans.{bool_cases}
use Rattle.shapes.specs.Rows.{extents_of}
use Rattle.shapes.specs.Rules.{extent, word_of}
use Rattle.shapes.proofs.Extents.{extents_positive}

-- the rank of four words, by the first that is zero
module _ (a b c d : ℕ) where
  pub rank_none : a ≡ 0 → 0 ≡ length (extents_of (a ∷ b ∷ c ∷ d ∷ []))
  unfolding extents_of
  rank_none e = rw (eq-eqb a 0 e)

  pub rank_one : (a ≡ 0 → ⊥) → b ≡ 0 → 1 ≡ length (extents_of (a ∷ b ∷ c ∷ d ∷ []))
  unfolding extents_of
  rank_one p e = rw (ne_eqb a 0 p, eq-eqb b 0 e)

  pub rank_two : (a ≡ 0 → ⊥) → (b ≡ 0 → ⊥) → c ≡ 0 → 2 ≡ length (extents_of (a ∷ b ∷ c ∷ d ∷ []))
  unfolding extents_of
  rank_two p q e = rw (ne_eqb a 0 p, ne_eqb b 0 q, eq-eqb c 0 e)

  pub rank_three : (a ≡ 0 → ⊥) → (b ≡ 0 → ⊥) → (c ≡ 0 → ⊥) → d ≡ 0 → 3 ≡ length (extents_of (a ∷ b ∷ c ∷ d ∷ []))
  unfolding extents_of
  rank_three p q r e = rw (ne_eqb a 0 p, ne_eqb b 0 q, ne_eqb c 0 r, eq-eqb d 0 e)

  pub rank_four : (a ≡ 0 → ⊥) → (b ≡ 0 → ⊥) → (c ≡ 0 → ⊥) → (d ≡ 0 → ⊥) → 4 ≡ length (extents_of (a ∷ b ∷ c ∷ d ∷ []))
  unfolding extents_of
  rank_four p q r s = rw (ne_eqb a 0 p, ne_eqb b 0 q, ne_eqb c 0 r, ne_eqb d 0 s)

pub ruleset rank-laws = (rank_none, rank_one, rank_two, rank_three, rank_four)

-- below the rank, an extent is its word
pub extent_word : (ns : List ℕ) (k : ℕ) → k < length (extents_of ns) → extent (extents_of ns) k ≡ word_of ns k
unfolding extents_of
extent_word [] k h = absurd (not-suc-le-zero h)
extent_word (n ∷ ns) zero h = bool_cases (eqb n 0) (λ e. absurd (not-suc-le-zero (rw e at h))) (λ e. rw e)
extent_word (n ∷ ns) (suc k) h =
    bool_cases (eqb n 0) (λ e. absurd (not-suc-le-zero (rw e at h))) (λ e. rw e (extent_word ns k (le_of_suc-le-suc (rw e at h))))

pub word_positive : (ns : List ℕ) (k : ℕ) → k < length (extents_of ns) → 0 < word_of ns k
word_positive ns k h = rw (extent_word ns k h) at (extents_positive ns k)

-- the word after the extents is zero
pub word_after : (ns : List ℕ) → word_of ns (length (extents_of ns)) ≡ 0
unfolding extents_of
word_after [] = refl
word_after (n ∷ ns) = bool_cases (eqb n 0) (λ e. rw e (eqb-true n 0 e)) (λ e. rw e (word_after ns))

-- the words up to the rank are enough
pub extents_take : (m : ℕ) (ns : List ℕ) → length (extents_of ns) ≤ m → extents_of (take m ns) ≡ extents_of ns
unfolding extents_of
extents_take m [] h = go m
  where
    go : (m : ℕ) → extents_of (take m []) ≡ []
    go zero = refl
    go (suc m) = refl
extents_take zero (n ∷ ns) h = bool_cases (eqb n 0) (λ e. rw e) (λ e. absurd (not-suc-le-zero (rw e at h)))
extents_take (suc m) (n ∷ ns) h =
    bool_cases (eqb n 0) (λ e. rw e) (λ e. rw e (rw (extents_take m ns (le_of_suc-le-suc (rw e at h)))))

-- words that are f below n, and zero after it
pub extents_tab : (n m : ℕ) (f g : ℕ → ℕ) → n ≤ m → ((k : ℕ) → k < n → g k ≡ f k) → ((k : ℕ) → k < n → 0 < f k) → (n < m → g n ≡ 0)
    → extents_of (tab m g) ≡ tab n f
unfolding extents_of tab
extents_tab zero zero f g l same more last = refl
extents_tab zero (suc m) f g l same more last = rw (last (zero-lt-suc m))
extents_tab (suc n) zero f g l same more last = absurd (not-suc-le-zero l)
extents_tab (suc n) (suc m) f g l same more last =
    rw (same 0 (zero-lt-suc n), ne_eqb (f 0) 0 (λ e. absurd (omega (arith, more 0 (zero-lt-suc n)))))
    (ap (λ (s : List ℕ). f 0 ∷ s)
    (extents_tab n m (λ k. f (suc k)) (λ k. g (suc k)) (le_of_suc-le-suc l) (λ k h. same (suc k) (suc-le-suc h)) (λ k h. more (suc k) (suc-le-suc h))
    (λ h. last (suc-le-suc h))))
