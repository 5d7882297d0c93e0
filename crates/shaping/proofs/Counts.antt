-- Counts with a limit: what a product of counts becomes, and which counts stay.
use Prim.Native.Nat.{ℕ, suc, ◌*◌, ◌<◌, ◌≤◌}
use native.Mathlib.Nat.{mul-le-mul, pos_of_ne-zero}
use native.Mathlib.Omega.{arith}
use mathlib.Core.Path.{◌≡◌, sym, ◌∙◌}
use mathlib.Core.Bool.{cond}
use mathlib.Core.List.{List, [], ◌∷◌}
use borrow.Author.Tests.{eq-eqb, ne_eqb, leb-true, leb-false, le-leb, lt-leb}
use lib.Dec.{eqb, leb}
use lib.ListN.{length}
use Rattle.laws.specs.Lists.{tab}
use Rattle.laws.specs.Numbering.{count}
use Rattle.laws.proofs.Booleans.{bool_cases, cond_both}
use Rattle.shapes.specs.Rows.{extents_of}
use Rattle.shapes.specs.Rules.{element_limit, extent, flagged, gathered_extents}
use Rattle.shapes.specs.Shown.{capped}
use Rattle.shapes.proofs.Extents.{Positive}

-- a count within the limit stays, one over it is 1048577
pub capped_within : {n : ℕ} → n ≤ element_limit → capped n ≡ n
unfolding capped
capped_within {n} h = rw (le-leb n element_limit h)

capped_over : {n : ℕ} → element_limit < n → capped n ≡ 1048577
unfolding capped
capped_over {n} h = rw (lt-leb n element_limit h)

-- by the two cases
by_limit : {G : Type 0} (n : ℕ) → (n ≤ element_limit → G) → (element_limit < n → G) → G
by_limit n f g = bool_cases (leb n element_limit) (λ e. f (leb-true n element_limit e)) (λ e. g (leb-false n element_limit e))

-- ---- one extent more

module _ (n rest : ℕ) (ns : List ℕ) where
  pub count_none : n ≡ 0 → 1 ≡ capped (count (extents_of (n ∷ ns)))
  unfolding count extents_of capped
  count_none z = rw (eq-eqb n 0 z)

  count_more : (n ≡ 0 → ⊥) → count (extents_of (n ∷ ns)) ≡ n * count (extents_of ns)
  unfolding count extents_of
  count_more p = rw (ne_eqb n 0 p)

  pub count_within : (n ≡ 0 → ⊥) → rest ≡ capped (count (extents_of ns)) → n * rest ≤ element_limit → n * rest ≡ capped (count (extents_of (n ∷ ns)))
  count_within p e h =
      let more : 0 < n = pos_of_ne-zero p in
      by_limit (count (extents_of ns))
      (λ l. let z : rest ≡ count (extents_of ns) = e ∙ capped_within l in rw (count_more p, ← z) (sym (capped_within h)))
      (λ l. let z : rest ≡ 1048577 = e ∙ capped_over l in absurd (omega (arith, rw z at h)))

  pub count_over : (n ≡ 0 → ⊥) → rest ≡ capped (count (extents_of ns)) → element_limit < n * rest → 1048577 ≡ capped (count (extents_of (n ∷ ns)))
  count_over p e h =
      let more : 0 < n = pos_of_ne-zero p in
      by_limit (count (extents_of ns))
      (λ l. let z : rest ≡ count (extents_of ns) = e ∙ capped_within l in rw (count_more p, ← z) (sym (capped_over h)))
      (λ l. rw (count_more p) (sym (capped_over (omega (arith, mul-le-mul {m₁ = 1048577} more l)))))

-- ---- which counts a rule sees as they are

-- the limit itself
pub same_limit : (n : ℕ) → leb (capped n) element_limit ≡ leb n element_limit
same_limit n = by_limit n (λ l. rw (capped_within l)) (λ l. rw (capped_over l, lt-leb n element_limit l))

-- equality with a count within the limit
pub same_count : (n m : ℕ) → n ≤ element_limit → eqb (capped n) (capped m) ≡ eqb n m
same_count n m h =
    by_limit m
    (λ l. rw (capped_within h, capped_within l))
    (λ l. rw (capped_within h, capped_over l, ne_eqb n 1048577 (λ e. omega arith), ne_eqb n m (λ e. omega arith)))

-- no more than the extents of s give
smaller_count : (s : List ℕ) (f : ℕ → ℕ) → ((k : ℕ) → f k ≤ extent s k) → count (tab (length s) f) ≤ count s
unfolding count tab
smaller_count [] f h = omega arith
smaller_count (n ∷ ns) f h = mul-le-mul (h 0) (smaller_count ns (λ k. f (suc k)) (λ k. h (suc k)))

-- REDUCE gathers no more elements than its source has
pub gathered_few : (s flags : List ℕ) → Positive s → count s ≤ element_limit → count (gathered_extents s flags) ≤ element_limit
unfolding gathered_extents
gathered_few s flags p h =
    let less = smaller_count s (λ (k : ℕ). cond (flagged flags k) (extent s k) 1) each in
    omega arith
  where
    each : (k : ℕ) → cond (flagged flags k) (extent s k) 1 ≤ extent s k
    each k = cond_both (λ (n : ℕ). n ≤ extent s k) (flagged flags k) (extent s k) 1 (λ e. omega arith) (λ e. p k)

pub gathered_within : (s flags : List ℕ) → Positive s → count s ≤ element_limit
    → capped (count (gathered_extents s flags)) ≡ count (gathered_extents s flags)
gathered_within s flags p h = capped_within (gathered_few s flags p h)
