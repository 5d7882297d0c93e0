-- What the axes of a row carry: a sum over the axes of a result is one over those of the source.
use Prim.Native.Nat.{ℕ, zero, suc, ◌+◌, ◌*◌, ◌<◌}
use mathlib.Core.Path.{◌≡◌, refl, ◌∙◌}
use mathlib.Core.Bool.{cond}
use mathlib.Core.List.{List, [], ◌∷◌, map}
use native.Mathlib.Omega.{arith}
use native.Mathlib.Nat.{not-suc-le-zero, le_of_suc-le-suc, mul-zero, zero-mul, add-zero, zero-add, suc-add}
use borrow.Author.Tests.{ne_eqb}
use lib.Dec.{eqb, eqb-suc-suc, eqb-zero-suc, eqb-suc-zero}
use lib.ListN.{get_or}
use Rattle.laws.specs.Lists.{occurrences, position}
use Rattle.laws.specs.Numbering.{ravel}
use Rattle.laws.proofs.Booleans.{bool_cases}
use Rattle.plan.specs.declared.Row.{Row}
use Rattle.plan.specs.Words.{list_of}
use Rattle.views.specs.Strides.{strides_of, axes_in_front}
use Rattle.views.proofs.Fronts.{ravel_add}
use Rattle.views.proofs.Axiswise.{by_strides}

-- ---- what the places of m in a row carry

unfoldable pub weight : ℕ → List ℕ → (ℕ → ℕ) → ℕ
weight m [] c = 0
weight m (a ∷ row) c = cond (eqb m a) (c 0) 0 + weight m row (λ (k : ℕ). c (suc k))

weight_zero : (m : ℕ) (row : List ℕ) (c : ℕ → ℕ) → occurrences m row ≡ 0 → weight m row c ≡ 0
unfolding weight occurrences
weight_zero m [] c h = refl
weight_zero m (a ∷ row) c h =
    bool_cases (eqb m a)
    (λ q. absurd (omega (arith, rw q at h)))
    (λ q. rw (q, weight_zero m row (λ k. c (suc k)) (omega (arith, rw q at h))))

-- where it has one place, what that one carries
pub weight_once : (m : ℕ) (row : List ℕ) (c : ℕ → ℕ) → occurrences m row ≡ 1 → weight m row c ≡ c (position m row)
unfolding weight occurrences position
weight_once m [] c h = absurd (omega arith)
weight_once m (a ∷ row) c h =
    bool_cases (eqb m a)
    (λ q. rw (q, weight_zero m row (λ k. c (suc k)) (omega (arith, rw q at h))) (add-zero (c 0)))
    (λ q. rw (q, weight_once m row (λ k. c (suc k)) (omega (arith, rw q at h))) (zero-add _))

weight_none : (row : List ℕ) (c : ℕ → ℕ) → weight 0 (map suc row) c ≡ 0
unfolding weight
weight_none [] c = refl
weight_none (a ∷ row) c = rw (eqb-zero-suc, weight_none row (λ k. c (suc k)))

weight_suc : (m : ℕ) (row : List ℕ) (c : ℕ → ℕ) → weight (suc m) (map suc row) c ≡ weight m row c
unfolding weight
weight_suc m [] c = refl
weight_suc m (a ∷ row) c = rw (eqb-suc-suc, weight_suc m row (λ k. c (suc k)))

-- axes in front that stay
pub weight_front : (d : ℕ) (row : List ℕ) (c : ℕ → ℕ) (m : ℕ) → m < d → weight m (axes_in_front d row) c ≡ c m
unfolding weight axes_in_front
weight_front zero row c m h = absurd (not-suc-le-zero h)
weight_front (suc d) row c zero h = rw (weight_none (axes_in_front d row) (λ k. c (suc k))) (add-zero (c 0))
weight_front (suc d) row c (suc m) h =
    rw (eqb-suc-zero, weight_suc m (axes_in_front d row) (λ k. c (suc k)), weight_front d row (λ k. c (suc k)) m (le_of_suc-le-suc h)) (zero-add _)

-- one axis fewer in front
weight_step : (m d : ℕ) (row : List ℕ) (c : ℕ → ℕ) → weight (suc m) (axes_in_front (suc d) row) c ≡ weight m (axes_in_front d row) (λ (k : ℕ). c (suc k))
unfolding weight axes_in_front
weight_step m d row c = rw (eqb-suc-zero, weight_suc m (axes_in_front d row) (λ k. c (suc k))) (zero-add _)

pub weight_rest : (d : ℕ) (row : List ℕ) (c : ℕ → ℕ) (m : ℕ) → weight (d + m) (axes_in_front d row) c ≡ weight m row (λ (k : ℕ). c (d + k))
unfolding axes_in_front
weight_rest zero row c m = simp zero-add
weight_rest (suc d) row c m =
    simp suc-add (weight_step (d + m) d row c ∙ weight_rest d row (λ k. c (suc k)) m)

-- ---- the sum

module _ (S : Row) where
  one_axis : (a x : ℕ) → ravel (list_of S) (λ (m : ℕ). cond (eqb m a) x 0) ≡ x * get_or (list_of (strides_of S)) a 0
  one_axis zero x = rw by_strides (simp (zero-mul, add-zero))
  one_axis (suc zero) x = rw by_strides (simp (zero-mul, add-zero, zero-add))
  one_axis (suc (suc zero)) x = rw by_strides (simp (zero-mul, add-zero, zero-add))
  one_axis (suc (suc (suc zero))) x = rw by_strides (simp (zero-mul, zero-add))
  one_axis (suc (suc (suc (suc a)))) x =
      let b : ℕ = suc (suc (suc (suc a))) in
      rw (by_strides, ne_eqb 0 b (λ e. omega arith), ne_eqb 1 b (λ e. omega arith), ne_eqb 2 b (λ e. omega arith), ne_eqb 3 b (λ e. omega arith))
      (simp (zero-mul, mul-zero))

  weigh : (a : ℕ) (row : List ℕ) (c : ℕ → ℕ)
      → ravel (list_of S) (λ (m : ℕ). weight m (a ∷ row) c) ≡ c 0 * get_or (list_of (strides_of S)) a 0 + ravel (list_of S) (λ (m : ℕ). weight m row (λ (k : ℕ). c (suc k)))
  unfolding weight
  weigh a row c =
      ravel_add (list_of S) (λ (m : ℕ). cond (eqb m a) (c 0) 0) (λ (m : ℕ). weight m row (λ (k : ℕ). c (suc k))) ∙ rw (one_axis a (c 0))

  weigh_none : (c : ℕ → ℕ) → ravel (list_of S) (λ (m : ℕ). weight m [] c) ≡ 0
  unfolding weight
  weigh_none c = rw by_strides (simp zero-mul)

  pub weigh_four : (A : Row) (c : ℕ → ℕ) → ravel (list_of S) (λ (m : ℕ). weight m (list_of A) c)
      ≡ c 0 * get_or (list_of (strides_of S)) A.r0 0 + (c 1 * get_or (list_of (strides_of S)) A.r1 0
      + (c 2 * get_or (list_of (strides_of S)) A.r2 0 + c 3 * get_or (list_of (strides_of S)) A.r3 0))
  weigh_four A c =
      omega (
        arith,
        weigh A.r0 (A.r1 ∷ A.r2 ∷ A.r3 ∷ []) c,
        weigh A.r1 (A.r2 ∷ A.r3 ∷ []) (λ (k : ℕ). c (suc k)),
        weigh A.r2 (A.r3 ∷ []) (λ (k : ℕ). c (suc (suc k))),
        weigh A.r3 [] (λ (k : ℕ). c (suc (suc (suc k)))),
        weigh_none (λ (k : ℕ). c (suc (suc (suc (suc k))))),
      )
