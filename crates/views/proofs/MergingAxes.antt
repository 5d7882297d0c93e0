-- A grid whose last two axes are taken as one walks over the same elements.
use Prim.Native.Nat.{ℕ, ◌+◌, ◌*◌, ◌-◌, ◌/◌, ◌%◌, ◌<◌}
use mathlib.Core.Path.{◌≡◌, refl, ap, ◌∙◌}
use mathlib.Core.Bool.{true}
use native.Mathlib.Omega.{arith}
use native.Mathlib.Nat.{mul-zero, mul-one, one-mul, zero-mul, zero-add, add-zero, add-mul, mul_assoc, mod-lt, mod-eq_of_lt}
use borrow.Author.Tests.{eqb-true}
use lib.Arith.{mod-mul, mul_pred}
use lib.Dec.{eqb}
use Rattle.laws.proofs.Booleans.{bool_cases, and_true, or_true}
use Rattle.plan.specs.declared.Row.{Row}
use Rattle.views.specs.declared.Stride.{Stride}
use Rattle.views.specs.declared.View.{View}
use Rattle.views.specs.Views.{step, span, cells_of, row_place, place, row_reach, reach}
use Rattle.views.specs.Strides.{up_by}
use Rattle.views.specs.Merging.{can_merge, merged_grid, merged_view}
use Rattle.views.specs.Walks.{Walks}
use Rattle.views.proofs.Steps.{first_lt, third_pos}
use Rattle.views.proofs.Axiswise.{div_twice, fourth_pos, row_lt, span_ends}

-- ---- a step along two axes

-- an axis of one coordinate, and one without strides, add nothing
step_one : (s : Stride) → step 1 s 0 ≡ 0
unfolding step
step_one s = simp zero-mul

step_none : (n c : ℕ) → step n (up_by 0) c ≡ 0
unfolding step
step_none n c = simp mul-zero

span_none : span 1 (up_by 0) ≡ 0
unfolding span
span_none = refl

module _ (m n a b : ℕ) (s t : Stride) (p : a < m) (q : b < n) where
  -- coordinates after the last
  after : m * n - 1 - (a * n + b) ≡ (m - 1 - a) * n + (n - 1 - b)
  after =
      let x : m ≡ a + (m - 1 - a) + 1 = omega arith in
      let e : m * n ≡ a * n + (m - 1 - a) * n + n = ap (λ (i : ℕ). i * n) x ∙ simp (add-mul, one-mul) in
      omega arith

  step_both : s.up ≡ n * t.up → s.down ≡ n * t.down → step (m * n) t (a * n + b) ≡ step m s a + step n t b
  unfolding step
  step_both u d = rw (after, u, d) (simp (add-mul, mul_assoc) (omega arith))

  step_first : n ≡ 1 → step (m * n) s (a * n + b) ≡ step m s a + step n t b
  step_first e =
      let z : b ≡ 0 = omega arith in
      rw (e, z) (simp (mul-one, add-zero, step_one))

  step_second : m ≡ 1 → step (m * n) t (a * n + b) ≡ step m s a + step n t b
  step_second e =
      let z : a ≡ 0 = omega arith in
      rw (e, z) (simp (one-mul, zero-mul, zero-add, step_one))

-- ---- the grid

module _ (g : Row) (v : View) (can : can_merge g v ≡ true) where
  merged_step : (a b : ℕ) → a < g.r2 → b < g.r3
      → step (g.r2 * g.r3) (merged_view g v).s3 (a * g.r3 + b) ≡ step g.r2 v.s2 a + step g.r3 v.s3 b
  merged_step a b p q =
      bool_cases (eqb g.r3 1)
      (λ one. rw one (step_first g.r2 g.r3 a b v.s2 v.s3 p q (eqb-true _ 1 one)))
      (λ more. rw more
      (or_true (eqb g.r2 1) _ (rw more at can)
      (λ one. step_second g.r2 g.r3 a b v.s2 v.s3 p q (eqb-true _ 1 one))
      (λ both.
      let each = and_true _ _ both in
      step_both g.r2 g.r3 a b v.s2 v.s3 p q (eqb-true _ _ each.0) (eqb-true _ _ each.1))))

  merged_place : (j : ℕ) → j < cells_of g → place (merged_grid g) (merged_view g v) j ≡ place g v j
  unfolding place row_place
  merged_place j h =
      let i = row_lt g j h in
      let p2 = third_pos g (j / g.r3) i in
      let p3 = fourth_pos g j h in
      rw (
        div_twice j g.r2 g.r3,
        mod-eq_of_lt (first_lt g (j / g.r3) i),
        step_none,
        mod-mul j p2 p3,
        merged_step (j / g.r3 % g.r2) (j % g.r3) (mod-lt _ p2) (mod-lt _ p3),
      )
      (omega arith)

  merged_span : 0 < g.r2 → 0 < g.r3 → span (g.r2 * g.r3) (merged_view g v).s3 ≡ span g.r2 v.s2 + span g.r3 v.s3
  merged_span p q =
      let last = merged_step (g.r2 - 1) (g.r3 - 1) (omega arith) (omega arith) in
      let first = simp (zero-mul, add-zero) at (merged_step 0 0 p q) in
      rw (span_ends (g.r2 * g.r3), span_ends g.r2, span_ends g.r3, mul_pred p q, last, first) (omega arith)

  merged_reach : 0 < g.r2 → 0 < g.r3 → reach (merged_grid g) (merged_view g v) ≡ reach g v
  unfolding reach row_reach
  merged_reach p q = rw (merged_span p q, span_none) (omega arith)

  pub merged_walks : {base n m : ℕ} {f : ℕ → ℕ} → 0 < n → Walks g v base n m f → Walks (merged_grid g) (merged_view g v) base n m f
  merged_walks p w =
      let h : 0 < cells_of g = rw w.cells p in
      record {
        cells = simp (one-mul, mul_assoc) (simp mul_assoc at w.cells);
        at = λ j q. merged_place j (rw w.cells q) ∙ w.at j q;
        inside = rw (merged_reach (third_pos g (0 / g.r3) (row_lt g 0 h)) (fourth_pos g 0 h)) w.inside;
      }
