-- Views axis by axis: a place, and the reach, as coordinates of the source.
use Prim.Native.Nat.{ℕ, ◌+◌, ◌*◌, ◌-◌, ◌/◌, ◌%◌, ◌<◌}
use mathlib.Core.Path.{◌≡◌, sym}
use native.Mathlib.Omega.{arith}
use native.Mathlib.Nat.{mul-one, mul_comm, mul-add, add-mul, add-zero, zero-add, zero-mul, sub-zero, sub_self, div-one, mod-lt, div-lt_iff_lt-mul, mul-pos, div-div-eq-div-mul}
use lib.Arith.{digits_div, digits_mod, mod-mul}
use Rattle.laws.specs.Numbering.{count, ravel, coord}
use Rattle.laws.proofs.Numbering.{factor_pos}
use Rattle.plan.specs.declared.Row.{Row}
use Rattle.plan.specs.Words.{list_of}
use Rattle.shapes.specs.Rules.{extent}
use Rattle.shapes.proofs.Extents.{Positive}
use Rattle.views.specs.declared.Stride.{Stride}
use Rattle.views.specs.declared.View.{View}
use Rattle.views.specs.Views.{step, span, rows_of, cells_of, row_place, place, row_reach, reach}
use Rattle.views.specs.Strides.{strides_of}
use Rattle.views.proofs.Steps.{third_pos, second_pos, first_lt, second_lt, third_lt}

-- ---- the coordinates of element j of a grid

-- the two digits of what is left
left_div : (n : ℕ) {m c : ℕ} → 0 < m → 0 < c → n % (m * c) / c ≡ n / c % m
left_div n {m} {c} p q = rw (mod-mul n p q) (digits_div (n / c % m) (mod-lt n q))

left_mod : (n : ℕ) {m c : ℕ} → 0 < m → 0 < c → n % (m * c) % c ≡ n % c
left_mod n {m} {c} p q = rw (mod-mul n p q) (digits_mod (n / c % m) (mod-lt n q))

pub div_twice : (n a b : ℕ) → n / (a * b) ≡ n / b / a
div_twice n a b = rw (mul_comm a b) (sym (div-div-eq-div-mul n b a))

module _ (g : Row) (j : ℕ) (h : j < cells_of g) where
  pub fourth_pos : 0 < g.r3
  fourth_pos = factor_pos (rows_of g) g.r3 j h

  pub row_lt : j / g.r3 < rows_of g
  row_lt = (div-lt_iff_lt-mul fourth_pos).1 h

  plane_pos : 0 < g.r2 * g.r3
  plane_pos = mul-pos (third_pos g (j / g.r3) row_lt) fourth_pos

  pub coord_0 : coord (list_of g) j 0 ≡ j / g.r3 / g.r2 / g.r1
  unfolding coord count
  coord_0 = rw (mul-one, div_twice j g.r1 (g.r2 * g.r3), div_twice j g.r2 g.r3)

  pub coord_1 : coord (list_of g) j 1 ≡ j / g.r3 / g.r2 % g.r1
  unfolding coord count
  coord_1 = rw (mul-one, left_div j (second_pos g (j / g.r3) row_lt) plane_pos, div_twice j g.r2 g.r3)

  pub coord_2 : coord (list_of g) j 2 ≡ j / g.r3 % g.r2
  unfolding coord count
  coord_2 =
      rw (mul-one, left_mod j (second_pos g (j / g.r3) row_lt) plane_pos) (left_div j (third_pos g (j / g.r3) row_lt) fourth_pos)

  pub coord_3 : coord (list_of g) j 3 ≡ j % g.r3
  unfolding coord count
  coord_3 =
      rw (mul-one, div-one, left_mod j (second_pos g (j / g.r3) row_lt) plane_pos) (left_mod j (third_pos g (j / g.r3) row_lt) fourth_pos)

-- ---- strides

-- the span is the steps of the last coordinate and of the first
pub span_ends : (n : ℕ) (s : Stride) → span n s ≡ step n s (n - 1) + step n s 0
unfolding span step
span_ends n s = simp (mul-add, sub_self, zero-mul, add-zero, zero-add, sub-zero)

-- coordinates times the source's strides
pub by_strides : (s : Row) (x : ℕ → ℕ) → ravel (list_of s) x
    ≡ x 0 * (strides_of s).r0 + (x 1 * (strides_of s).r1 + (x 2 * (strides_of s).r2 + x 3 * (strides_of s).r3))
unfolding ravel count
by_strides s x = simp (mul-one, add-zero)

-- along an axis of extent n, coordinate c adds as much as coordinate f c of the source, of stride t
abbrev pub Along : ℕ → Stride → ℕ → (ℕ → ℕ) → Type 0
Along n s t f = (c : ℕ) → c < n → step n s c ≡ f c * t

span_along : (n : ℕ) (s : Stride) (t : ℕ) (f : ℕ → ℕ) → 0 < n → Along n s t f → span n s ≡ (f (n - 1) + f 0) * t
span_along n s t f p a = rw (span_ends n s, a (n - 1) (omega arith), a 0 p, add-mul)

module _ (r s : Row) (v : View) (f : ℕ → ℕ → ℕ)
    (a0 : Along r.r0 v.s0 (strides_of s).r0 (f 0)) (a1 : Along r.r1 v.s1 (strides_of s).r1 (f 1))
    (a2 : Along r.r2 v.s2 (strides_of s).r2 (f 2)) (a3 : Along r.r3 v.s3 (strides_of s).r3 (f 3)) where
  pub axiswise : (j : ℕ) → j < cells_of r → place r v j ≡ v.base + ravel (list_of s) (λ (k : ℕ). f k (coord (list_of r) j k))
  unfolding place row_place
  axiswise j h =
      let i = row_lt r j h in
      rw (
        by_strides s (λ (k : ℕ). f k (coord (list_of r) j k)),
        coord_0 r j h,
        coord_1 r j h,
        coord_2 r j h,
        coord_3 r j h,
        a0 _ (first_lt r (j / r.r3) i),
        a1 _ (second_lt r (j / r.r3) i),
        a2 _ (third_lt r (j / r.r3) i),
        a3 _ (mod-lt j (fourth_pos r j h)),
      )
      (omega arith)

  pub axis_reach : Positive (list_of r) → reach r v ≡ v.base + ravel (list_of s) (λ (k : ℕ). f k (extent (list_of r) k - 1) + f k 0)
  unfolding reach row_reach
  axis_reach p =
      rw (
        by_strides s (λ (k : ℕ). f k (extent (list_of r) k - 1) + f k 0),
        span_along _ _ _ (f 0) (p 0) a0,
        span_along _ _ _ (f 1) (p 1) a1,
        span_along _ _ _ (f 2) (p 2) a2,
        span_along _ _ _ (f 3) (p 3) a3,
      )
      (omega arith)
