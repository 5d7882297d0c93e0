-- How far the steps of a view reach.
use Prim.Native.Nat.{ℕ, suc, ◌+◌, ◌*◌, ◌-◌, ◌/◌, ◌%◌, ◌^◌, ◌≤◌, ◌<◌}
use mathlib.Core.Path.{◌≡◌, refl, ap, ◌∙◌}
use mathlib.Core.List.{List, [], ◌∷◌}
use lib.Dec.{eqb}
use lib.ListN.{length, get_or, take}
use native.Mathlib.Omega.{arith}
use native.Mathlib.Nat.{mul_comm, mul_assoc, mul-add, mul-le-mul_right, le-mul_of_pos_right, mod-lt, div-lt_iff_lt-mul}
use Rattle.laws.proofs.Booleans.{cond_both}
use Rattle.laws.proofs.Numbering.{factor_pos}
use Rattle.plan.specs.declared.Row.{Row}
use Rattle.plan.specs.Words.{list_of}
use Rattle.shapes.specs.Rows.{extents_of}
use Rattle.views.specs.declared.Stride.{Stride}
use Rattle.views.specs.declared.View.{View}
use Rattle.views.specs.Views.{stride_of, step, span, rows_of, row_place, row_reach, place, reach}
use Rattle.views.specs.Strides.{strides_of, up_by, axis_stride}

pub step_le : (n : ℕ) (s : Stride) (c : ℕ) → c < n → step n s c ≤ span n s
unfolding step span
step_le n s c h =
    let p : c * s.up ≤ (n - 1) * s.up = mul-le-mul_right s.up (omega arith) in
    let q : (n - 1 - c) * s.down ≤ (n - 1) * s.down = mul-le-mul_right s.down (omega arith) in
    rw mul-add (omega arith)

-- the coordinates of row i along the first three axes
module _ (g : Row) (i : ℕ) (h : i < rows_of g) where
  pub third_pos : 0 < g.r2
  third_pos = factor_pos (g.r0 * g.r1) g.r2 i h

  outer_lt : i / g.r2 < g.r0 * g.r1
  outer_lt = (div-lt_iff_lt-mul third_pos).1 h

  pub second_pos : 0 < g.r1
  second_pos = factor_pos g.r0 g.r1 (i / g.r2) outer_lt

  pub first_lt : i / g.r2 / g.r1 < g.r0
  first_lt = (div-lt_iff_lt-mul second_pos).1 outer_lt

  pub second_lt : i / g.r2 % g.r1 < g.r1
  second_lt = mod-lt (i / g.r2) second_pos

  pub third_lt : i % g.r2 < g.r2
  third_lt = mod-lt i third_pos

  pub row_le : (v : View) → row_place g v i ≤ row_reach g v
  unfolding row_place row_reach
  row_le v = omega (arith, step_le g.r0 v.s0 _ first_lt, step_le g.r1 v.s1 _ second_lt, step_le g.r2 v.s2 _ third_lt)

-- the spans are no longer than the reach
module _ (g : Row) (v : View) {n : ℕ} (h : row_reach g v < n) where
  pub span0_lt : span g.r0 v.s0 < n
  unfolding row_reach
  span0_lt = omega arith

  pub span1_lt : span g.r1 v.s1 < n
  unfolding row_reach
  span1_lt = omega arith

  pub span2_lt : span g.r2 v.s2 < n
  unfolding row_reach
  span2_lt = omega arith

-- element j lies no further than the reach
pub place_le : (g : Row) (v : View) (j : ℕ) → j < rows_of g * g.r3 → place g v j ≤ reach g v
unfolding place reach
place_le g v j h =
    let p : 0 < g.r3 = factor_pos (rows_of g) g.r3 j h in
    omega (arith, row_le g (j / g.r3) ((div-lt_iff_lt-mul p).1 h) v, step_le g.r3 v.s3 (j % g.r3) (mod-lt j p))

-- a factor is no larger than the product
pub cut : (a b : ℕ) {n : ℕ} → 0 < a → a * b ≤ n → b ≤ n
cut a b p h = omega (arith, rw (mul_comm b a) at (le-mul_of_pos_right b p))

-- n steps are less than twice the span of n coordinates, where n is not 1
twice : (n s : ℕ) → (n ≡ 1 → ⊥) → n * s ≤ 2 * ((n - 1) * s)
twice n s h = let p : n * s ≤ 2 * (n - 1) * s = mul-le-mul_right s (omega arith) in rw mul_assoc at p

module _ (g : Row) (v : View) (h : reach g v < 2 ^ 63) (other : g.r3 ≡ 1 → ⊥) where
  pub up_fits : g.r3 * v.s3.up < 2 ^ 64
  unfolding reach span
  up_fits = omega (arith, twice g.r3 v.s3.up other, mul-add (g.r3 - 1) v.s3.up v.s3.down)

  pub down_fits : g.r3 * v.s3.down < 2 ^ 64
  unfolding reach span
  down_fits = omega (arith, twice g.r3 v.s3.down other, mul-add (g.r3 - 1) v.s3.up v.s3.down)

-- steps of two and three
pub two : (n : ℕ) → n + 2 ≡ suc (suc n)
two n = omega arith

pub three : (n : ℕ) → n + 3 ≡ suc (suc (suc n))
three n = omega arith

-- the stride of an axis, as the code finds it
pub picked : {t : Row} (s : Row) (k : ℕ) {w : ℕ} {x : Stride} → t ≡ strides_of s → w ≡ get_or (list_of t) k 0 → x ≡ up_by w → x ≡ axis_stride s k
picked s k e f g = g ∙ ap up_by (f ∙ ap (λ (t : Row). get_or (list_of t) k 0) e)

-- extents are the first words of their row
pub extents_first : (ns : List ℕ) → take (length (extents_of ns)) ns ≡ extents_of ns
unfolding extents_of
extents_first [] = refl
extents_first (n ∷ ns) =
    cond_both (λ (l : List ℕ). take (length l) (n ∷ ns) ≡ l) (eqb n 0) [] (n ∷ extents_of ns) (λ _. refl) (λ _. ap (λ (l : List ℕ). n ∷ l) (extents_first ns))

-- a stride by its two numbers
pub stride_both : {s : Stride} {up down : ℕ} → s.up ≡ up → s.down ≡ down → s ≡ stride_of up down
stride_both p q = rw (← p, ← q) refl
