-- Rows of a view, one after another.
use Prim.Native.Nat.{ℕ, ◌+◌, ◌*◌, ◌/◌, ◌≤◌, ◌<◌}
use mathlib.Core.Path.{◌≡◌}
use native.Mathlib.Omega.{arith}
use native.Mathlib.Nat.{add-mul, one-mul, mul-le-mul_right}
use lib.Arith.{digits_div, digits_mod}
use Rattle.plan.specs.declared.Row.{Row}
use Rattle.views.specs.declared.View.{View}
use Rattle.views.specs.Views.{step, span, rows_of, row_place, row_reach, place, reach}
use Rattle.views.proofs.Steps.{step_le, row_le}

-- cell c of row i
pub place_row : (g : Row) (v : View) (i c : ℕ) → c < g.r3 → place g v (i * g.r3 + c) ≡ row_place g v i + step g.r3 v.s3 c
unfolding place
place_row g v i c h = rw (digits_div i h, digits_mod i h)

-- no row and no cell lies before the view
pub base_row : (g : Row) (v : View) (i : ℕ) → v.base ≤ row_place g v i
unfolding row_place
base_row g v i = omega arith

pub base_place : (g : Row) (v : View) (j : ℕ) → v.base ≤ place g v j
unfolding place
base_place g v j = omega (arith, base_row g v (j / g.r3))

module _ (g : Row) (v : View) {n : ℕ} (h : reach g v < n) where
  pub rows_below : row_reach g v < n
  unfolding reach
  rows_below = omega arith

  -- a row that begins at p
  pub row_below : {p : ℕ} → p ≤ row_reach g v → p + span g.r3 v.s3 < n
  unfolding reach
  row_below q = omega arith

  pub cell_below : (i c : ℕ) → i < rows_of g → c < g.r3 → row_place g v i + step g.r3 v.s3 c < n
  unfolding reach
  cell_below i c q w = omega (arith, row_le g i q v, step_le g.r3 v.s3 c w)

-- block i of k blocks of n, and the one after it
pub next_block : (i n : ℕ) → (i + 1) * n ≡ i * n + n
next_block i n = rw (add-mul, one-mul)

pub block_fits : (i k n : ℕ) → i < k → i * n + n ≤ k * n
block_fits i k n h = let p : (i + 1) * n ≤ k * n = mul-le-mul_right n (omega arith) in omega (arith, next_block i n)
