-- PAD: the cells of the source within the result.
use Prim.Native.Nat.{ℕ, zero, suc, ◌+◌, ◌*◌, ◌-◌, ◌/◌, ◌%◌, ◌≤◌, ◌<◌, suc-le-suc}
use mathlib.Core.Path.{◌≡◌, refl, ap, ◌∙◌}
use mathlib.Core.Bool.{Bool, true, false, ◌&&◌, cond}
use mathlib.Core.Option.{none, some}
use mathlib.Core.List.{List}
use native.Mathlib.Omega.{arith}
use native.Mathlib.Nat.{zero-lt-suc, zero-add, suc-add, mul-one, mul_assoc}
use borrow.Author.Tests.{leb-true, ltb-true}
use lib.Arith.{digits_lt}
use lib.Dec.{leb, ltb}
use lib.ListN.{length, take}
use Rattle.laws.specs.Lists.{all_below}
use Rattle.laws.specs.Numbering.{count, ravel, coord}
use Rattle.laws.proofs.Booleans.{and_true, all_below_same}
use Rattle.plan.specs.declared.Row.{Row}
use Rattle.plan.specs.Words.{list_of, element}
use Rattle.shapes.specs.Rules.{extent, word_of, same_rank}
use Rattle.shapes.specs.Sources.{in_source, pad_source}
use Rattle.views.specs.Views.{cells_of}
use Rattle.views.specs.Walks.{InFront, in_band, row_inside, row_start, band_place, from}
use Rattle.views.proofs.Fronts.{grid_rank, grid_cells, extent_front, extent_rest, ravel_grid, grid_zero, grid_same, same_rank_lem, words_front, words_rest}
use Rattle.views.proofs.Axiswise.{coord_0, coord_1, coord_2, coord_3, by_strides}

-- ---- tests of all axes, those in front passing

all_rest : (d n : ℕ) (p : ℕ → Bool) → ((k : ℕ) → k < d → p k ≡ true) → all_below (d + n) p ≡ all_below n (λ (k : ℕ). p (d + k))
unfolding all_below
all_rest zero n p h = rw zero-add (all_below_same n p (λ k. p (0 + k)) (λ k q. rw zero-add))
all_rest (suc d) n p h =
    rw (suc-add, h 0 (zero-lt-suc d))
    (all_rest d n (λ k. p (suc k)) (λ k l. h (suc k) (suc-le-suc l)) ∙ all_below_same n _ _ (λ k q. rw suc-add))

all_four : (p : ℕ → Bool) → ((p 0 && (p 1 && p 2)) && p 3) ≡ all_below 4 p
unfolding all_below
all_four p = go (p 0) (p 1) (p 2) (p 3)
  where
    go : (a b c d : Bool) → ((a && (b && c)) && d) ≡ (a && (b && (c && (d && true))))
    go true true true true = refl
    go true true true false = refl
    go true true false d = refl
    go true false c d = refl
    go false b c d = refl

-- ---- the place of an element

from_cond : (base e : ℕ) (b : Bool) → cond b (some (base + e)) none ≡ from base (cond b (some (element e)) none)
from_cond base e true = refl
from_cond base e false = refl

module _ (s r : List ℕ) (S R O row : Row) (base : ℕ) (under : InFront 1 s S) (over : InFront 1 r R) (offsets : InFront 0 (take (length s) (list_of row)) O)
    (rule : same_rank s r (λ (k : ℕ). leb (word_of (list_of row) k + extent s k) (extent r k)) ≡ true) (e : ℕ) (h : e < count r) where
  ranks : length s ≡ length r
  ranks = same_rank_lem s r _ rule

  -- along axis k the element is one of the source's
  abbrev there : ℕ → Bool
  there k = in_band (word_of (list_of O) k) (extent (list_of S) k) (coord (list_of R) e k)

  all_there : all_below 4 there ≡ in_source s r (list_of row) e
  unfolding in_source
  all_there =
      let ranked = grid_rank s S under in
      let four : 4 ≡ 4 - length s + length s = omega arith in
      ap (λ (n : ℕ). all_below n there) four
      ∙ all_rest (4 - length s) (length s) there
      (λ k q. rw (words_front (length s) row O ranked offsets k q, extent_front s S under k q, grid_zero r R over e h k (rw ranks at q)))
      ∙ all_below_same (length s) _ _
      (λ k q. rw (words_rest (length s) row O ranked offsets k q, extent_rest s S under k, ranks, grid_same r R over e h k))

  pad_at : ravel (list_of S) (λ (k : ℕ). coord (list_of R) e k - word_of (list_of O) k) ≡ ravel s (λ (k : ℕ). coord r e k - word_of (list_of row) k)
  pad_at =
      let ranked = grid_rank s S under in
      ravel_grid s S under _ _
      (λ k q. rw (words_front (length s) row O ranked offsets k q, grid_zero r R over e h k (rw ranks at q)))
      (λ k q. rw (words_rest (length s) row O ranked offsets k q, ranks, grid_same r R over e h k))

  cell : e < cells_of R
  cell = rw (grid_cells r R over) h

  tests : (row_inside R O S (e / R.r3) && in_band O.r3 S.r3 (e % R.r3)) ≡ in_source s r (list_of row) e
  unfolding row_inside
  tests = rw (← coord_0 R e cell, ← coord_1 R e cell, ← coord_2 R e cell, ← coord_3 R e cell) (all_four there ∙ all_there)

  start : row_start R O S base (e / R.r3) + (e % R.r3 - O.r3) ≡ base + ravel s (λ (k : ℕ). coord r e k - word_of (list_of row) k)
  unfolding row_start
  start =
      rw (← pad_at, by_strides S (λ (k : ℕ). coord (list_of R) e k - word_of (list_of O) k), coord_0 R e cell, coord_1 R e cell, coord_2 R e cell, coord_3 R e cell, mul-one)
      (omega arith)

  pub pad_places : band_place R O S base e ≡ from base (pad_source s r (list_of row) e)
  unfolding band_place pad_source
  pad_places = rw (tests, start) (from_cond base (ravel s (λ (k : ℕ). coord r e k - word_of (list_of row) k)) (in_source s r (list_of row) e))

-- ---- the row of an element

pub band_in : (o n c : ℕ) → in_band o n c ≡ true → (o ≤ c) × (c - o < n)
band_in o n c b =
    let both = and_true (leb o c) (ltb c (o + n)) b in
    let low = leb-true o c both.0 in
    (low, omega (arith, low, ltb-true c (o + n) both.1))

-- a row that has cells of the source: its coordinates from the offsets on, and where those cells lie
module _ (R O S : Row) (i : ℕ) (b : row_inside R O S i ≡ true) where
  pub first_in : (O.r0 ≤ i / R.r2 / R.r1) × (i / R.r2 / R.r1 - O.r0 < S.r0)
  unfolding row_inside
  first_in = band_in O.r0 S.r0 (i / R.r2 / R.r1) (and_true (in_band O.r0 S.r0 (i / R.r2 / R.r1)) _ b).0

  others_in : (in_band O.r1 S.r1 (i / R.r2 % R.r1) ≡ true) × (in_band O.r2 S.r2 (i % R.r2) ≡ true)
  unfolding row_inside
  others_in =
      and_true (in_band O.r1 S.r1 (i / R.r2 % R.r1)) (in_band O.r2 S.r2 (i % R.r2))
      (and_true (in_band O.r0 S.r0 (i / R.r2 / R.r1)) _ b).1

  pub second_in : (O.r1 ≤ i / R.r2 % R.r1) × (i / R.r2 % R.r1 - O.r1 < S.r1)
  second_in = band_in O.r1 S.r1 (i / R.r2 % R.r1) others_in.0

  pub third_in : (O.r2 ≤ i % R.r2) × (i % R.r2 - O.r2 < S.r2)
  third_in = band_in O.r2 S.r2 (i % R.r2) others_in.1

  pub row_in_source : (base : ℕ) → 0 < S.r3 → row_start R O S base i + S.r3 ≤ base + cells_of S
  unfolding row_start
  row_in_source base p =
      let inner : S.r3 - 1 < S.r3 = omega arith in
      rw (mul_assoc (S.r0 * S.r1) S.r2 S.r3, mul_assoc S.r0 S.r1 (S.r2 * S.r3))
      (omega (arith, digits_lt first_in.1 (digits_lt second_in.1 (digits_lt third_in.1 inner))))
