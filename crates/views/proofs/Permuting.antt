-- PERMUTE: what its view walks over.
use Prim.Native.Nat.{ℕ, ◌+◌, ◌*◌, ◌-◌, ◌<◌}
use mathlib.Core.Path.{◌≡◌, ap, ◌∙◌}
use mathlib.Core.Bool.{true}
use mathlib.Core.List.{List}
use native.Mathlib.Omega.{arith}
use native.Mathlib.Nat.{mul-zero, add-zero}
use borrow.Author.Tests.{eqb-true}
use lib.Dec.{eqb, ltb}
use lib.ListN.{length, get_or, take}
use Rattle.laws.specs.Lists.{occurrences, position}
use Rattle.laws.specs.Numbering.{count, ravel, coord}
use Rattle.laws.proofs.Booleans.{and_true, all_below_lem}
use Rattle.laws.proofs.Lists.{get_or_map, position_lt, position_at}
use Rattle.laws.proofs.Numbering.{ravel_lt, ravel_same}
use Rattle.plan.specs.declared.Row.{Row}
use Rattle.plan.specs.Words.{list_of}
use Rattle.shapes.specs.Rows.{row_of, is_permutation}
use Rattle.shapes.specs.Rules.{extent, permuted}
use Rattle.shapes.specs.Sources.{permute_source}
use Rattle.shapes.proofs.Extents.{Positive, permuted_length}
use Rattle.views.specs.Views.{step, span, cells_of, row_place, place, row_reach, reach}
use Rattle.views.specs.Strides.{strides_of, axis_stride, permute_view, axes_in_front}
use Rattle.views.specs.Walks.{InFront, Walks}
use Rattle.views.proofs.Fronts.{grid_rank, grid_cells, extent_front, extent_rest, ravel_grid, grid_zero, grid_same}
use Rattle.views.proofs.Axiswise.{coord_0, coord_1, coord_2, coord_3}
use Rattle.views.proofs.Weights.{weight, weight_once, weight_front, weight_rest, weigh_four}

-- ---- the view

step_axis : (n : ℕ) (S : Row) (a c : ℕ) → step n (axis_stride S a) c ≡ c * get_or (list_of (strides_of S)) a 0
unfolding step
step_axis n S a c = rw (mul-zero, add-zero)

span_axis : (n : ℕ) (S : Row) (a : ℕ) → span n (axis_stride S a) ≡ (n - 1) * get_or (list_of (strides_of S)) a 0
unfolding span
span_axis n S a = rw add-zero

module _ (R S A : Row) (base : ℕ) where
  permuted_place : (j : ℕ) → j < cells_of R → place R (permute_view base S A) j ≡ base + ravel (list_of S) (λ (m : ℕ). weight m (list_of A) (coord (list_of R) j))
  unfolding place row_place
  permuted_place j h =
      rw (weigh_four S A (coord (list_of R) j), coord_0 R j h, coord_1 R j h, coord_2 R j h, coord_3 R j h)
      (simp step_axis (omega arith))

  permuted_reach : reach R (permute_view base S A) ≡ base + ravel (list_of S) (λ (m : ℕ). weight m (list_of A) (λ (k : ℕ). extent (list_of R) k - 1))
  unfolding reach row_reach
  permuted_reach = rw (weigh_four S A (λ (k : ℕ). extent (list_of R) k - 1)) (simp span_axis (omega arith))

module _ (s : List ℕ) (S R A row : Row) (base : ℕ) (p : is_permutation (length s) (list_of row) ≡ true) (under : InFront 1 s S)
    (over : InFront 1 (permuted s (list_of row)) R) (axes : list_of A ≡ axes_in_front (4 - length s) (take (length s) (list_of row))) where
  once : (m : ℕ) → m < length s → occurrences m (take (length s) (list_of row)) ≡ 1
  unfolding is_permutation
  once m h =
      eqb-true _ 1
      (all_below_lem (length s) (λ (k : ℕ). eqb (occurrences k (take (length s) (list_of row))) 1) (and_true (row_of (λ (n : ℕ). ltb n (length s)) (length s) (list_of row)) _ p).1 m h)

  rank : length (permuted s (list_of row)) ≡ length s
  rank = omega (arith, permuted_length s (list_of row), grid_rank s S under)

  -- coordinates of the result, 0 in front, as the source's
  carried : (c : ℕ → ℕ) → ((k : ℕ) → k < 4 - length s → c k ≡ 0)
      → ravel (list_of S) (λ (m : ℕ). weight m (list_of A) c) ≡ ravel s (λ (m : ℕ). c (4 - length s + position m (take (length s) (list_of row))))
  carried c z =
      ravel_grid s S under _ _
      (λ m h. ap (λ (l : List ℕ). weight m l c) axes ∙ weight_front (4 - length s) _ c m h ∙ z m h)
      (λ m h. ap (λ (l : List ℕ). weight (4 - length s + m) l c) axes ∙ weight_rest (4 - length s) _ c m ∙ weight_once m _ (λ (k : ℕ). c (4 - length s + k)) (once m h))

  permute_at : (e : ℕ) → e < count (permuted s (list_of row))
      → ravel (list_of S) (λ (m : ℕ). weight m (list_of A) (coord (list_of R) e)) ≡ permute_source s (permuted s (list_of row)) (list_of row) e
  unfolding permute_source
  permute_at e h =
      carried (coord (list_of R) e) (λ k q. grid_zero (permuted s (list_of row)) R over e h k (rw rank q))
      ∙ ravel_same s _ _ (λ m. rw rank at (grid_same (permuted s (list_of row)) R over e h (position m (take (length s) (list_of row)))))

  -- the extent along the axis that is source axis m
  extent_at : (m : ℕ) → m < length s → extent (list_of R) (4 - length s + position m (take (length s) (list_of row))) ≡ extent s m
  unfolding permuted
  extent_at m h =
      let axis = take (length s) (list_of row) in
      let there : 0 < occurrences m axis = omega (arith, once m h) in
      rw rank at (extent_rest (permuted s (list_of row)) R over (position m axis))
      ∙ get_or_map (λ (a : ℕ). extent s a) axis (position m axis) 1 0 (position_lt m axis there)
      ∙ ap (λ (a : ℕ). extent s a) (position_at m axis 0 there)

  pub permute_walks : Positive s
      → Walks R (permute_view base S A) base (count (permuted s (list_of row))) (count s) (λ (e : ℕ). permute_source s (permuted s (list_of row)) (list_of row) e)
  permute_walks positive =
      record {
        cells = grid_cells (permuted s (list_of row)) R over;
        at = λ j h. permuted_place R S A base j (rw (grid_cells (permuted s (list_of row)) R over) h) ∙ ap (λ (i : ℕ). base + i) (permute_at j h);
        inside =
            rw (permuted_reach R S A base, carried (λ (k : ℕ). extent (list_of R) k - 1) front)
            (omega (arith, ravel_lt s (λ (m : ℕ). extent (list_of R) (4 - length s + position m (take (length s) (list_of row))) - 1) below));
      }
    where
      front : (k : ℕ) → k < 4 - length s → extent (list_of R) k - 1 ≡ 0
      front k q = omega (arith, extent_front (permuted s (list_of row)) R over k (rw rank q))

      below : (m : ℕ) → m < length s → extent (list_of R) (4 - length s + position m (take (length s) (list_of row))) - 1 < extent s m
      below m q = omega (arith, extent_at m q, positive m)
