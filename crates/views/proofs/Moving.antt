-- What the views of FLIP and SHRINK walk over.
use Prim.Native.Nat.{ℕ, ◌+◌, ◌*◌, ◌-◌, ◌≤◌, ◌<◌}
use mathlib.Core.Path.{◌≡◌, ap, ◌∙◌}
use mathlib.Core.Bool.{Bool, true, false, cond}
use mathlib.Core.List.{List}
use native.Mathlib.Omega.{arith}
use native.Mathlib.Nat.{mul-zero, zero-add, add-zero}
use borrow.Author.Tests.{leb-true}
use lib.Dec.{eqb, leb}
use lib.ListN.{length, take}
use Rattle.laws.specs.Numbering.{count, ravel, coord}
use Rattle.laws.proofs.Booleans.{and_true, all_below_lem}
use Rattle.plan.specs.declared.Row.{Row}
use Rattle.plan.specs.Words.{list_of}
use Rattle.shapes.specs.Rules.{extent, word_of, flagged, same_rank}
use Rattle.shapes.specs.Sources.{flip_source, shrink_source}
use Rattle.shapes.proofs.Extents.{Positive}
use Rattle.views.specs.Views.{step, cells_of, place, reach}
use Rattle.views.specs.Strides.{strides_of, dot_of, flip_stride, flip_view, shrink_view}
use Rattle.views.specs.Walks.{InFront, Walks}
use Rattle.views.proofs.Fronts.{grid_rank, grid_cells, grid_positive, grid_axes, extent_front, extent_rest, ravel_grid, ravel_add, grid_zero, grid_same, same_rank_lem, words_front, words_rest}
use Rattle.views.proofs.Axiswise.{Along, by_strides, axiswise, axis_reach}
use Rattle.views.proofs.Walking.{grid_below, masked_place, masked_reach}

-- ---- FLIP

flip_along : (n t flag : ℕ) → Along n (flip_stride flag t) t (λ (c : ℕ). cond (eqb flag 1) (n - 1 - c) c)
unfolding step
flip_along n t flag c h = by_flag (eqb flag 1)
  where
    by_flag : (b : Bool) → c * cond b 0 t + (n - 1 - c) * cond b t 0 ≡ cond b (n - 1 - c) c * t
    by_flag true = rw (mul-zero, zero-add)
    by_flag false = rw (mul-zero, add-zero)

module _ (s : List ℕ) (S F row : Row) (base : ℕ) (under : InFront 1 s S) (flags : InFront 0 (take (length s) (list_of row)) F) (p : Positive s) where
  -- the source's coordinate along axis k
  abbrev turned : ℕ → ℕ → ℕ
  turned k c = cond (flagged (list_of F) k) (extent (list_of S) k - 1 - c) c

  flip_at : (e : ℕ) → e < count s → ravel (list_of S) (λ (k : ℕ). turned k (coord (list_of S) e k)) ≡ flip_source s s (list_of row) e
  unfolding flip_source
  flip_at e h =
      let ranked = grid_rank s S under in
      ravel_grid s S under _ _
      (λ k q. rw (words_front (length s) row F ranked flags k q) (grid_zero s S under e h k q))
      (λ k q. rw (words_rest (length s) row F ranked flags k q, extent_rest s S under k, grid_same s S under e h k))

  pub flip_walks : Walks S (flip_view base S F) base (count s) (count s) (λ (e : ℕ). flip_source s s (list_of row) e)
  flip_walks =
      record {
        cells = grid_cells s S under;
        at = λ j h. place_is j (rw (grid_cells s S under) h) ∙ ap (λ (i : ℕ). base + i) (flip_at j h);
        inside = rw reach_is (grid_below s S under base _ (λ k h. below k (flagged (list_of F) k)));
      }
    where
      place_is : (j : ℕ) → j < cells_of S → place S (flip_view base S F) j ≡ base + ravel (list_of S) (λ (k : ℕ). turned k (coord (list_of S) j k))
      place_is =
          axiswise S S (flip_view base S F) turned (flip_along _ _ F.r0) (flip_along _ _ F.r1) (flip_along _ _ F.r2) (flip_along _ _ F.r3)

      reach_is : reach S (flip_view base S F) ≡ base + ravel (list_of S) (λ (k : ℕ). turned k (extent (list_of S) k - 1) + turned k 0)
      reach_is =
          axis_reach S S (flip_view base S F) turned (flip_along _ _ F.r0) (flip_along _ _ F.r1) (flip_along _ _ F.r2) (flip_along _ _ F.r3)
          (grid_positive s S under p)

      below : (k : ℕ) (b : Bool) → cond b (extent (list_of S) k - 1 - (extent (list_of S) k - 1)) (extent (list_of S) k - 1) + cond b (extent (list_of S) k - 1 - 0) 0 < extent (list_of S) k
      below k true = omega (arith, grid_positive s S under p k)
      below k false = omega (arith, grid_positive s S under p k)

-- ---- SHRINK

module _ (s r : List ℕ) (S R O row : Row) (base : ℕ) (under : InFront 1 s S) (over : InFront 1 r R) (offsets : InFront 0 (take (length s) (list_of row)) O)
    (p : Positive r) (rule : same_rank s r (λ (k : ℕ). leb (word_of (list_of row) k + extent r k) (extent s k)) ≡ true) where
  ranks : length s ≡ length r
  ranks = same_rank_lem s r _ rule

  fits : (k : ℕ) → k < length s → word_of (list_of row) k + extent r k ≤ extent s k
  unfolding same_rank
  fits k h = leb-true _ _ (all_below_lem (length s) (λ (k : ℕ). leb (word_of (list_of row) k + extent r k) (extent s k)) (and_true (eqb (length s) (length r)) _ rule).1 k h)

  grid_fits : (k : ℕ) → k < 4 → word_of (list_of O) k + extent (list_of R) k ≤ extent (list_of S) k
  grid_fits =
      let ranked = grid_rank s S under in
      grid_axes s S under (λ (k : ℕ). word_of (list_of O) k + extent (list_of R) k ≤ extent (list_of S) k)
      (λ k h. omega (arith, words_front (length s) row O ranked offsets k h, extent_front r R over k (rw ranks at h), extent_front s S under k h))
      (λ k h. rw (words_rest (length s) row O ranked offsets k h, extent_rest s S under k, ranks, extent_rest r R over k) (fits k h))

  shrink_at : (e : ℕ) → e < count r → ravel (list_of S) (λ (k : ℕ). coord (list_of R) e k + word_of (list_of O) k) ≡ shrink_source s r (list_of row) e
  unfolding shrink_source
  shrink_at e h =
      let ranked = grid_rank s S under in
      ravel_grid s S under _ _
      (λ k q. rw (words_front (length s) row O ranked offsets k q, grid_zero r R over e h k (rw ranks at q)))
      (λ k q. rw (words_rest (length s) row O ranked offsets k q, ranks, grid_same r R over e h k))

  -- the offsets' place and the coordinates' in one
  begun : (c : ℕ → ℕ) → base + dot_of O (strides_of S) + ravel (list_of S) c ≡ base + ravel (list_of S) (λ (k : ℕ). c k + word_of (list_of O) k)
  begun c = omega (arith, by_strides S (λ (k : ℕ). word_of (list_of O) k), ravel_add (list_of S) c (λ (k : ℕ). word_of (list_of O) k))

  pub shrink_walks : Walks R (shrink_view base S O) base (count r) (count s) (λ (e : ℕ). shrink_source s r (list_of row) e)
  shrink_walks =
      record {
        cells = grid_cells r R over;
        at = λ j h. masked_place R S (base + dot_of O (strides_of S)) (λ (k : ℕ). true) j (rw (grid_cells r R over) h) ∙ begun _ ∙ ap (λ (i : ℕ). base + i) (shrink_at j h);
        inside = rw (masked_reach R S (base + dot_of O (strides_of S)) (λ (k : ℕ). true) (grid_positive r R over p), begun) (grid_below s S under base _ below);
      }
    where
      below : (k : ℕ) → k < 4 → extent (list_of R) k - 1 + word_of (list_of O) k < extent (list_of S) k
      below k h = omega (arith, grid_fits k h, grid_positive r R over p k)
