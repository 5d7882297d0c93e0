-- REDUCE: the view of the axes kept and that of the axes gathered over reach an element together.
use Prim.Native.Nat.{ℕ, ◌+◌, ◌-◌, ◌<◌}
use mathlib.Core.Path.{◌≡◌}
use mathlib.Core.Bool.{Bool, true, false, not, cond}
use mathlib.Core.List.{List}
use native.Mathlib.Omega.{arith}
use native.Mathlib.Nat.{zero-add, add-zero}
use lib.ListN.{length, take}
use Rattle.laws.specs.Numbering.{count, ravel, coord}
use Rattle.laws.proofs.Lists.{get_or_tab}
use Rattle.plan.specs.declared.Row.{Row}
use Rattle.plan.specs.Words.{list_of, element}
use Rattle.shapes.specs.Rules.{extent, flagged, reduced, gathered_extents}
use Rattle.shapes.specs.Sources.{reduce_source}
use Rattle.shapes.proofs.Extents.{Positive, reduced_positive, gathered_positive, reduced_length, gathered_length}
use Rattle.views.specs.Views.{cells_of, place, reach}
use Rattle.views.specs.Strides.{kept_view, gathered_view}
use Rattle.views.specs.Walks.{InFront}
use Rattle.views.proofs.Fronts.{grid_rank, grid_cells, grid_positive, grid_axes, extent_front, extent_rest, ravel_grid, ravel_add, grid_zero, grid_same, words_front, words_rest}
use Rattle.views.proofs.Walking.{grid_below, masked_place, masked_reach}

-- an axis is of one view or of the other
share : (b : Bool) (x y : ℕ) → cond (not b) x 0 + cond b y 0 ≡ cond b y x
share true x y = zero-add y
share false x y = add-zero x

module _ (s : List ℕ) (S F K G row : Row) (base : ℕ) (under : InFront 1 s S) (flags : InFront 0 (take (length s) (list_of row)) F)
    (keeps : InFront 1 (reduced s (list_of row)) K) (gathers : InFront 1 (gathered_extents s (list_of row)) G) where
  kept_cells : cells_of K ≡ count (reduced s (list_of row))
  kept_cells = grid_cells (reduced s (list_of row)) K keeps

  gathered_cells : cells_of G ≡ count (gathered_extents s (list_of row))
  gathered_cells = grid_cells (gathered_extents s (list_of row)) G gathers

  -- what the two views add along axis k, of coordinates c and d
  abbrev shared : (ℕ → ℕ) → (ℕ → ℕ) → ℕ → ℕ
  shared c d k = cond (not (flagged (list_of F) k)) (c k) 0 + cond (flagged (list_of F) k) (d k) 0

  module _ (e i : ℕ) (h : e < count (reduced s (list_of row))) (q : i < count (gathered_extents s (list_of row))) where
    reduce_at : ravel (list_of S) (shared (coord (list_of K) e) (coord (list_of G) i)) ≡ (reduce_source s (list_of row) (element e) i).0
    unfolding reduce_source
    reduce_at =
        let ranked = grid_rank s S under in
        ravel_grid s S under _ _
        (λ k l. rw (words_front (length s) row F ranked flags k l, grid_zero (reduced s (list_of row)) K keeps e h k (rw (reduced_length s (list_of row)) l)))
        (λ k l.
        rw (words_rest (length s) row F ranked flags k l, rw (reduced_length s (list_of row)) at (grid_same (reduced s (list_of row)) K keeps e h k), rw (gathered_length s (list_of row)) at (grid_same (gathered_extents s (list_of row)) G gathers i q k))
        (share (flagged (list_of row) k) _ _))

    pub reduce_places : place K (kept_view base S F) e + place G (gathered_view S F) i ≡ base + (reduce_source s (list_of row) (element e) i).0
    reduce_places =
        rw (masked_place K S base (λ (k : ℕ). not (flagged (list_of F) k)) e (rw kept_cells h), masked_place G S 0 (λ (k : ℕ). flagged (list_of F) k) i (rw gathered_cells q))
        (omega (arith, reduce_at, ravel_add (list_of S) (λ (k : ℕ). cond (not (flagged (list_of F) k)) (coord (list_of K) e k) 0) (λ (k : ℕ). cond (flagged (list_of F) k) (coord (list_of G) i k) 0)))

  -- the last coordinates of the two grids
  ends : Positive s → (k : ℕ) → k < 4 → shared (λ (k : ℕ). extent (list_of K) k - 1) (λ (k : ℕ). extent (list_of G) k - 1) k < extent (list_of S) k
  unfolding reduced gathered_extents
  ends p =
      let ranked = grid_rank s S under in
      grid_axes s S under (λ (k : ℕ). shared (λ (k : ℕ). extent (list_of K) k - 1) (λ (k : ℕ). extent (list_of G) k - 1) k < extent (list_of S) k)
      (λ k l.
      rw (words_front (length s) row F ranked flags k l, extent_front s S under k l, extent_front (reduced s (list_of row)) K keeps k (rw (reduced_length s (list_of row)) l))
      (omega arith))
      (λ k l.
      rw (
        words_rest (length s) row F ranked flags k l,
        extent_rest s S under k,
        rw (reduced_length s (list_of row)) at (extent_rest (reduced s (list_of row)) K keeps k),
        rw (gathered_length s (list_of row)) at (extent_rest (gathered_extents s (list_of row)) G gathers k),
        get_or_tab (length s) (λ (k : ℕ). cond (flagged (list_of row) k) 1 (extent s k)) k 1 l,
        get_or_tab (length s) (λ (k : ℕ). cond (flagged (list_of row) k) (extent s k) 1) k 1 l,
      )
      (below (flagged (list_of row) k) (extent s k) (p k)))
    where
      below : (b : Bool) (n : ℕ) → 0 < n → cond (not b) (cond b 1 n - 1) 0 + cond b (cond b n 1 - 1) 0 < n
      below true n h = omega arith
      below false n h = omega arith

  pub reduce_reach : Positive s → reach K (kept_view base S F) + reach G (gathered_view S F) < base + count s
  reduce_reach p =
      rw (
        masked_reach K S base (λ (k : ℕ). not (flagged (list_of F) k)) (grid_positive (reduced s (list_of row)) K keeps (reduced_positive s (list_of row) p)),
        masked_reach G S 0 (λ (k : ℕ). flagged (list_of F) k) (grid_positive (gathered_extents s (list_of row)) G gathers (gathered_positive s (list_of row) p)),
      )
      (omega (
        arith,
        grid_below s S under base _ (ends p),
        ravel_add (list_of S) (λ (k : ℕ). cond (not (flagged (list_of F) k)) (extent (list_of K) k - 1) 0) (λ (k : ℕ). cond (flagged (list_of F) k) (extent (list_of G) k - 1) 0),
      ))
