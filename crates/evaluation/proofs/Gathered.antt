-- REDUCE: each element of the result, from the cells that it gathers.
use Prim.Native.Nat.{ℕ, zero, suc, ◌+◌, ◌-◌, ◌<◌, ◌≤◌, min}
use mathlib.Core.Path.{◌≡◌, refl, sym, ap, ◌∙◌}
use mathlib.Core.Bool.{Bool, true, false, cond}
use mathlib.Core.List.{List, [], ◌∷◌, ◌++◌}
use native.Mathlib.Nat.{not-suc-le-zero, add-zero, zero-mul, mul-zero, zero-div, zero-mod}
use native.Mathlib.Omega.{arith}
use lib.Dec.{eqb}
use lib.IntN.{ℤ, pos, ◌+ℤ◌, +ℤ_idl}
use lib.ListN.{length, get_or, take, replicate}
use Rattle.laws.specs.Integers.{max_z}
use Rattle.laws.specs.Lists.{tab, among}
use Rattle.laws.specs.Numbering.{count}
use Rattle.laws.proofs.Extremes.{max_z_of}
use Rattle.laws.proofs.Lists.{tab_same, tab_map, tab_append, tab_snoc}
use Rattle.laws.proofs.Store.{store_same}
use Rattle.plan.specs.declared.Node.{Node}
use Rattle.plan.specs.declared.Row.{Row}
use Rattle.plan.specs.Operations.{REDUCE}
use Rattle.plan.specs.Words.{list_of, element, size_of}
use Rattle.shapes.specs.Rules.{element_limit, extent, flagged, reduced, gathered_extents}
use Rattle.shapes.specs.Sources.{source_element, reduce_source, gathered}
use Rattle.shapes.proofs.Extents.{gathered_positive, gathered_length, some_element}
use Rattle.shapes.proofs.Sources.{reduce_below}
use Rattle.shaping.proofs.Counts.{gathered_few}
use Rattle.cells.specs.Cells.{Cell, known, gap, Field, cell_at, both, fold_cells, reduce_cells, reduction}
use Rattle.cells.specs.Nodes.{Operands, eval_cell}
use Rattle.runner.specs.Run.{value_of, flag_of}
use Rattle.views.specs.declared.View.{View}
use Rattle.views.specs.Strides.{kept_view, gathered_view}
use Rattle.views.specs.Views.{step, cells_of, row_place, place, reach}
use Rattle.views.specs.Walks.{InFront}
use Rattle.views.proofs.Fronts.{grid_rank, grid_cells, extent_rest, words_in_front, words_front, words_rest}
use Rattle.views.proofs.Gathering.{reduce_places, reduce_reach}
use Rattle.reducing.specs.Folding.{fold_from, combine_of, reduced_flag, reduced_value, reduced_flags, reduced_values}
use Rattle.walking.specs.Alike.{Alike}
use Rattle.evaluation.specs.Standing.{Source, Evaluates, Reduced}

-- ---- cells taken in one after another

-- one more
fold_snoc : (f : ℤ → ℤ → ℤ) (z : Cell) (cs : List Cell) (c : Cell) → fold_cells f z (cs ++ (c ∷ [])) ≡ both f (fold_cells f z cs) c
unfolding fold_cells
fold_snoc f z [] c = refl
fold_snoc f z (d ∷ ds) c = fold_snoc f (both f z d) ds c

-- its flag is the least of the two
both_flag : (f : ℤ → ℤ → ℤ) (c d : Cell) → min (flag_of c) (flag_of d) ≡ flag_of (both f c d)
both_flag f gap d = omega arith
both_flag f (known x) gap = refl
both_flag f (known x) (known y) = refl

-- x is a cell's number, where that is known
abbrev Shows : Cell → ℤ → Type 0
Shows c x = cond (eqb (flag_of c) 1) x (pos 0) ≡ value_of c

own_shows : (c : Cell) {x : ℤ} → x ≡ value_of c → Shows c x
own_shows gap e = refl
own_shows (known z) e = e

both_shows : (f : ℤ → ℤ → ℤ) (c d : Cell) (x : ℤ) → Shows c x → Shows (both f c d) (f x (value_of d))
both_shows f gap d x e = refl
both_shows f (known z) gap x e = refl
both_shows f (known z) (known y) x e = ap (λ (t : ℤ). f t y) e

module _ (f : ℤ → ℤ → ℤ) (c : ℕ → Cell) where
  abbrev all_of : ℕ → Cell
  all_of m = fold_cells f (c 0) (tab m (λ (k : ℕ). c (suc k)))

  all_more : (m : ℕ) → all_of (suc m) ≡ both f (all_of m) (c (suc m))
  all_more m =
      ap (fold_cells f (c 0)) (tab_snoc m (λ (k : ℕ). c (suc k))) ∙ fold_snoc f (c 0) (tab m (λ (k : ℕ). c (suc k))) (c (suc m))

  -- flags g 0, .., g m and numbers v 0, .., v m that are the cells'
  all_flags : (z : ℕ) (g : ℕ → ℕ) (m : ℕ) → z ≡ g 0 → ((i : ℕ) → i < suc m → g i ≡ flag_of (c i)) → fold_from min z g (suc m) ≡ flag_of (all_of m)
  unfolding fold_from fold_cells tab
  all_flags z g zero e h = rw (e, h 0 (omega arith)) (omega arith)
  all_flags z g (suc m) e h =
      ap (λ (t : ℕ). min t (g (suc m))) (all_flags z g m e (λ i q. h i (omega arith)))
      ∙ rw (h (suc m) (omega arith), all_more m) (both_flag f (all_of m) (c (suc m)))

  all_shows : (z : ℤ) (v : ℕ → ℤ) (m : ℕ) → f z (v 0) ≡ v 0 → ((i : ℕ) → i < suc m → v i ≡ value_of (c i)) → Shows (all_of m) (fold_from f z v (suc m))
  unfolding fold_from fold_cells tab
  all_shows z v zero e h = own_shows (c 0) (e ∙ h 0 (omega arith))
  all_shows z v (suc m) e h =
      rw (h (suc m) (omega arith), all_more m)
      (both_shows f (all_of m) (c (suc m)) (fold_from f z v (suc m)) (all_shows z v m e (λ i q. h i (omega arith))))

  -- the same of n cells, of which there is one
  cells_flag : (z : ℕ) (g : ℕ → ℕ) (n : ℕ) → 0 < n → z ≡ g 0 → ((i : ℕ) → i < n → g i ≡ flag_of (c i)) → fold_from min z g n ≡ flag_of (reduce_cells f (tab n c))
  unfolding tab
  cells_flag z g zero some e h = absurd (not-suc-le-zero some)
  cells_flag z g (suc m) some e h = all_flags z g m e h

  cells_show : (z : ℤ) (v : ℕ → ℤ) (n : ℕ) → 0 < n → f z (v 0) ≡ v 0 → ((i : ℕ) → i < n → v i ≡ value_of (c i)) → Shows (reduce_cells f (tab n c)) (fold_from f z v n)
  unfolding tab
  cells_show z v zero some e h = absurd (not-suc-le-zero some)
  cells_show z v (suc m) some e h = all_shows z v m e h

-- a sum begins with 0, a maximum with its first number
begins : (sum : Bool) (y : ℤ) → cond sum ◌+ℤ◌ max_z (cond sum (pos 0) y) y ≡ y
begins true y = +ℤ_idl y
begins false y = max_z_of (λ (z : ℤ). z ≡ y) y y refl refl

-- ---- the grid of what is gathered

tab_ones : (n : ℕ) (f : ℕ → ℕ) → ((k : ℕ) → k < n → f k ≡ 1) → tab n f ≡ replicate n 1
unfolding tab
tab_ones zero f h = refl
tab_ones (suc n) f h = rw (h 0 (omega arith), tab_ones n (λ (k : ℕ). f (suc k)) (λ k q. h (suc k) (omega arith))) refl

gathered_front : (s : List ℕ) (S F G row : Row) → InFront 1 s S → InFront 0 (take (length s) (list_of row)) F → list_of G ≡ gathered_extents (list_of S) (list_of F)
    → InFront 1 (gathered_extents s (list_of row)) G
unfolding gathered_extents
gathered_front s S F G row under flags e =
    let ranked = grid_rank s S under in
    let along : ℕ → ℕ = λ k. cond (flagged (list_of F) k) (extent (list_of S) k) 1 in
    let four : 4 ≡ 4 - length s + length s = omega arith in
    let ones : tab (4 - length s) along ≡ replicate (4 - length s) 1 = tab_ones (4 - length s) along (λ k h. rw (words_front (length s) row F ranked flags k h) refl) in
    let rest : tab (length s) (λ (k : ℕ). along (4 - length s + k)) ≡ tab (length s) (λ (k : ℕ). cond (flagged (list_of row) k) (extent s k) 1) = tab_same (length s) _ _ (λ k h. rw (words_rest (length s) row F ranked flags k h, extent_rest s S under k) refl) in
    rw (gathered_length s (list_of row)) (e ∙ ap (λ (n : ℕ). tab n along) four ∙ tab_append (4 - length s) (length s) along ∙ rw (ones, rest) refl)

-- what is gathered begins at the element's own place
first_place : (G S F : Row) → place G (gathered_view S F) 0 ≡ 0
unfolding place row_place step
first_place G S F = simp (zero-div, zero-mod, zero-mul, mul-zero, add-zero)

-- ---- the node

-- the cells that element e gathers
abbrev gathered_cell : Field → List ℕ → List ℕ → ℕ → ℕ → Cell
gathered_cell a s row e i = cell_at a (reduce_source s row (element e) i)

reduce_cell : (x : Node) (s r : List ℕ) (o : Operands) (e : ℕ) → x.op ≡ REDUCE → o.a.extents ≡ s
    → eval_cell x r o (element e) ≡ reduce_cells (combine_of (size_of x.number)) (tab (count (gathered_extents s (list_of x.rowa))) (gathered_cell o.a s (list_of x.rowa) e))
unfolding eval_cell source_element among gathered reduction
reduce_cell x s r o e q shape =
    let row = list_of x.rowa in
    rw q
    (ap (reduce_cells (combine_of (size_of x.number))) (tab_map (cell_at o.a) _ _
    ∙ ap (λ (l : List ℕ). tab (count (gathered_extents l row)) (gathered_cell o.a l row e)) shape))

module _ (x : Node) (s r : List ℕ) (S F G : Row) (p : Reduced x s r) (under : InFront 1 s S)
    (axes : list_of F ≡ replicate (4 - length s) 0 ++ take (length s) (list_of x.rowa)) (inner : list_of G ≡ gathered_extents (list_of S) (list_of F)) where
  flags : InFront 0 (take (length s) (list_of x.rowa)) F
  flags = words_in_front (length s) x.rowa F (grid_rank s S under) axes

  gathers : InFront 1 (gathered_extents s (list_of x.rowa)) G
  gathers = gathered_front s S F G x.rowa under flags inner

  elements : cells_of G ≡ count (gathered_extents s (list_of x.rowa))
  elements = grid_cells (gathered_extents s (list_of x.rowa)) G gathers

  -- something is gathered, and within the limit
  pub gathered_fits : (0 < cells_of G) × (cells_of G ≤ element_limit)
  gathered_fits =
      rw elements (some_element _ (gathered_positive s (list_of x.rowa) p.positive), gathered_few s (list_of x.rowa) p.positive p.few)

  module _ (K : Row) (base : ℕ) (over : InFront 1 r K) where
    keeps : InFront 1 (reduced s (list_of x.rowa)) K
    keeps = rw p.result at over

    pub reduce_within : reach K (kept_view base S F) + reach G (gathered_view S F) < base + count s
    reduce_within = reduce_reach s S F K G x.rowa base under flags keeps gathers p.positive

    -- by a grid and a view of the axes kept that find the same places
    module _ (H : Row) (kept : View) (o : Operands) (vs : List ℤ) (fs : List ℕ) (start : ℕ) (same : cells_of H ≡ cells_of K) (alike : Alike K (kept_view base S F) H kept) (from : Source vs fs base s o.a) where
      module _ (e : ℕ) (h : e < count r) where
        place_at : (i : ℕ) → i < cells_of G → place H kept e + place G (gathered_view S F) i ≡ base + (reduce_source s (list_of x.rowa) (element e) i).0
        place_at i q =
            rw (alike.near e (rw (grid_cells r K over) h))
            (reduce_places s S F K G x.rowa base under flags keeps gathers e i (rw p.result at h) (rw elements at q))

        inside : (i : ℕ) → i < cells_of G → (reduce_source s (list_of x.rowa) (element e) i).0 < count o.a.extents
        inside i q = rw from.shape (reduce_below s (list_of x.rowa) (element e) i (rw p.result at h) (rw elements at q))

        first_at : place H kept e + place G (gathered_view S F) 0 ≡ place H kept e
        first_at = rw (first_place G S F, add-zero)

        abbrev cell : Cell
        cell = reduce_cells (combine_of (size_of x.number)) (tab (cells_of G) (gathered_cell o.a s (list_of x.rowa) e))

        cell_is : eval_cell x r o (element e) ≡ cell
        cell_is = rw elements (reduce_cell x s r o e p.operation from.shape)

        flag_is : reduced_flag fs H kept G (gathered_view S F) e ≡ flag_of cell
        flag_is =
            cells_flag (combine_of (size_of x.number)) _ _ _ (cells_of G) gathered_fits.0 (rw first_at refl)
            (λ i q. ap (λ (j : ℕ). get_or fs j 0) (place_at i q) ∙ from.stands.flags _ (inside i q))

        value_is : reduced_value (size_of x.number) vs fs H kept G (gathered_view S F) e ≡ value_of cell
        value_is =
            rw flag_is
            (cells_show (combine_of (size_of x.number)) _ _ _ (cells_of G) gathered_fits.0 (rw first_at (begins (eqb (size_of x.number) 0) _))
            (λ i q. ap (λ (j : ℕ). get_or vs j (pos 0)) (place_at i q) ∙ from.stands.values _ (inside i q)))

      pub reduce_evaluates : {vs' : List ℤ} {fs' : List ℕ} → vs' ≡ reduced_values (size_of x.number) vs fs H kept G (gathered_view S F) start → fs' ≡ reduced_flags fs H kept G (gathered_view S F) start
          → Evaluates x r o vs fs start vs' fs'
      reduce_evaluates ev ef =
          let cells : cells_of H ≡ count r = same ∙ grid_cells r K over in
          record {
            values = ev ∙ rw cells (store_same vs start (count r) _ _ (λ e h. value_is e h ∙ ap value_of (sym (cell_is e h))));
            flags = ef ∙ rw cells (store_same fs start (count r) _ _ (λ e h. flag_is e h ∙ ap flag_of (sym (cell_is e h))));
          }
