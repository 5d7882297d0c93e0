-- The source element of an element lies in the source.
use Prim.Native.Nat.{ℕ, ◌+◌, ◌-◌, ◌<◌, ◌≤◌}
use mathlib.Core.Path.{◌≡◌, ap, sym, ◌∙◌}
use mathlib.Core.Bool.{true, ◌||◌, cond}
use mathlib.Core.Logic.{◌⊎◌, inl, inr}
use mathlib.Core.List.{List}
use native.Mathlib.Omega.{arith}
use borrow.Author.Tests.{eqb-true, ltb-true, leb-true}
use lib.Dec.{eqb, ltb, leb}
use lib.ListN.{length, get_or, take, length-map, length-take}
use lib.Seq.{get_or-take, length-take-le}
use Rattle.laws.specs.Lists.{occurrences, position}
use Rattle.laws.specs.Numbering.{count, ravel, coord}
use Rattle.laws.proofs.Booleans.{bool_cases, and_true, or_true, all_below_lem}
use Rattle.laws.proofs.Lists.{get_or_tab, length_tab, get_or_map, position_lt, position_at, position_of}
use Rattle.laws.proofs.Numbering.{Stands, ravel_stands, ravel_lt, coord_lt, coord_ravel}
use Rattle.plan.specs.declared.Row.{Row}
use Rattle.plan.specs.declared.ElementNumber.{ElementNumber}
use Rattle.plan.specs.Words.{list_of, element}
use Rattle.shapes.specs.Rows.{row_of, is_permutation}
use Rattle.shapes.specs.Rules.{extent, word_of, flagged, same_rank, permuted, reduced, gathered_extents}
use Rattle.shapes.specs.Sources.{permute_source, in_source, reduce_source, gathered}
use Rattle.shapes.specs.Coordinates.{PermutedFrom}
use Rattle.shapes.proofs.Extents.{Positive, some_element, gathered_positive, reduced_length, gathered_length}
use Rattle.shapes.proofs.RowTests.{axis_below, permutation_ranked}
use Rattle.shapes.proofs.Broadcast.{Spreads}

-- ---- PERMUTE

module _ (s row : List ℕ) (p : is_permutation (length s) row ≡ true) where
  abbrev axes : List ℕ
  axes = take (length s) row

  once : (m : ℕ) → m < length s → occurrences m (take (length s) row) ≡ 1
  unfolding is_permutation
  once m h =
      eqb-true (occurrences m axes) 1
      (all_below_lem (length s) (λ (k : ℕ). eqb (occurrences k axes) 1) (and_true (row_of (λ (n : ℕ). ltb n (length s)) (length s) row) _ p).1 m h)

  -- the result axis that is source axis m
  axis_lt : (m : ℕ) → m < length s → position m (take (length s) row) < length (take (length s) row)
  axis_lt m h = position_lt m axes (omega (arith, once m h))

  pub axis_there : (m : ℕ) → m < length s → (k : ℕ) × (k < length s) × (word_of row k ≡ m)
  axis_there m h =
      let k : ℕ = position m axes in
      let l : k < length s = omega (arith, axis_lt m h, length-take (length s) row) in
      (k, l, sym (get_or-take (length s) row k 0 l) ∙ position_at m axes 0 (omega (arith, once m h)))

  axis_extent : (m : ℕ) → m < length s → extent (permuted s row) (position m (take (length s) row)) ≡ extent s m
  unfolding permuted
  axis_extent m h =
      get_or_map (λ (a : ℕ). extent s a) axes (position m axes) 1 0 (axis_lt m h) ∙ ap (λ (a : ℕ). extent s a) (position_at m axes 0 (omega (arith, once m h)))

  permuted_rank : length (permuted s row) ≡ length (take (length s) row)
  unfolding permuted
  permuted_rank = length-map axes (λ (a : ℕ). extent s a)

  module _ (e : ℕ) (h : e < count (permuted s row)) where
    inside : (m : ℕ) → m < length s → coord (permuted s row) e (position m (take (length s) row)) < extent s m
    inside m q =
        rw (axis_extent m q) at (coord_lt (permuted s row) e h (position m axes) (rw permuted_rank (axis_lt m q)))

    pub permute_below : permute_source s (permuted s row) row e < count s
    unfolding permute_source
    permute_below = ravel_lt s (λ (m : ℕ). coord (permuted s row) e (position m axes)) inside

    axis_coordinate : (k : ℕ) → k < length (take (length s) row) → get_or (take (length s) row) k 0 < length s
        → coord s (permute_source s (permuted s row) row e) (get_or (take (length s) row) k 0) ≡ coord (permuted s row) e k
    unfolding permute_source
    axis_coordinate k q a =
        coord_ravel s (λ (m : ℕ). coord (permuted s row) e (position m axes)) inside (get_or axes k 0) a
        ∙ ap (λ (j : ℕ). coord (permuted s row) e j) (position_of axes k 0 (once (get_or axes k 0) a) q)

-- "result axis k is source axis A_k": coordinate A_k of the source element is coordinate k of the result's
pub permute_coordinate : (s : List ℕ) (row : Row) (e : ℕ) → is_permutation (length s) (list_of row) ≡ true → e < count (permuted s (list_of row))
    → PermutedFrom s (permuted s (list_of row)) (list_of row) (permute_source s (permuted s (list_of row)) (list_of row) e) e
permute_coordinate s row e p h k q =
    let ranked : length s ≤ 4 = permutation_ranked (length s) row p in
    let axis : get_or (list_of row) k 0 < length s = axis_below (length s) (list_of row) p k (omega arith) q in
    let same : get_or (take (length s) (list_of row)) k 0 ≡ get_or (list_of row) k 0 = get_or-take (length s) (list_of row) k 0 q in
    let there : k < length (take (length s) (list_of row)) = rw (length-take-le (length s) (list_of row) ranked) q in
    rw same at (axis_coordinate s (list_of row) p e h k there (rw same axis))

-- ---- PAD and EXPAND

-- a cell of the source
pub pad_axis : (s r o : List ℕ) (e : ℕ) → in_source s r o e ≡ true → (k : ℕ) → k < length s → (word_of o k ≤ coord r e k) × (coord r e k < word_of o k + extent s k)
unfolding in_source
pad_axis s r o e f k q =
    let both = and_true (leb (word_of o k) (coord r e k)) (ltb (coord r e k) (word_of o k + extent s k)) (all_below_lem (length s) _ f k q) in
    (leb-true _ _ both.0, ltb-true _ _ both.1)

pub pad_stands : (s r o : List ℕ) (e : ℕ) → in_source s r o e ≡ true → Stands s (λ (k : ℕ). coord r e k - word_of o k) (ravel s (λ (k : ℕ). coord r e k - word_of o k))
pad_stands s r o e f = ravel_stands s _ (λ k q. omega (arith, pad_axis s r o e f k q))

pub pad_below : (s r o : List ℕ) (e : ℕ) → in_source s r o e ≡ true → ravel s (λ (k : ℕ). coord r e k - word_of o k) < count s
pad_below s r o e f = (pad_stands s r o e f).inside

pub expand_spreads : (s r : List ℕ) → same_rank s r (λ (k : ℕ). eqb (extent s k) 1 || eqb (extent s k) (extent r k)) ≡ true → Spreads s r
unfolding same_rank
expand_spreads s r f =
    let both = and_true (eqb (length s) (length r)) _ f in
    let l : length s ≡ length r = eqb-true _ _ both.0 in
    record { rank = omega arith; axis = λ k h. axis k h l (all_below_lem (length s) _ both.1 k h) }
  where
    axis : (k : ℕ) → k < length s → length s ≡ length r → (eqb (extent s k) 1 || eqb (extent s k) (extent r k)) ≡ true
        → (extent s k ≡ 1) ⊎ (extent s k ≡ extent r (length r - length s + k))
    axis k h l e =
        let z : length r - length s + k ≡ k = omega arith in
        or_true (eqb (extent s k) 1) (eqb (extent s k) (extent r k)) e (λ q. inl (eqb-true _ _ q)) (λ q. inr (rw z (eqb-true _ _ q)))

-- ---- REDUCE

module _ (s flags : List ℕ) where
  kept : (k : ℕ) → k < length s → extent (reduced s flags) k ≡ cond (flagged flags k) 1 (extent s k)
  unfolding reduced
  kept k q = get_or_tab (length s) (λ (k : ℕ). cond (flagged flags k) 1 (extent s k)) k 1 q

  pub along : (k : ℕ) → k < length s → extent (gathered_extents s flags) k ≡ cond (flagged flags k) (extent s k) 1
  unfolding gathered_extents
  along k q = get_or_tab (length s) (λ (k : ℕ). cond (flagged flags k) (extent s k) 1) k 1 q

  pub reduce_stands : (e : ElementNumber) (i : ℕ) → e.0 < count (reduced s flags) → i < count (gathered_extents s flags)
      → Stands s (λ (k : ℕ). cond (flagged flags k) (coord (gathered_extents s flags) i k) (coord (reduced s flags) e.0 k)) (reduce_source s flags e i).0
  unfolding reduce_source
  reduce_stands e i h g = ravel_stands s _ below
    where
      below : (k : ℕ) → k < length s → cond (flagged flags k) (coord (gathered_extents s flags) i k) (coord (reduced s flags) e.0 k) < extent s k
      below k q =
          let c = coord_lt (reduced s flags) e.0 h k (rw reduced_length q) in
          let d = coord_lt (gathered_extents s flags) i g k (rw gathered_length q) in
          bool_cases (flagged flags k)
          (λ f. rw f (rw (along k q, f) at d))
          (λ f. rw f (rw (kept k q, f) at c))

  pub reduce_below : (e : ElementNumber) (i : ℕ) → e.0 < count (reduced s flags) → i < count (gathered_extents s flags) → (reduce_source s flags e i).0 < count s
  reduce_below e i h g = (reduce_stands e i h g).inside

  -- it gathers as many elements as the product of the flagged extents
  pub gathered_count_lem : (e : ElementNumber) → length (gathered s flags e) ≡ count (gathered_extents s flags)
  unfolding gathered
  gathered_count_lem e = length_tab (count (gathered_extents s flags)) (reduce_source s flags e)

  -- "a gathered list is never empty"
  pub gathered_some : (e : ElementNumber) → Positive s → 0 < length (gathered s flags e)
  gathered_some e p = rw gathered_count_lem (some_element (gathered_extents s flags) (gathered_positive s flags p))

  -- each of them lies in the source
  pub gathered_below : (e : ElementNumber) (i : ℕ) → e.0 < count (reduced s flags) → i < length (gathered s flags e)
      → (get_or (gathered s flags e) i (element 0)).0 < count s
  unfolding gathered
  gathered_below e i h g =
      let k : i < count (gathered_extents s flags) = rw (gathered_count_lem e) at g in
      rw (get_or_tab (count (gathered_extents s flags)) (reduce_source s flags e) i (element 0) k) (reduce_below e i h k)
