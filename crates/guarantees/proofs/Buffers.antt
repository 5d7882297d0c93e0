-- What a run leaves in a buffer: all nodes' elements end to end, and what was there before.
use Prim.Native.Nat.{ℕ, zero, suc, ◌+◌, ◌<◌, ◌≤◌, suc-le-suc}
use mathlib.Core.Path.{◌≡◌, refl, ap, sym, ◌∙◌}
use mathlib.Core.List.{List, [], ◌∷◌, ◌++◌, map}
use native.Mathlib.Omega.{arith}
use native.Mathlib.Nat.{not-suc-le-zero, le_of_suc-le-suc, zero-lt-suc, zero-add}
use lib.ListN.{length, get_or, take, drop, length-append, length-drop, length-map, get_or-append, get_or-map}
use lib.Seq.{take_all, take-suc, drop-append_seam, get_or-take, get_or-drop, length-take-le, ext_get_or}
use Rattle.laws.specs.Lists.{occurrences, sum, concat}
use Rattle.laws.proofs.Lists.{concat_at}
use Rattle.plan.specs.Answers.{written}
use Rattle.rules.specs.Rules.{Derived, no_source}
use Rattle.verifier.specs.Check.{count_of, total_of}
use Rattle.cells.specs.Cells.{Cell, known, gap, Field}
use Rattle.runner.specs.Run.{no_field, flag_of, gap_count, all_cells}
use Rattle.guarantees.specs.Demand3.{one_if_gap, gaps_below}

-- ---- a buffer after a call

module _ {A : Type 0} (words before : List A) where
  pub written_at : (k : ℕ) (d : A) → k < length words → get_or (written words before) k d ≡ get_or words k d
  unfolding written
  written_at k d h = get_or-append words (drop (length words) before) d k h

  pub written_past : (n : ℕ) → length words ≡ n → drop n (written words before) ≡ drop n before
  unfolding written
  written_past n e = rw (← e) (drop-append_seam words (drop (length words) before))

  pub written_length : length words ≤ length before → length (written words before) ≡ length before
  unfolding written
  written_length h = length-append words (drop (length words) before) ∙ omega (arith, length-drop (length words) before, h)

-- ---- where a node's elements stand

abbrev cell_lists : List Field → List (List Cell)
cell_lists = map (λ (f : Field). f.cells)

-- each field has as many cells as its node's record counts
pub record Counted (fs : List Field) (ds : List Derived) : Type 0 where
  pub as_many : length fs ≡ length ds
  pub each : (n : ℕ) → n < length ds → length (get_or fs n no_field).cells ≡ count_of (get_or ds n no_source)

start_length : (fs : List Field) (ds : List Derived) → Counted fs ds → (n : ℕ) → length (concat (take n (cell_lists fs))) ≡ total_of (take n ds)
unfolding concat total_of sum
start_length fs ds c zero = refl
start_length [] [] c (suc n) = refl
start_length [] (d ∷ ds) c (suc n) = absurd (omega (arith, c.as_many))
start_length (f ∷ fs) [] c (suc n) = absurd (omega (arith, c.as_many))
start_length (f ∷ fs) (d ∷ ds) c (suc n) =
    let rest : Counted fs ds = record { as_many = omega (arith, c.as_many); each = λ k h. c.each (suc k) (suc-le-suc h) } in
    length-append f.cells (concat (take n (cell_lists fs))) ∙ rw (c.each 0 (zero-lt-suc (length ds)), start_length fs ds rest n) refl

-- a node's elements end where those of all nodes do, or before
place_below : (ds : List Derived) (n : ℕ) → n < length ds → total_of (take n ds) + count_of (get_or ds n no_source) ≤ total_of ds
unfolding total_of sum
place_below [] n h = absurd (not-suc-le-zero h)
place_below (d ∷ ds) zero h = omega arith
place_below (d ∷ ds) (suc n) h = omega (arith, place_below ds n (le_of_suc-le-suc h))

module _ (fs : List Field) (ds : List Derived) (c : Counted fs ds) where
  cells_length : length (all_cells fs) ≡ total_of ds
  unfolding all_cells
  cells_length =
      let a : take (length ds) (cell_lists fs) ≡ cell_lists fs = take_all (length ds) (cell_lists fs) (omega (arith, length-map fs (λ (f : Field). f.cells), c.as_many)) in
      let b : take (length ds) ds ≡ ds = take_all (length ds) ds (omega arith) in
      rw (a, b) at (start_length fs ds c (length ds))

  module _ {A : Type 0} (f : Cell → A) (before : List A) where
    words_length : length (map f (all_cells fs)) ≡ total_of ds
    words_length = length-map (all_cells fs) f ∙ cells_length

    -- the places past the total, and their number
    pub total_past : drop (total_of ds) (written (map f (all_cells fs)) before) ≡ drop (total_of ds) before
    total_past = written_past (map f (all_cells fs)) before (total_of ds) words_length

    pub total_length : total_of ds ≤ length before → length (written (map f (all_cells fs)) before) ≡ length before
    total_length h = written_length (map f (all_cells fs)) before (omega (arith, words_length, h))

    module _ (n : ℕ) (h : n < length ds) where
      -- element e of node n
      pub element_at_lem : (e : ℕ) → e < count_of (get_or ds n no_source)
          → get_or (written (map f (all_cells fs)) before) (total_of (take n ds) + e) (f gap) ≡ f (get_or (get_or fs n no_field).cells e gap)
      unfolding all_cells
      element_at_lem e l =
          let here : get_or (cell_lists fs) n [] ≡ (get_or fs n no_field).cells = get_or-map (λ (f : Field). f.cells) fs n no_field in
          let inside : e < length (get_or (cell_lists fs) n []) = omega (arith, ap length here, c.each n h, l) in
          let at : get_or (concat (cell_lists fs)) (total_of (take n ds) + e) gap ≡ get_or (get_or fs n no_field).cells e gap = rw (start_length fs ds c n, here) at (concat_at (cell_lists fs) n e gap inside) in
          written_at (map f (all_cells fs)) before (total_of (take n ds) + e) (f gap) (omega (arith, words_length, place_below ds n h, l))
          ∙ get_or-map f (all_cells fs) (total_of (take n ds) + e) gap
          ∙ ap f at

      -- all of its elements
      pub node_part : total_of ds ≤ length before → take (count_of (get_or ds n no_source)) (drop (total_of (take n ds)) (written (map f (all_cells fs)) before)) ≡ map f (get_or fs n no_field).cells
      node_part room =
          let w = written (map f (all_cells fs)) before in
          let s = total_of (take n ds) in
          let k = count_of (get_or ds n no_source) in
          let long : length (take k (drop s w)) ≡ k = length-take-le k (drop s w) (omega (arith, length-drop s w, total_length room, place_below ds n h, room)) in
          ext_get_or (f gap) (take k (drop s w)) (map f (get_or fs n no_field).cells)
          (long ∙ sym (c.each n h) ∙ sym (length-map (get_or fs n no_field).cells f))
          (λ i l.
          let q : i < k = rw long at l in
          get_or-take k (drop s w) i (f gap) q ∙ get_or-drop s w i (f gap) ∙ element_at_lem i q ∙ sym (get_or-map f (get_or fs n no_field).cells i gap))

-- ---- gaps

gaps_more : (cs : List Cell) (c : Cell) → gap_count (cs ++ c ∷ []) ≡ gap_count cs + one_if_gap c
unfolding gap_count
gaps_more [] (known z) = omega arith
gaps_more [] gap = omega arith
gaps_more (known z ∷ cs) c = gaps_more cs c
gaps_more (gap ∷ cs) c = omega (arith, gaps_more cs c)

gaps_to : (f : Field) (n : ℕ) → n ≤ length f.cells → gap_count (take n f.cells) ≡ gaps_below f n
unfolding gap_count gaps_below
gaps_to f zero h = refl
gaps_to f (suc n) h =
    ap gap_count (take-suc f.cells n gap h)
    ∙ gaps_more (take n f.cells) (get_or f.cells n gap)
    ∙ rw (gaps_to f n (omega arith)) refl

-- the gaps of a field, counted element by element; and by its flags
pub gaps_counted : (f : Field) (n : ℕ) → length f.cells ≡ n → gap_count f.cells ≡ gaps_below f n
gaps_counted f n e = ap gap_count (sym (take_all n f.cells (omega arith))) ∙ gaps_to f n (omega arith)

pub flags_counted : (cs : List Cell) → gap_count cs ≡ occurrences 0 (map flag_of cs)
unfolding gap_count occurrences
flags_counted [] = refl
flags_counted (known z ∷ cs) = flags_counted cs ∙ sym (zero-add (occurrences 0 (map flag_of cs)))
flags_counted (gap ∷ cs) = omega (arith, flags_counted cs)
