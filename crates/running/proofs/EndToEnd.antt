-- Where the cells of each node stand among those of all nodes end to end, and in the buffers.
use Prim.Native.Nat.{ℕ, zero, suc, ◌+◌, ◌-◌, ◌<◌, ◌≤◌}
use mathlib.Core.Path.{◌≡◌, refl, ap, sym, ◌∙◌, subst}
use mathlib.Core.Logic.{⊎_elim}
use mathlib.Core.List.{List, [], ◌∷◌, ◌++◌, map, map-append, append-nil}
use native.Mathlib.Omega.{arith}
use native.Mathlib.Nat.{zero-add, eq-or-lt_of_le, not-suc-le-zero, le_of_suc-le-suc}
use native.Mathlib.Numerals.{add-one}
use borrow.Author.Tests.{ltb-true, ltb-false}
use lib.IntN.{ℤ}
use lib.Dec.{ltb}
use lib.ListN.{length, get_or, take, length-append, get_or-append}
use lib.Seq.{get_or-append-add}
use Rattle.laws.specs.Lists.{tab, concat}
use Rattle.laws.specs.Store.{store}
use Rattle.laws.proofs.Booleans.{bool_cases}
use Rattle.laws.proofs.Lists.{length_tab, concat_append, take_whole}
use Rattle.laws.proofs.Store.{store_none, store_same, store_append, store_hit, store_tab, length_store}
use Rattle.plan.specs.Words.{node_at, element}
use Rattle.plan.specs.Answers.{written}
use Rattle.rules.specs.Rules.{Derived, no_source}
use Rattle.verifier.specs.Check.{count_of, total_of}
use Rattle.cells.specs.Cells.{Cell, gap, Field}
use Rattle.cells.specs.Nodes.{eval_cell}
use Rattle.cells.proofs.Nodes.{node_count_lem, node_cell}
use Rattle.runner.specs.Run.{operands_of, node_field, fields_to, all_cells}
use Rattle.inputs.proofs.Sizes.{total_none, total_next}
use Rattle.running.specs.Running.{laid_to}

-- each element in turn
each_map : {A B : Type 0} (f : A → B) (xs : List A) (d : A) → map f xs ≡ tab (length xs) (λ (p : ℕ). f (get_or xs p d))
unfolding tab
each_map f [] d = refl
each_map f (x ∷ xs) d = rw (each_map f xs d) refl

-- ---- the total of the nodes before one

-- a node's cells end before those of a later one begin
pub total_more : (ds : List Derived) (j n : ℕ) → j < n → n ≤ length ds → total_of (take j ds) + count_of (get_or ds j no_source) ≤ total_of (take n ds)
total_more ds j zero h l = absurd (not-suc-le-zero h)
total_more ds j (suc n) h l =
    let next : total_of (take n ds) + count_of (get_or ds n no_source) ≡ total_of (take (suc n) ds) = rw add-one at (total_next ds n l) in
    ⊎_elim
    (λ (q : j ≡ n). rw (q, next) (omega arith))
    (λ (q : j < n). omega (arith, next, total_more ds j n q (omega arith)))
    (eq-or-lt_of_le (le_of_suc-le-suc h))

-- all of them together
pub total_whole : (ds : List Derived) (j : ℕ) → j < length ds → total_of (take j ds) + count_of (get_or ds j no_source) ≤ total_of ds
total_whole ds j h = subst (λ (k : ℕ). total_of (take j ds) + count_of (get_or ds j no_source) ≤ k) (ap total_of (take_whole (length ds) ds (omega arith))) (total_more ds j (length ds) h (omega arith))

-- ---- cells end to end

module _ (t : List ℤ) (ds : List Derived) (input : List Cell) where
  abbrev all_to : ℕ → List Cell
  all_to i = all_cells (fields_to t ds input i)

  -- the cells of node i, and their rule
  abbrev pub cells_at : ℕ → List Cell
  cells_at i = (node_field t ds input i (fields_to t ds input i)).cells

  pub cells_count : (i : ℕ) → length (cells_at i) ≡ count_of (get_or ds i no_source)
  unfolding node_field
  cells_count i = node_count_lem (node_at t i) (get_or ds i no_source).extents (operands_of t ds input i (fields_to t ds input i))

  cells_are : (i e : ℕ) → e < count_of (get_or ds i no_source)
      → get_or (cells_at i) e gap ≡ eval_cell (node_at t i) (get_or ds i no_source).extents (operands_of t ds input i (fields_to t ds input i)) (element e)
  unfolding node_field
  cells_are i e h = node_cell (node_at t i) (get_or ds i no_source).extents (operands_of t ds input i (fields_to t ds input i)) (element e) h

  -- one node more
  all_next : (i : ℕ) → all_cells (fields_to t ds input (suc i)) ≡ all_cells (fields_to t ds input i) ++ cells_at i
  unfolding all_cells fields_to concat
  all_next i =
      ap concat (map-append (λ (f : Field). f.cells) (fields_to t ds input i) (node_field t ds input i (fields_to t ds input i) ∷ []))
      ∙ concat_append (map (λ (f : Field). f.cells) (fields_to t ds input i)) (cells_at i ∷ [])
      ∙ rw append-nil refl

  -- as many as the nodes' total
  all_length : (i : ℕ) → i ≤ length ds → length (all_cells (fields_to t ds input i)) ≡ total_of (take i ds)
  unfolding all_cells fields_to concat
  all_length zero h = total_none ds
  all_length (suc i) h =
      let next : total_of (take i ds) + count_of (get_or ds i no_source) ≡ total_of (take (suc i) ds) = rw add-one at (total_next ds i h) in
      ap length (all_next i) ∙ length-append (all_to i) (cells_at i) ∙ rw (all_length i (omega arith), cells_count i) next

  -- those before node i, and its own
  all_before : (i p : ℕ) → i < length ds → p < total_of (take i ds) → get_or (all_cells (fields_to t ds input (suc i))) p gap ≡ get_or (all_cells (fields_to t ds input i)) p gap
  all_before i p l h = rw (all_next i) (get_or-append (all_to i) (cells_at i) gap p (rw (all_length i (omega arith)) h))

  all_own : (i e : ℕ) → i < length ds → get_or (all_cells (fields_to t ds input (suc i))) (total_of (take i ds) + e) gap ≡ get_or (cells_at i) e gap
  all_own i e l = rw (all_next i, ← all_length i (omega arith)) (get_or-append-add (all_to i) (cells_at i) e gap)

  -- cell e of node j
  cell_stands : (i j e : ℕ) → i ≤ length ds → j < i → e < count_of (get_or ds j no_source)
      → get_or (all_cells (fields_to t ds input i)) (total_of (take j ds) + e) gap ≡ get_or (cells_at j) e gap
  cell_stands zero j e l h q = absurd (not-suc-le-zero h)
  cell_stands (suc i) j e l h q =
      ⊎_elim
      (λ (k : j ≡ i). rw k (all_own i e l))
      (λ (k : j < i). all_before i (total_of (take j ds) + e) l (omega (arith, total_more ds j i k (omega arith))) ∙ cell_stands i j e (omega arith) k q)
      (eq-or-lt_of_le (le_of_suc-le-suc h))

  -- what holds of the cells of every node before i, and of a gap, holds at every place
  pub all_have : (P : Cell → Type 0) → P gap → (i : ℕ) → i ≤ length ds → ((j e : ℕ) → j < i → P (get_or (cells_at j) e gap)) → (p : ℕ) → P (get_or (all_cells (fields_to t ds input i)) p gap)
  unfolding all_cells fields_to concat
  all_have P none zero l h p = none
  all_have P none (suc i) l h p =
      bool_cases (ltb p (total_of (take i ds)))
      (λ q. subst P (sym (all_before i p l (ltb-true _ _ q))) (all_have P none i (omega arith) (λ j e k. h j e (omega arith)) p))
      (λ q.
      let past : total_of (take i ds) ≤ p = ltb-false _ _ q in
      let place : total_of (take i ds) + (p - total_of (take i ds)) ≡ p = omega arith in
      subst (λ (k : ℕ). P (get_or (all_to (suc i)) k gap)) place (subst P (sym (all_own i (p - total_of (take i ds)) l)) (h i (p - total_of (take i ds)) (omega arith))))

  -- ---- in the buffers

  module _ {A : Type 0} (f : Cell → A) (before : List A) where
    -- before the first node
    pub laid_none : before ≡ laid_to f t ds input 0 before
    laid_none = rw (← total_none ds) (store_none before 0 (λ (p : ℕ). f (get_or (all_cells (fields_to t ds input 0)) p gap)))

    pub laid_length : {m : List A} (i : ℕ) → m ≡ laid_to f t ds input i before → length m ≡ length before
    laid_length i e = ap length e ∙ length_store before 0 (total_of (take i ds)) _

    -- one node more, its cells after those before it
    pub laid_more : (m : List A) {end : List A} (i : ℕ) → i < length ds → m ≡ laid_to f t ds input i before
        → end ≡ store m (total_of (take i ds)) (count_of (get_or ds i no_source)) (λ (e : ℕ). f (eval_cell (node_at t i) (get_or ds i no_source).extents (operands_of t ds input i (fields_to t ds input i)) (element e)))
        → end ≡ laid_to f t ds input (i + 1) before
    laid_more m i l e q =
        let n = count_of (get_or ds i no_source) in
        let s = total_of (take i ds) in
        let g : ℕ → A = λ (p : ℕ). f (get_or (all_cells (fields_to t ds input (suc i))) p gap) in
        let front : m ≡ store before 0 s g = e ∙ store_same before 0 s _ g (λ k h. ap f (sym (all_before i k l h))) in
        let own = store_same m s n _ (λ (e : ℕ). g (s + e)) (λ k h. ap f (sym (all_own i k l ∙ cells_are i k h))) in
        let next : s + n ≡ total_of (take (suc i) ds) = rw add-one at (total_next ds i l) in
        let both : store (store before 0 s g) s n (λ (e : ℕ). g (s + e)) ≡ store before 0 (s + n) g = rw zero-add at (store_append before 0 s n g) in
        q ∙ own ∙ ap (λ (b : List A). store b s n (λ (e : ℕ). g (s + e))) front ∙ both ∙ rw (add-one, next) refl

    -- cell e of node j, read back
    pub laid_read : (m : List A) (d : A) (i j e : ℕ) → m ≡ laid_to f t ds input i before → i ≤ length ds → total_of (take i ds) ≤ length before → j < i → e < count_of (get_or ds j no_source)
        → get_or m (total_of (take j ds) + e) d ≡ f (get_or (cells_at j) e gap)
    laid_read m d i j e q l room h k =
        let inside : total_of (take j ds) + e < total_of (take i ds) = omega (arith, total_more ds j i h l) in
        let here = store_hit before m 0 (total_of (take i ds)) _ (total_of (take j ds) + e) d q inside (omega arith) in
        (rw zero-add at here) ∙ ap f (cell_stands i j e l h k)

    -- all nodes
    pub laid_all : {end : List A} (n : ℕ) → n ≡ length ds → total_of ds ≤ length before → end ≡ laid_to f t ds input n before
        → end ≡ written (map f (all_cells (fields_to t ds input (length ds)))) before
    unfolding written
    laid_all n q room e =
        let cs = all_cells (fields_to t ds input (length ds)) in
        let whole : take (length ds) ds ≡ ds = take_whole (length ds) ds (omega arith) in
        let size : total_of ds ≡ length cs = sym (all_length (length ds) (omega arith) ∙ ap total_of whole) in
        let stored : store before 0 (total_of ds) (λ (p : ℕ). f (get_or cs p gap)) ≡ written (map f cs) before = rw (size, store_tab before 0 (length cs) (λ (p : ℕ). f (get_or cs p gap)) (omega (arith, size)), zero-add, each_map f cs gap, length_tab) refl in
        (rw (q, whole) at e) ∙ stored
