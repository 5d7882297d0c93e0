-- What each element of a node is.
use Prim.Native.Nat.{ℕ, zero, suc, ◌+◌, ◌*◌, ◌-◌, ◌/◌, ◌%◌, ◌<◌, ◌≤◌}
use mathlib.Core.Path.{◌≡◌, refl, ap, sym, ◌∙◌, subst}
use mathlib.Core.Bool.{true}
use mathlib.Core.Logic.{◌⊎◌, inl, inr, ⊎_elim}
use mathlib.Core.Option.{Option, none, some}
use mathlib.Core.List.{List, [], ◌∷◌, map}
use native.Mathlib.Omega.{arith}
use borrow.Author.Tests.{ltb-true, ltb-false, eqb-true, eqb-false, eq-eqb}
use lib.Arith.{digits_div, digits_mod}
use lib.Dec.{eqb, ltb}
use lib.IntN.{ℤ, pos, ◌+ℤ◌}
use lib.Signed.{◌≤ℤ◌, lt_z}
use lib.ListN.{length, get_or, take, length-map}
use lib.Seq.{get_or-drop}
use Rattle.laws.specs.Lists.{among}
use Rattle.laws.specs.Numbering.{count}
use Rattle.laws.specs.Integers.{same_z, max_z, floor_div, floor_mod}
use Rattle.laws.proofs.Booleans.{bool_cases}
use Rattle.laws.proofs.Extremes.{min_z_of, max_z_of, min_z_le_left, min_z_le_right, le_max_z_left, le_max_z_right}
use Rattle.laws.proofs.Floor.{floor_up, floor_down}
use Rattle.laws.proofs.Order.{same_is, is_same}
use Rattle.laws.proofs.Parts.{arithℤ, add_parts, lt_z_false, le_lt_z}
use Rattle.laws.proofs.Lists.{get_or_tab, get_or_map}
use Rattle.plan.specs.declared.Node.{Node}
use Rattle.plan.specs.declared.NodeNumber.{NodeNumber}
use Rattle.plan.specs.declared.ElementNumber.{ElementNumber}
use Rattle.plan.specs.Operations.{uses, followed, binaries, by_operation}
use Rattle.plan.specs.Words.{size_of, node_at, list_of, reads, element}
use Rattle.plan.specs.Answers.{accepted}
use Rattle.plan.proofs.ByOperation.{◌then◌, for_range, reads_low, reads_plain, stack_reads, followed_reads}
use Rattle.shapes.specs.Rules.{reduced, shapes_agree, result_extents}
use Rattle.shapes.specs.Sources.{source_element, broadcast_source, gathered}
use Rattle.shapes.specs.Coordinates.{Followed, NewCell}
use Rattle.shapes.proofs.Broadcast.{Spreads, binary_spreads, fill_spreads, where_spreads}
use Rattle.shapes.proofs.Coordinates.{followed_is, broadcast_from, source_none, source_from, gathers}
use Rattle.shapes.proofs.Stacking.{stack_second, stack_third, stack_extents, stacked_from}
use Rattle.rules.specs.Rules.{Derived, no_source, source_of}
use Rattle.rules.proofs.RowRule.{stack_rule}
use Rattle.verifier.specs.Check.{first, second, third, verdict}
use Rattle.verifier.proofs.Nodes.{permutation_row, rows_right_lem, shapes_agree_lem, extents_derived, source1_before, source2_before, source3_before, source_is}
use Rattle.cells.specs.Cells.{Cell, known, gap, Field, cell_at, cell_from, both, where_cell, fill_cell, known_cell, fold_cells, reduce_cells, binary, reduction}
use Rattle.cells.specs.Nodes.{Operands, cell_rules, broadcast_cell, eval_cell}
use Rattle.cells.proofs.Stacks.{first_cell, second_cell, third_cell}
use Rattle.runner.specs.Inputs.{input_start, input_total, input_cell, input_cells}
use Rattle.runner.specs.Run.{field_of, operands_of, fields_to}
use Rattle.runner.proofs.Fields.{field_cell, field_extents, source_field}
use Rattle.runner.proofs.Inputs.{start_more}
use Rattle.guarantees.specs.Demand3.{Lent, word, as_count, row_from, elements, field_at, result_at}
use Rattle.guarantees.specs.Values.{Floor, Gives, total, source_cell, Moved, from, new, Under, Computed, Chosen, Reduced, Overlaid, Tells, Stacked, EveryValue}
use Rattle.guarantees.proofs.Nodes.{rules, source_extents}
use Rattle.guarantees.proofs.Lookups.{followed_cell}
use Rattle.guarantees.proofs.Words.{size_is, op_of, first_node, second_node, third_node, number_word, row_a, row_b}
use Rattle.guarantees.proofs.RowWords.{size_below}

-- ---- the number that two known numbers give

gives : (o : ℕ) (x y : ℤ) → Gives o x y (binary o x y)
unfolding binary among floor_mod
gives o x y =
    record {
      add = λ q. rw q refl;
      mul = λ q. rw q refl;
      max = λ q. rw q (greater x y);
      quotient = λ q. rw q (floor x y);
      remainder = λ q. (floor_div x y, floor x y, rw q refl);
      less = λ q. rw q (
        λ l. bool_cases (lt_z x y) (λ e. rw e refl) (λ e. absurd (omega (arithℤ, l, lt_z_false x y e))),
        λ l. rw (le_lt_z l) refl,
      );
      differs = λ q. rw q (
        λ d. bool_cases (same_z x y) (λ e. absurd (d (same_is e))) (λ e. rw e refl),
        λ e. rw (e, is_same y) refl,
      );
      both = λ q. rw q (min_z_le_left x y, min_z_le_right x y, min_z_of (λ (z : ℤ). (z ≡ x) ⊎ (z ≡ y)) x y (inl refl) (inr refl));
      either = λ q. rw q (greater x y);
    }
  where
    greater : (x y : ℤ) → (x ≤ℤ max_z x y) × (y ≤ℤ max_z x y) × ((max_z x y ≡ x) ⊎ (max_z x y ≡ y))
    greater x y = (le_max_z_left x y, le_max_z_right x y, max_z_of (λ (z : ℤ). (z ≡ x) ⊎ (z ≡ y)) x y (inl refl) (inr refl))

    floor : (x y : ℤ) → Floor x y (floor_div x y)
    floor x y = (floor_up x y, floor_down x y)

-- ---- cells that are a gap or not

known_not_gap : {z : ℤ} → known z ≡ gap → ⊥
known_not_gap e = let z : ◌≡◌ {A = ℕ} 0 1 = cc in omega arith

-- two cells
module _ (f : ℤ → ℤ → ℤ) where
  both_gap : (a b : Cell) → (a ≡ gap) ⊎ (b ≡ gap) → both f a b ≡ gap
  both_gap gap b g = refl
  both_gap (known x) gap g = refl
  both_gap (known x) (known y) g = absurd (⊎_elim known_not_gap known_not_gap g)

  gap_both : (a b : Cell) → both f a b ≡ gap → (a ≡ gap) ⊎ (b ≡ gap)
  gap_both gap b g = inl refl
  gap_both (known x) gap g = inr refl
  gap_both (known x) (known y) g = absurd (known_not_gap g)

-- ---- cells that are folded

-- z with f 0, .., f (k - 1) taken in
unfoldable fold_up : (ℤ → ℤ → ℤ) → ℤ → (ℕ → ℤ) → ℕ → ℤ
fold_up op z f zero = z
fold_up op z f (suc k) = fold_up op (op z (f 0)) (λ (i : ℕ). f (suc i)) k

fold_known : (op : ℤ → ℤ → ℤ) (cs : List Cell) (z : ℤ) (f : ℕ → ℤ) → ((i : ℕ) → i < length cs → get_or cs i gap ≡ known (f i)) → fold_cells op (known z) cs ≡ known (fold_up op z f (length cs))
unfolding fold_cells fold_up
fold_known op [] z f h = refl
fold_known op (c ∷ cs) z f h = rw (h 0 (omega arith)) (fold_known op cs (op z (f 0)) (λ (i : ℕ). f (suc i)) (λ i l. h (suc i) (omega arith)))

sum_up : (z : ℤ) (f : ℕ → ℤ) (k : ℕ) → fold_up ◌+ℤ◌ z f k ≡ z +ℤ total f k
unfolding fold_up total
sum_up z f zero = omega (arithℤ, add_parts z (pos 0))
sum_up z f (suc k) =
    let rest = total (λ (i : ℕ). f (suc i)) k in
    sum_up (z +ℤ f 0) (λ (i : ℕ). f (suc i)) k ∙ omega (arithℤ, add_parts z (f 0), add_parts (z +ℤ f 0) rest, add_parts (f 0) rest, add_parts z (f 0 +ℤ rest))

-- z or one of f 0, .., f (k - 1), and none of them is greater
pub record Greatest (z : ℤ) (f : ℕ → ℤ) (k : ℕ) (m : ℤ) : Type 0 where
  pub one : (m ≡ z) ⊎ ((i : ℕ) × (i < k) × (m ≡ f i))
  pub start : z ≤ℤ m
  pub each : (j : ℕ) → j < k → f j ≤ℤ m

max_up : (z : ℤ) (f : ℕ → ℤ) (k : ℕ) → Greatest z f k (fold_up max_z z f k)
unfolding fold_up
max_up z f zero = record { one = inl refl; start = omega arithℤ; each = λ j l. absurd (omega arith) }
max_up z f (suc k) =
    let rest = max_up (max_z z (f 0)) (λ (i : ℕ). f (suc i)) k in
    record {
      one = ⊎_elim
          (λ e. ⊎_elim (λ a. inl (e ∙ a)) (λ a. inr (0, omega arith, e ∙ a)) (max_z_of (λ (w : ℤ). (w ≡ z) ⊎ (w ≡ f 0)) z (f 0) (inl refl) (inr refl)))
          (λ w. inr (suc w.0, omega (arith, w.1), w.2))
          rest.one;
      start = omega (arithℤ, rest.start, le_max_z_left z (f 0));
      each = λ j l. at j l rest.start rest.each;
    }
  where
    at : (j : ℕ) → j < suc k → max_z z (f 0) ≤ℤ fold_up max_z (max_z z (f 0)) (λ (i : ℕ). f (suc i)) k
        → ((i : ℕ) → i < k → f (suc i) ≤ℤ fold_up max_z (max_z z (f 0)) (λ (i : ℕ). f (suc i)) k) → f j ≤ℤ fold_up max_z (max_z z (f 0)) (λ (i : ℕ). f (suc i)) k
    at zero l s h = omega (arithℤ, s, le_max_z_right z (f 0))
    at (suc j) l s h = h j (omega arith)

fold_from_gap : (op : ℤ → ℤ → ℤ) (cs : List Cell) → fold_cells op gap cs ≡ gap
unfolding fold_cells
fold_from_gap op [] = refl
fold_from_gap op (c ∷ cs) = fold_from_gap op cs

fold_gap : (op : ℤ → ℤ → ℤ) (cs : List Cell) (c : Cell) (i : ℕ) → i < length cs → get_or cs i gap ≡ gap → fold_cells op c cs ≡ gap
unfolding fold_cells
fold_gap op [] c i l g = absurd (omega arith)
fold_gap op (d ∷ cs) c zero l g = rw (both_gap op c d (inr g)) (fold_from_gap op cs)
fold_gap op (d ∷ cs) c (suc i) l g = fold_gap op cs (both op c d) i (omega arith) g

gap_fold : (op : ℤ → ℤ → ℤ) (cs : List Cell) (c : Cell) → fold_cells op c cs ≡ gap → (c ≡ gap) ⊎ ((i : ℕ) × (i < length cs) × (get_or cs i gap ≡ gap))
unfolding fold_cells
gap_fold op [] c g = inl g
gap_fold op (d ∷ cs) c g =
    ⊎_elim
    (λ a. ⊎_elim (λ b. inl b) (λ b. inr (0, omega arith, b)) (gap_both op c d a))
    (λ w. inr (suc w.0, omega (arith, w.1), w.2))
    (gap_fold op cs (both op c d) g)

-- all of a list that is not empty
reduce_sum : (cs : List Cell) (f : ℕ → ℤ) → 0 < length cs → ((i : ℕ) → i < length cs → get_or cs i gap ≡ known (f i)) → reduce_cells ◌+ℤ◌ cs ≡ known (total f (length cs))
unfolding total
reduce_sum [] f s h = absurd (omega arith)
reduce_sum (c ∷ cs) f s h =
    rw (h 0 (omega arith)) (fold_known ◌+ℤ◌ cs (f 0) (λ (i : ℕ). f (suc i)) (λ i l. h (suc i) (omega arith)) ∙ ap known (sum_up (f 0) (λ (i : ℕ). f (suc i)) (length cs)))

reduce_max : (cs : List Cell) (f : ℕ → ℤ) → 0 < length cs → ((i : ℕ) → i < length cs → get_or cs i gap ≡ known (f i))
    → (i : ℕ) × (i < length cs) × (reduce_cells max_z cs ≡ known (f i)) × ((j : ℕ) → j < length cs → f j ≤ℤ f i)
reduce_max [] f s h = absurd (omega arith)
reduce_max (c ∷ cs) f s h =
    let found : reduce_cells max_z (c ∷ cs) ≡ known (fold_up max_z (f 0) (λ (i : ℕ). f (suc i)) (length cs)) = rw (h 0 (omega arith)) (fold_known max_z cs (f 0) (λ (i : ℕ). f (suc i)) (λ i l. h (suc i) (omega arith))) in
    let w = max_up (f 0) (λ (i : ℕ). f (suc i)) (length cs) in
    ⊎_elim
    (λ e. (0, omega arith, found ∙ ap known e, λ j l. rw (← e) (all (fold_up max_z (f 0) (λ (i : ℕ). f (suc i)) (length cs)) w j l)))
    (λ a. (suc a.0, omega (arith, a.1), found ∙ ap known a.2, λ j l. rw (← a.2) (all (fold_up max_z (f 0) (λ (i : ℕ). f (suc i)) (length cs)) w j l)))
    w.one
  where
    all : (m : ℤ) → Greatest (f 0) (λ (i : ℕ). f (suc i)) (length cs) m → (j : ℕ) → j < suc (length cs) → f j ≤ℤ m
    all m w zero l = w.start
    all m w (suc j) l = w.each j (omega arith)

reduce_gap : (op : ℤ → ℤ → ℤ) (cs : List Cell) (i : ℕ) → i < length cs → get_or cs i gap ≡ gap → reduce_cells op cs ≡ gap
reduce_gap op [] i l g = refl
reduce_gap op (c ∷ cs) zero l g = rw g (fold_from_gap op cs)
reduce_gap op (c ∷ cs) (suc i) l g = fold_gap op cs c i (omega arith) g

gap_reduce : (op : ℤ → ℤ → ℤ) (cs : List Cell) → 0 < length cs → reduce_cells op cs ≡ gap → (i : ℕ) × (i < length cs) × (get_or cs i gap ≡ gap)
gap_reduce op [] s g = absurd (omega arith)
gap_reduce op (c ∷ cs) s g =
    ⊎_elim (λ a. (0, omega arith, a)) (λ w. (suc w.0, omega (arith, w.1), w.2)) (gap_fold op cs c g)

-- ---- FILL

fill_gap : (a b : Cell) → fill_cell a b ≡ gap → (a ≡ gap) × (b ≡ gap)
fill_gap (known z) b g = absurd (known_not_gap g)
fill_gap gap b g = (refl, g)

-- ---- the row of an operation

module _ (x : Node) (r : List ℕ) (s : Operands) (e : ElementNumber) where
  computed_cell : 9 ≤ x.op → x.op ≤ 17 → eval_cell x r s e ≡ both (binary x.op) (broadcast_cell s.a r e) (broadcast_cell s.b r e)
  unfolding eval_cell among
  computed_cell low high =
      for_range (λ (k : ℕ). by_operation k (cell_rules x r s e) gap ≡ both (binary x.op) (broadcast_cell s.a r e) (broadcast_cell s.b r e)) x.op 9 9
      (refl then refl then refl then refl then refl then refl then refl then refl then refl then tt) low (omega arith)

-- ---- node n

module _ (t : List ℤ) (ds : List Derived) (x : Lent) (v : verdict t ≡ accepted ds) (n : ℕ) (h : n < length ds) where
  abbrev input : List Cell
  input = input_cells x.values x.flags

  abbrev op : ℕ
  op = (node_at t n).op

  abbrev operands : Operands
  operands = operands_of t ds (input_cells x.values x.flags) n (fields_to t ds (input_cells x.values x.flags) n)

  abbrev r : List ℕ
  r = (get_or ds n no_source).extents

  -- a source that the operation uses, with a word other than 3, is read
  one_read : (k : ℕ) → (k ≡ 3 → ⊥) → uses (node_at t n).op k ≡ true → reads (node_at t n) k ≡ true
  one_read k other u = reads_low (node_at t n) k other ∙ u

  -- source k, whose number s is word k: its record, its field and its extents
  module _ (k : ℕ) (s : NodeNumber) (used : reads (node_at t n) k ≡ true) (before : s.0 < n) where
    source_record : source_of (take n ds) (node_at t n) k s ≡ get_or ds s.0 no_source
    source_record = source_is ds n (node_at t n) k s used before

    the_field : field_of (fields_to t ds (input_cells x.values x.flags) n) (node_at t n) k s ≡ field_at t ds x s.0
    the_field = source_field t ds input (length ds) n (node_at t n) k s (omega arith) used before

    the_extents : (field_at t ds x s.0).extents ≡ (get_or ds s.0 no_source).extents
    the_extents = field_extents t ds input (length ds) s.0 (omega arith)

  module _ (e : ElementNumber) (l : e.0 < elements ds n) where
    here_is : result_at t ds x n e ≡ eval_cell (node_at t n) (get_or ds n no_source).extents (operands_of t ds (input_cells x.values x.flags) n (fields_to t ds (input_cells x.values x.flags) n)) e
    here_is = field_cell t ds input (length ds) n h e l

    -- CONST, PARAM, CAST
    is_constant : word t n 0 ≡ pos 0 → result_at t ds x n e ≡ known (word t n 5)
    unfolding eval_cell among
    is_constant q = here_is ∙ rw (op_of t n 0 q) (ap known (number_word t n))

    is_input : word t n 0 ≡ pos 1 → length x.values ≡ input_total t ds
        → result_at t ds x n e ≡ input_cell (get_or x.values (input_start t ds n + e.0) (pos 0)) (get_or x.flags (input_start t ds n + e.0) 0)
    unfolding eval_cell among operands_of input_cells
    is_input q m =
        let p = op_of t n 1 q in
        let there : input_start t ds n + e.0 < length x.values = omega (arith, m, l, start_more t ds n (length ds) h p) in
        here_is ∙ rw p (get_or-drop (input_start t ds n) input e.0 gap
        ∙ get_or_tab (length x.values) (λ (i : ℕ). input_cell (get_or x.values i (pos 0)) (get_or x.flags i 0)) (input_start t ds n + e.0) gap there)

    is_kept : word t n 0 ≡ pos 8 → result_at t ds x n e ≡ result_at t ds x (as_count (word t n 1)) e
    unfolding eval_cell among operands_of uses
    is_kept q =
        let p = op_of t n 8 q in
        let u = one_read 1 (λ y. absurd (omega (arith, y))) (rw p refl) in
        let s = source1_before t n (take n ds) _ (rules t ds v n h) u in
        let row : eval_cell (node_at t n) r operands e ≡ cell_at operands.a e = rw p refl in
        here_is ∙ row ∙ ap (λ (f : Field). cell_at f e) (the_field 1 (node_at t n).source1 u s) ∙ rw (first_node t n) refl

    -- ---- movement

    is_moved : (o : ℕ) → word t n 0 ≡ pos o → Followed o → Moved t ds x n e o
    unfolding operands_of
    is_moved o q followed-o =
        let p : op ≡ o = op_of t n o q in
        let f : among op followed ≡ true = rw p (followed_is followed-o) in
        let u = followed_reads (node_at t n) f in
        let s = source1_before t n (take n ds) _ (rules t ds v n h) u in
        let same = the_field 1 (node_at t n).source1 u s in
        let cell = here_is ∙ followed_cell (node_at t n) r operands e f ∙ ap (λ (g : Field). cell_from g (source_element (node_at t n) g.extents r e)) same in
        by o p f (node_at t n).source1.0 (first_node t n) (source_record 1 (node_at t n).source1 u s) (rw (the_extents 1 (node_at t n).source1 u s) at cell) (source_element (node_at t n) (get_or ds (node_at t n).source1.0 no_source).extents r e) refl
      where
        by : (o : ℕ) → (node_at t n).op ≡ o → among (node_at t n).op followed ≡ true → (m : ℕ) → m ≡ as_count (word t n 1) → first (node_at t n) (take n ds) ≡ get_or ds m no_source
            → result_at t ds x n e ≡ cell_from (field_at t ds x m) (source_element (node_at t n) (get_or ds m no_source).extents (get_or ds n no_source).extents e)
            → (found : Option ElementNumber) → source_element (node_at t n) (get_or ds m no_source).extents (get_or ds n no_source).extents e ≡ found → Moved t ds x n e o
        by o p f m w same cell none z =
            let c = source_none (node_at t n) _ _ e f z in
            let there = subst (λ (row : List ℕ). NewCell (get_or ds m no_source).extents (get_or ds n no_source).extents row e.0) (row_b t n) c.1 in
            new (sym p ∙ c.0) (subst (λ (i : ℕ). NewCell (get_or ds i no_source).extents (get_or ds n no_source).extents (row_from t n 13) e.0) w there) (cell ∙ rw z refl)
        by o p f m w same cell (some c) z =
            from c
            (rw (p, row_a t n, row_b t n, w) at
            (source_from (node_at t n) (get_or ds m no_source).extents _ _ (get_or ds n no_source).extents e
            (rw same at (shapes_agree_lem t n (take n ds) _ (rules t ds v n h))) (rw same at (extents_derived t n (take n ds) _ (rules t ds v n h))) (rw same at (permutation_row t n (take n ds) _ (rules t ds v n h))) l f c z))
            (cell ∙ rw (z, w) refl)

    -- ---- operands that are broadcast

    -- the element of a source that is read, and its cell
    module _ (k : ℕ) (s : NodeNumber) (used : reads (node_at t n) k ≡ true) (before : s.0 < n) (w : s.0 ≡ as_count (word t n k))
        (spreads : Spreads (source_of (take n ds) (node_at t n) k s).extents (get_or ds n no_source).extents) where
      read_under : Under t ds x n e k (broadcast_source (get_or ds s.0 no_source).extents (get_or ds n no_source).extents e)
      read_under =
          let at = broadcast_from (rw (source_record k s used before) at spreads) e l in
          record { inside = rw (← w) at.0; aligned = rw (← w) at.1 }

      read_cell : broadcast_cell (field_of (fields_to t ds (input_cells x.values x.flags) n) (node_at t n) k s) (get_or ds n no_source).extents e
          ≡ source_cell t ds x n e k (broadcast_source (get_or ds s.0 no_source).extents (get_or ds n no_source).extents e)
      read_cell = rw (the_field k s used before, the_extents k s used before, w) refl

    -- two of them: their elements and cells
    module _ (u1 : reads (node_at t n) 1 ≡ true) (u2 : reads (node_at t n) 2 ≡ true)
        (spread : Spreads (first (node_at t n) (take n ds)).extents (result_extents (node_at t n) (first (node_at t n) (take n ds)).extents (second (node_at t n) (take n ds)).extents (third (node_at t n) (take n ds)).extents) × Spreads (second (node_at t n) (take n ds)).extents (result_extents (node_at t n) (first (node_at t n) (take n ds)).extents (second (node_at t n) (take n ds)).extents (third (node_at t n) (take n ds)).extents)) where
      s1 : (node_at t n).source1.0 < n
      s1 = source1_before t n (take n ds) _ (rules t ds v n h) u1

      s2 : (node_at t n).source2.0 < n
      s2 = source2_before t n (take n ds) _ (rules t ds v n h) u2

      shape : (get_or ds n no_source).extents ≡ result_extents (node_at t n) (first (node_at t n) (take n ds)).extents (second (node_at t n) (take n ds)).extents (third (node_at t n) (take n ds)).extents
      shape = extents_derived t n (take n ds) (get_or ds n no_source) (rules t ds v n h)

      first_under : Under t ds x n e 1 (broadcast_source (get_or ds (node_at t n).source1.0 no_source).extents (get_or ds n no_source).extents e)
      first_under = read_under 1 (node_at t n).source1 u1 s1 (first_node t n) (rw (← shape) at spread.0)

      second_under : Under t ds x n e 2 (broadcast_source (get_or ds (node_at t n).source2.0 no_source).extents (get_or ds n no_source).extents e)
      second_under = read_under 2 (node_at t n).source2 u2 s2 (second_node t n) (rw (← shape) at spread.1)

      two_cells : (f : Cell → Cell → Cell) → eval_cell (node_at t n) (get_or ds n no_source).extents (operands_of t ds (input_cells x.values x.flags) n (fields_to t ds (input_cells x.values x.flags) n)) e
          ≡ f (broadcast_cell (operands_of t ds (input_cells x.values x.flags) n (fields_to t ds (input_cells x.values x.flags) n)).a (get_or ds n no_source).extents e) (broadcast_cell (operands_of t ds (input_cells x.values x.flags) n (fields_to t ds (input_cells x.values x.flags) n)).b (get_or ds n no_source).extents e)
          → result_at t ds x n e ≡ f (source_cell t ds x n e 1 (broadcast_source (get_or ds (node_at t n).source1.0 no_source).extents (get_or ds n no_source).extents e)) (source_cell t ds x n e 2 (broadcast_source (get_or ds (node_at t n).source2.0 no_source).extents (get_or ds n no_source).extents e))
      unfolding operands_of
      two_cells f row =
          here_is ∙ row
          ∙ rw (read_cell 1 (node_at t n).source1 u1 s1 (first_node t n) (rw (← shape) at spread.0), read_cell 2 (node_at t n).source2 u2 s2 (second_node t n) (rw (← shape) at spread.1)) refl

    module _ (o : ℕ) (q : word t n 0 ≡ pos o) (low : 9 ≤ o) (high : o ≤ 17) where
      used_both : (uses (node_at t n).op 1 ≡ true) × (uses (node_at t n).op 2 ≡ true) × (among (node_at t n).op binaries ≡ true)
      unfolding uses among
      used_both =
          rw (op_of t n o q)
          (for_range (λ (k : ℕ). (uses k 1 ≡ true) × (uses k 2 ≡ true) × (among k binaries ≡ true)) o 9 9
          ((refl, refl, refl) then (refl, refl, refl) then (refl, refl, refl) then (refl, refl, refl) then (refl, refl, refl) then (refl, refl, refl) then (refl, refl, refl) then (refl, refl, refl) then (refl, refl, refl) then tt)
          low (omega arith))

      is_computed : Computed t ds x n e o
      is_computed =
          let p : op ≡ o = op_of t n o q in
          let u1 = one_read 1 (λ y. absurd (omega (arith, y))) used_both.0 in
          let u2 = one_read 2 (λ y. absurd (omega (arith, y))) used_both.1 in
          let spread = binary_spreads (node_at t n) _ _ (third (node_at t n) (take n ds)).extents (source_extents t ds v n h 1 (node_at t n).source1).positive (source_extents t ds v n h 2 (node_at t n).source2).positive (shapes_agree_lem t n (take n ds) _ (rules t ds v n h)) used_both.2 in
          let cell = two_cells u1 u2 spread (both (binary o)) (computed_cell (node_at t n) r operands e (rw p low) (rw p high) ∙ ap (λ (k : ℕ). both (binary k) (broadcast_cell operands.a r e) (broadcast_cell operands.b r e)) p) in
          record {
            first = broadcast_source (get_or ds (node_at t n).source1.0 no_source).extents r e;
            second = broadcast_source (get_or ds (node_at t n).source2.0 no_source).extents r e;
            under_first = first_under u1 u2 spread;
            under_second = second_under u1 u2 spread;
            number = λ u w ku kw. (binary o u w, cell ∙ rw (ku, kw) refl, gives o u w);
            if_gap = λ g. cell ∙ both_gap (binary o) _ _ g;
            only_gap = λ g. gap_both (binary o) _ _ (sym cell ∙ g);
          }

    -- FILL
    is_overlaid : word t n 0 ≡ pos 21 → Overlaid t ds x n e
    unfolding eval_cell among uses
    is_overlaid q =
        let p : op ≡ 21 = op_of t n 21 q in
        let u1 = one_read 1 (λ y. absurd (omega (arith, y))) (rw p refl) in
        let u2 = one_read 2 (λ y. absurd (omega (arith, y))) (rw p refl) in
        let spread = fill_spreads (node_at t n) _ _ (third (node_at t n) (take n ds)).extents (source_extents t ds v n h 1 (node_at t n).source1).positive (source_extents t ds v n h 2 (node_at t n).source2).positive (shapes_agree_lem t n (take n ds) _ (rules t ds v n h)) p in
        let cell = two_cells u1 u2 spread fill_cell (rw p refl) in
        record {
          first = broadcast_source (get_or ds (node_at t n).source1.0 no_source).extents r e;
          second = broadcast_source (get_or ds (node_at t n).source2.0 no_source).extents r e;
          under_first = first_under u1 u2 spread;
          under_second = second_under u1 u2 spread;
          if_known = λ u k. cell ∙ rw k refl;
          if_gap = λ k. cell ∙ rw k refl;
          only_gap = λ g. fill_gap _ _ (sym cell ∙ g);
        }

    -- KNOWN
    is_told : word t n 0 ≡ pos 22 → Tells t ds x n e
    unfolding eval_cell among operands_of uses
    is_told q =
        let p = op_of t n 22 q in
        let u = one_read 1 (λ y. absurd (omega (arith, y))) (rw p refl) in
        let s = source1_before t n (take n ds) _ (rules t ds v n h) u in
        let row : eval_cell (node_at t n) r operands e ≡ known_cell (cell_at operands.a e) = rw p refl in
        let cell : result_at t ds x n e ≡ known_cell (source_cell t ds x n e 1 e) = here_is ∙ row ∙ ap (λ (f : Field). known_cell (cell_at f e)) (the_field 1 (node_at t n).source1 u s) ∙ rw (first_node t n) refl in
        record { if_known = λ z k. cell ∙ rw k refl; if_gap = λ k. cell ∙ rw k refl }

    -- ---- STACK

    module _ (q : word t n 0 ≡ pos 23) where
      abbrev E : List ℕ
      E = (get_or ds (node_at t n).source1.0 no_source).extents

      is_stack : (node_at t n).op ≡ 23
      is_stack = op_of t n 23 q

      both_read : (reads (node_at t n) 1 ≡ true) × (reads (node_at t n) 2 ≡ true)
      unfolding uses among
      both_read = (one_read 1 (λ y. absurd (omega (arith, y))) (rw is_stack refl), one_read 2 (λ y. absurd (omega (arith, y))) (rw is_stack refl))

      first_before : (node_at t n).source1.0 < n
      first_before = source1_before t n (take n ds) _ (rules t ds v n h) both_read.0

      second_before : (node_at t n).source2.0 < n
      second_before = source2_before t n (take n ds) _ (rules t ds v n h) both_read.1

      first_extents : (first (node_at t n) (take n ds)).extents ≡ (get_or ds (node_at t n).source1.0 no_source).extents
      first_extents = ap (λ (d : Derived). d.extents) (source_record 1 (node_at t n).source1 both_read.0 first_before)

      agree : shapes_agree (node_at t n) (first (node_at t n) (take n ds)).extents (second (node_at t n) (take n ds)).extents (third (node_at t n) (take n ds)).extents ≡ true
      agree = shapes_agree_lem t n (take n ds) _ (rules t ds v n h)

      -- its shape, and how many sources it has
      stack_shape : (get_or ds n no_source).extents ≡ size_of (node_at t n).number ∷ (get_or ds (node_at t n).source1.0 no_source).extents
      stack_shape = extents_derived t n (take n ds) (get_or ds n no_source) (rules t ds v n h) ∙ stack_extents (node_at t n) _ _ _ is_stack ∙ ap (λ (s : List ℕ). size_of (node_at t n).number ∷ s) first_extents

      sources : (2 ≤ size_of (node_at t n).number) × (size_of (node_at t n).number ≤ 3)
      sources = stack_rule (node_at t n) _ _ (rows_right_lem t n (take n ds) (get_or ds n no_source) (rules t ds v n h)) is_stack

      below_all : e.0 < size_of (node_at t n).number * count (get_or ds (node_at t n).source1.0 no_source).extents
      unfolding count
      below_all = rw stack_shape at l

      as_many : count (operands_of t ds (input_cells x.values x.flags) n (fields_to t ds (input_cells x.values x.flags) n)).a.extents ≡ count (get_or ds (node_at t n).source1.0 no_source).extents
      unfolding operands_of
      as_many = ap (λ (f : Field). count f.extents) (the_field 1 (node_at t n).source1 both_read.0 first_before) ∙ ap count (the_extents 1 (node_at t n).source1 both_read.0 first_before)

      -- element c of the source whose turn it is, which word 1 + turn names
      in_turn_lem : (turn c : ℕ) → e.0 ≡ turn * count (get_or ds (node_at t n).source1.0 no_source).extents + c → c < count (get_or ds (node_at t n).source1.0 no_source).extents → turn < size_of (node_at t n).number
          → (get_or ds (as_count (word t n (1 + turn))) no_source).extents ≡ (get_or ds (node_at t n).source1.0 no_source).extents
          → result_at t ds x n e ≡ result_at t ds x (as_count (word t n (1 + turn))) (element c) → Stacked t ds x n e
      unfolding size_of
      in_turn_lem turn c is small has same cell =
          let quotient : e.0 / count E ≡ turn = rw is (digits_div turn small) in
          let rest : e.0 % count E ≡ c = rw is (digits_mod turn small) in
          record {
            turn = turn;
            of = element c;
            has_turn = rw (size_is (word t n 5) (size_of (node_at t n).number) (ap size_of (sym (number_word t n))) (omega (arith, sources.1))) (size_below (pos turn) (size_of (node_at t n).number) (omega (arith, sources.1)) has).1;
            inside = rw same small;
            aligned = rw (same, stack_shape) (rw (quotient, rest) at (stacked_from (size_of (node_at t n).number) E e.0));
            same = cell;
          }

      -- the cell of a source, where its turn is
      of_source : (k c : ℕ) (s : NodeNumber) → reads (node_at t n) k ≡ true → s.0 < n → s.0 ≡ as_count (word t n k)
          → eval_cell (node_at t n) (get_or ds n no_source).extents (operands_of t ds (input_cells x.values x.flags) n (fields_to t ds (input_cells x.values x.flags) n)) e ≡ get_or (field_of (fields_to t ds (input_cells x.values x.flags) n) (node_at t n) k s).cells c gap
          → result_at t ds x n e ≡ result_at t ds x (as_count (word t n k)) (element c)
      of_source k c s u before w row = here_is ∙ row ∙ ap (λ (f : Field). get_or f.cells c gap) (the_field k s u before) ∙ rw w refl

      same_extents : (k : ℕ) (s : NodeNumber) → reads (node_at t n) k ≡ true → s.0 < n → s.0 ≡ as_count (word t n k) → (source_of (take n ds) (node_at t n) k s).extents ≡ (first (node_at t n) (take n ds)).extents
          → (get_or ds (as_count (word t n k)) no_source).extents ≡ (get_or ds (node_at t n).source1.0 no_source).extents
      same_extents k s u before w e = rw (← w) (ap (λ (d : Derived). d.extents) (sym (source_record k s u before)) ∙ e ∙ first_extents)

      is_stacked : Stacked t ds x n e
      unfolding operands_of
      is_stacked =
          bool_cases (ltb e.0 (count E))
          (λ b.
          let small : e.0 < count E = ltb-true e.0 (count E) b in
          in_turn_lem 0 e.0 (omega arith) small (omega (arith, sources.0)) (rw (← first_node t n) refl)
          (of_source 1 e.0 (node_at t n).source1 both_read.0 first_before (first_node t n) (first_cell (node_at t n) r operands is_stack as_many e.0 small)))
          (λ b.
          let past : count E ≤ e.0 = ltb-false e.0 (count E) b in
          bool_cases (ltb e.0 (count E + count E))
          (λ d.
          let c = e.0 - count E in
          let small : c < count E = omega (arith, ltb-true e.0 (count E + count E) d) in
          let at : count E + c ≡ e.0 = omega arith in
          in_turn_lem 1 c (omega arith) small (omega (arith, sources.0)) (same_extents 2 (node_at t n).source2 both_read.1 second_before (second_node t n) (stack_second (node_at t n) _ _ _ is_stack agree))
          (of_source 2 c (node_at t n).source2 both_read.1 second_before (second_node t n) (rw at at (second_cell (node_at t n) r operands is_stack as_many c small))))
          (λ d.
          let over : count E + count E ≤ e.0 = ltb-false e.0 (count E + count E) d in
          let c = e.0 - count E - count E in
          let three : size_of (node_at t n).number ≡ 3 = of_three over in
          let u3 : reads (node_at t n) 3 ≡ true = stack_reads (node_at t n) is_stack ∙ eq-eqb _ 3 three in
          let s3 = source3_before t n (take n ds) _ (rules t ds v n h) u3 in
          let small : c < count E = omega (arith, rw three at below_all) in
          let at : count E + count E + c ≡ e.0 = omega arith in
          in_turn_lem 2 c (omega arith) small (omega (arith, three)) (same_extents 3 (node_at t n).source3 u3 s3 (third_node t n) (stack_third (node_at t n) _ _ _ is_stack agree u3))
          (of_source 3 c (node_at t n).source3 u3 s3 (third_node t n) (rw at at (third_cell (node_at t n) r operands is_stack as_many c small)))))
        where
          of_three : count E + count E ≤ e.0 → size_of (node_at t n).number ≡ 3
          of_three over =
              bool_cases (eqb (size_of (node_at t n).number) 3) (eqb-true _ 3)
              (λ b.
              let other = eqb-false (size_of (node_at t n).number) 3 b in
              let two : size_of (node_at t n).number ≡ 2 = omega (arith, sources.0, sources.1, other) in
              absurd (omega (arith, over, rw two at below_all)))

    is_chosen : word t n 0 ≡ pos 18 → Chosen t ds x n e
    unfolding operands_of eval_cell among uses
    is_chosen q =
        let p : op ≡ 18 = op_of t n 18 q in
        let u1 = one_read 1 (λ y. absurd (omega (arith, y))) (rw p refl) in
        let u2 = one_read 2 (λ y. absurd (omega (arith, y))) (rw p refl) in
        let u3 : reads (node_at t n) 3 ≡ true = reads_plain (node_at t n) 3 (λ y. absurd (omega (arith, p, y))) ∙ rw p refl in
        let s1 = source1_before t n (take n ds) _ (rules t ds v n h) u1 in
        let s2 = source2_before t n (take n ds) _ (rules t ds v n h) u2 in
        let s3 = source3_before t n (take n ds) _ (rules t ds v n h) u3 in
        let spread = where_spreads (node_at t n) _ _ _ (source_extents t ds v n h 1 (node_at t n).source1).positive (source_extents t ds v n h 2 (node_at t n).source2).positive (shapes_agree_lem t n (take n ds) _ (rules t ds v n h)) (source_extents t ds v n h 3 (node_at t n).source3).positive p in
        let shape = extents_derived t n (take n ds) (get_or ds n no_source) (rules t ds v n h) in
        let f1 = rw (← shape) at spread.0 in
        let f2 = rw (← shape) at spread.1 in
        let f3 = rw (← shape) at spread.2 in
        let a = read_cell 1 (node_at t n).source1 u1 s1 (first_node t n) f1 in
        let b = read_cell 2 (node_at t n).source2 u2 s2 (second_node t n) f2 in
        let c = read_cell 3 (node_at t n).source3 u3 s3 (third_node t n) f3 in
        let row : eval_cell (node_at t n) r operands e ≡ where_cell (broadcast_cell operands.a r e) (broadcast_cell operands.b r e) (broadcast_cell operands.c r e) = rw p refl in
        let m1 = broadcast_source (get_or ds (node_at t n).source1.0 no_source).extents r e in
        let m2 = broadcast_source (get_or ds (node_at t n).source2.0 no_source).extents r e in
        let m3 = broadcast_source (get_or ds (node_at t n).source3.0 no_source).extents r e in
        let cell : result_at t ds x n e ≡ where_cell (source_cell t ds x n e 1 m1) (source_cell t ds x n e 2 m2) (source_cell t ds x n e 3 m3) = here_is ∙ row ∙ rw (a, b, c) refl in
        record {
          first = m1;
          second = m2;
          third = m3;
          under_first = read_under 1 (node_at t n).source1 u1 s1 (first_node t n) f1;
          under_second = read_under 2 (node_at t n).source2 u2 s2 (second_node t n) f2;
          under_third = read_under 3 (node_at t n).source3 u3 s3 (third_node t n) f3;
          if_not_zero = λ u k z. cell ∙ rw k (bool_cases (same_z u (pos 0)) (λ w. absurd (z (same_is w))) (λ w. rw w refl));
          if_zero = λ k. cell ∙ rw k refl;
          if_gap = λ k. cell ∙ rw k refl;
        }

    -- ---- REDUCE

    adds : word t n 5 ≡ pos 0 → reduction (node_at t n).number ≡ ◌+ℤ◌
    unfolding reduction size_of
    adds z = rw (number_word t n, z) refl

    greatest : word t n 5 ≡ pos 1 → reduction (node_at t n).number ≡ max_z
    unfolding reduction size_of
    greatest z = rw (number_word t n, z) refl

    is_reduced : word t n 0 ≡ pos 19 → Reduced t ds x n e
    unfolding operands_of eval_cell result_extents among uses
    is_reduced q =
        let p : op ≡ 19 = op_of t n 19 q in
        let u = one_read 1 (λ y. absurd (omega (arith, y))) (rw p refl) in
        let s = source1_before t n (take n ds) _ (rules t ds v n h) u in
        let same = source_record 1 (node_at t n).source1 u s in
        let E = (get_or ds (node_at t n).source1.0 no_source).extents in
        let flags = list_of (node_at t n).rowa in
        let os = gathered E flags e in
        let shape : r ≡ reduced E flags = extents_derived t n (take n ds) (get_or ds n no_source) (rules t ds v n h) ∙ rw (p, ap (λ (d : Derived). d.extents) (rw p at same)) refl in
        let positive = (rw same at (source_extents t ds v n h 1 (node_at t n).source1)).positive in
        let which = gathers E flags e (rw shape at l) positive in
        let field = the_field 1 (node_at t n).source1 u s in
        let cs = map (cell_at (field_at t ds x (node_at t n).source1.0)) os in
        let many : length cs ≡ length os = length-map os (cell_at (field_at t ds x (node_at t n).source1.0)) in
        let at : (i : ℕ) → i < length os → get_or cs i gap ≡ source_cell t ds x n e 1 (get_or os i (element 0)) = λ i g. get_or_map (cell_at (field_at t ds x (node_at t n).source1.0)) os i gap (element 0) g ∙ rw (first_node t n) refl in
        let row : eval_cell (node_at t n) r operands e ≡ reduce_cells (reduction (node_at t n).number) (map (cell_at operands.a) (gathered operands.a.extents flags e)) = rw p refl in
        let cell : result_at t ds x n e ≡ reduce_cells (reduction (node_at t n).number) cs = here_is ∙ row ∙ rw (field, the_extents 1 (node_at t n).source1 u s) refl in
        record {
          gathered = os;
          which = rw (shape, ← first_node t n, ← row_a t n) which;
          sum = λ z f k. cell ∙ ap (λ (g : ℤ → ℤ → ℤ). reduce_cells g cs) (adds z) ∙ (rw (← many) (reduce_sum cs f (omega (arith, many, which.never_empty)) (λ i g. at i (omega (arith, many)) ∙ k i (omega (arith, many)))));
          max = λ z f k.
              let w = reduce_max cs f (omega (arith, many, which.never_empty)) (λ i g. at i (omega (arith, many)) ∙ k i (omega (arith, many))) in
              (w.0, omega (arith, many, w.1), cell ∙ ap (λ (g : ℤ → ℤ → ℤ). reduce_cells g cs) (greatest z) ∙ w.2, λ j g. w.3 j (omega (arith, many)));
          if_gap = λ i g k. cell ∙ reduce_gap _ cs i (omega (arith, many)) (at i g ∙ k);
          only_gap = λ k. let w = gap_reduce _ cs (omega (arith, many, which.never_empty)) (sym cell ∙ k) in (w.0, omega (arith, many, w.1), sym (at w.0 (omega (arith, many, w.1))) ∙ w.2);
        }

pub every_value : EveryValue
unfolding input_cell
every_value t ds x n e v m h l =
    record {
      constant = is_constant t ds x v n h e l;
      given = λ q f. is_input t ds x v n h e l q m ∙ rw f refl;
      missing = λ q f. is_input t ds x v n h e l q m ∙ rw f refl;
      moved = is_moved t ds x v n h e l;
      kept = is_kept t ds x v n h e l;
      computed = is_computed t ds x v n h e l;
      chosen = is_chosen t ds x v n h e l;
      reduced = is_reduced t ds x v n h e l;
      overlaid = is_overlaid t ds x v n h e l;
      tells = is_told t ds x v n h e l;
      stacked = is_stacked t ds x v n h e l;
    }
