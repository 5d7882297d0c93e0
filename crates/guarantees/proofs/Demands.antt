-- Demand 3: the statement's premises give those of the run's laws, and these give what it promises.
use Prim.Native.Nat.{ℕ, ◌+◌, ◌-◌, ◌<◌, ◌≤◌}
use mathlib.Core.Path.{◌≡◌, refl, ap, sym, ◌∙◌, subst}
use mathlib.Core.Bool.{true}
use mathlib.Core.Logic.{◌⊎◌, ⊎_elim}
use mathlib.Core.List.{List, [], ◌∷◌}
use native.Mathlib.Omega.{arith}
use borrow.Author.Tests.{ltb-true, ltb-false}
use lib.IntN.{ℤ, pos}
use lib.Dec.{ltb}
use lib.ListN.{length, get_or, get_or-eq_default}
use Rattle.laws.specs.Lists.{among, occurrences, last_or}
use Rattle.laws.proofs.Booleans.{bool_cases}
use Rattle.laws.proofs.Lists.{last_is}
use Rattle.plan.specs.declared.ElementNumber.{ElementNumber}
use Rattle.plan.specs.Operations.{PARAM, IDIV, MOD}
use Rattle.plan.specs.Types.{between, holds}
use Rattle.plan.specs.Words.{node_at, node_count, element}
use Rattle.plan.specs.Answers.{Outcome, accepted}
use Rattle.plan.proofs.ByOperation.{divides_reads}
use Rattle.bounds.proofs.Sound.{holding}
use Rattle.rules.specs.Rules.{Derived}
use Rattle.verifier.specs.Meets.{NodesMeet, PlanMeets}
use Rattle.verifier.proofs.Accepted.{accepted_meets}
use Rattle.verifier.proofs.Nodes.{source2_before}
use Rattle.verifier.proofs.Numbers.{Several, few_nodes}
use Rattle.cells.specs.Cells.{Field}
use Rattle.runner.specs.Inputs.{input_start, input_total, declared, input_limits, input_cells}
use Rattle.runner.specs.Run.{no_field, fields_of, run_answer, values_after, flags_after, value_of, flag_of, gap_count}
use Rattle.runner.proofs.Fields.{fields_length, field_count}
use Rattle.runner.proofs.Inputs.{Passes, limits_length, limits_at_lem, position_in, passed_tests, cell_bounded}
use Rattle.runner.proofs.Sound.{Fed, in_bounds, in_range, no_zero_divisor}
use Rattle.runner.proofs.Completes.{run_completes}
use Rattle.runner.proofs.Gaps.{gaps_hide}
use Rattle.guarantees.specs.Demand3.{Lent, ran, answer, values_then, flags_then, word, elements, elements_before, field_at, result_at, output, Proper, Completes, SafeDivisors, Safe, SameKnown, SameEnd, Demand3}
use Rattle.guarantees.proofs.Words.{size_is, as_count_lem, second_node, op_of, op_word, low_word, high_word}
use Rattle.guarantees.proofs.Acceptance.{whole}
use Rattle.guarantees.proofs.Buffers.{Counted, total_past, total_length, element_at_lem, node_part, gaps_counted, flags_counted}

divides : (t : List ℤ) (n : ℕ) → (word t n 0 ≡ pos IDIV) ⊎ (word t n 0 ≡ pos MOD) → among (node_at t n).op (IDIV ∷ MOD ∷ []) ≡ true
unfolding among
divides t n = ⊎_elim (λ e. rw (op_of t n IDIV e) refl) (λ e. rw (op_of t n MOD e) refl)

-- ---- one run

module _ (t : List ℤ) (ds : List Derived) (x : Lent) (h : Proper t ds x) where
  -- what acceptance gives
  plan : PlanMeets t ds
  plan = accepted_meets t ds h.accepts

  met : NodesMeet t (length ds) ds
  met = subst (λ (n : ℕ). NodesMeet t n ds) (sym plan.nodes.as_many) plan.nodes

  several : Several (node_count t)
  several = few_nodes t plan.length_right

  -- a known number of PARAM n lies in its limits, so its cell does
  limits : (n e : ℕ) → n < length ds → (node_at t n).op ≡ PARAM → e < elements ds n → get_or x.flags (input_start t ds n + e) 0 ≡ 1
      → holds (declared t n) (get_or x.values (input_start t ds n + e) (pos 0)) ≡ true
  limits n e l p q f =
      let w = h.in_limits n (element e) l (op_word t n PARAM p (omega arith)) q f in
      rw (low_word t n, high_word t n) (holding (between (word t n 7) (word t n 8)) _ (record { low = w.0; high = w.1 }))

  fed : Fed t ds (length ds) (input_cells x.values x.flags)
  fed n e l p q = cell_bounded (declared t n) x.values x.flags (input_start t ds n + e) (limits n e l p q)

  -- every position passes 15 and 16
  flag_right : (p : ℕ) → p < length x.flags → get_or x.flags p 0 ≤ 1
  flag_right p l = ⊎_elim (λ e. rw e (omega arith)) (λ e. rw e (omega arith)) (h.zero_or_one p l)

  passes_at : (p n e : ℕ) → p < input_total t ds → n < length ds → (node_at t n).op ≡ PARAM → e < elements ds n → p ≡ input_start t ds n + e
      → Passes (get_or (input_limits t ds) p (between (pos 0) (pos 0))) (get_or x.values p (pos 0)) (get_or x.flags p 0)
  passes_at p n e l m q k r =
      let here : get_or (input_limits t ds) p (between (pos 0) (pos 0)) ≡ declared t n = rw r (limits_at_lem t ds n e _ m q k) in
      record { flag_right = flag_right p (omega (arith, l, h.flags_length)); in_limits = rw (here, r) (limits n e m q k) }

  passes : (p : ℕ) → p < length (input_limits t ds) → Passes (get_or (input_limits t ds) p (between (pos 0) (pos 0))) (get_or x.values p (pos 0)) (get_or x.flags p 0)
  passes p l =
      let total : p < input_total t ds = rw limits_length at l in
      let w = position_in t ds (length ds) p total in
      passes_at p w.param w.element total w.before w.is_param w.inside w.place

  -- so none of 13 to 16 is due
  pub completed : ran t x ≡ accepted (fields_of t ds x.values x.flags)
  completed =
      let limits-long = limits_length t ds in
      run_completes t ds x.values x.flags (length x.value_buffer) (length x.flag_buffer) h.accepts (h.values_length ∙ sym limits-long) (h.flags_length ∙ sym limits-long) h.value_room h.flag_room
      (passed_tests (input_limits t ds) x.values x.flags passes)

  -- every field has its elements, and there is a last one
  counted : Counted (fields_of t ds x.values x.flags) ds
  counted =
      record {
        as_many = fields_length t ds (input_cells x.values x.flags) (length ds);
        each = field_count t ds (input_cells x.values x.flags) (length ds);
      }

  some_node : output ds < length ds
  some_node = omega (arith, several.0, plan.nodes.as_many)

  -- what stands at a place of node n
  value_at_lem : (n : ℕ) (e : ElementNumber) → n < length ds → e.0 < elements ds n → get_or (values_then t x) (elements_before ds n + e.0) (pos 0) ≡ value_of (result_at t ds x n e)
  value_at_lem n e l q = rw completed (element_at_lem (fields_of t ds x.values x.flags) ds counted value_of x.value_buffer n l e.0 q)

  flag_at : (n : ℕ) (e : ElementNumber) → n < length ds → e.0 < elements ds n → get_or (flags_then t x) (elements_before ds n + e.0) 0 ≡ flag_of (result_at t ds x n e)
  flag_at n e l q = rw completed (element_at_lem (fields_of t ds x.values x.flags) ds counted flag_of x.flag_buffer n l e.0 q)

  -- the answer's count
  gap_count_lem : (answer t x).count ≡ gap_count (field_at t ds x (output ds)).cells
  gap_count_lem =
      let fs = fields_of t ds x.values x.flags in
      let last : last_or no_field fs ≡ get_or fs (length fs - 1) no_field = last_is no_field fs (omega (arith, counted.as_many, some_node)) in
      rw completed (ap (λ (f : Field). gap_count f.cells) last ∙ rw counted.as_many refl)

  run_ends : Completes t ds x
  run_ends =
      let fs = fields_of t ds x.values x.flags in
      record {
        number = rw completed refl;
        place = rw completed refl;
        gaps = gap_count_lem ∙ gaps_counted (field_at t ds x (output ds)) (elements ds (output ds)) (counted.each (output ds) some_node);
        zero_flags = gap_count_lem
            ∙ flags_counted (field_at t ds x (output ds)).cells
            ∙ rw completed (ap (occurrences 0) (sym (node_part fs ds counted flag_of x.flag_buffer (output ds) some_node h.flag_room)));
        every_node = rw plan.nodes.as_many (sym (whole t plan.length_right).words);
        as_many = counted.as_many;
        output_there = some_node;
        known_written = λ n e z l q k. (value_at_lem n e l q ∙ ap value_of k, flag_at n e l q ∙ ap flag_of k);
        gap_written = λ n e l q k. (value_at_lem n e l q ∙ ap value_of k, flag_at n e l q ∙ ap flag_of k);
        values_past = rw completed (total_past fs ds counted value_of x.value_buffer);
        flags_past = rw completed (total_past fs ds counted flag_of x.flag_buffer);
        values_length = rw completed (total_length fs ds counted value_of x.value_buffer h.value_room);
        flags_length = rw completed (total_length fs ds counted flag_of x.flag_buffer h.flag_room);
      }

  -- node n
  module _ (n : ℕ) (l : n < length ds) where
    safe_divisors : (word t n 0 ≡ pos IDIV) ⊎ (word t n 0 ≡ pos MOD) → SafeDivisors t ds x n
    safe_divisors d =
        let a : among (node_at t n).op (IDIV ∷ MOD ∷ []) ≡ true = divides t n d in
        let s : (node_at t n).source2.0 < n = source2_before t n _ _ (met.each n l) (divides_reads (node_at t n) a) in
        record {
          second = (node_at t n).source2.0;
          is_second = size_is (word t n 2) (node_at t n).source2.0 (as_count_lem (word t n 2) ∙ sym (second_node t n)) (omega (arith, s, l, plan.nodes.as_many, several.1));
          earlier = s;
          not_zero = no_zero_divisor t (length ds) ds met (input_cells x.values x.flags) fed n l a;
        }

    node_safe : Safe t ds x n
    node_safe =
        let input = input_cells x.values x.flags in
        record {
          as_many = counted.each n l;
          divisors = safe_divisors;
          in_type = λ e z k. let w = in_range t (length ds) ds met input fed n l e z k in (w.low, w.high);
          in_bounds = λ e z k. let w = in_bounds t (length ds) ds met input fed n l e z k in (w.low, w.high);
        }

-- ---- two runs

-- past the flags none is 1, so no position is left out
known_everywhere : (flags : List ℕ) (values others : List ℤ) → ((p : ℕ) → p < length flags → get_or flags p 0 ≡ 1 → get_or values p (pos 0) ≡ get_or others p (pos 0)) → (p : ℕ) → get_or flags p 0 ≡ 1
    → get_or values p (pos 0) ≡ get_or others p (pos 0)
known_everywhere flags values others h p e =
    bool_cases (ltb p (length flags)) (λ l. h p (ltb-true _ _ l) e) (λ l. absurd (omega (arith, e, get_or-eq_default flags 0 (ltb-false _ _ l))))

module _ (t : List ℤ) (ds : List Derived) (x y : Lent) (g : Proper t ds x) (h : Proper t ds y) (same : SameKnown x y) where
  same_outcome : ran t x ≡ ran t y
  same_outcome =
      rw (← same.flags, ← same.value_buffers, ← same.flag_buffers)
      (gaps_hide t x.values y.values x.flags (length x.value_buffer) (length x.flag_buffer) (g.values_length ∙ sym h.values_length) (known_everywhere x.flags x.values y.values same.known_numbers))

  runs_same : SameEnd t x y
  runs_same =
      record {
        numbers = ap (λ (o : Outcome (List Field)). (run_answer o).number) same_outcome;
        places = ap (λ (o : Outcome (List Field)). (run_answer o).place) same_outcome;
        gap_counts = ap (λ (o : Outcome (List Field)). (run_answer o).count) same_outcome;
        value_buffers = ap (λ (o : Outcome (List Field)). values_after o x.value_buffer) same_outcome ∙ ap (values_after (ran t y)) same.value_buffers;
        flag_buffers = ap (λ (o : Outcome (List Field)). flags_after o x.flag_buffer) same_outcome ∙ ap (flags_after (ran t y)) same.flag_buffers;
      }

pub demand_3 : Demand3
demand_3 = record { completes = run_ends; safe = node_safe; blind = runs_same }
