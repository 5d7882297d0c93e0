-- The turn of node i where the cells of the nodes before it are laid: it can be run, and leaves its own cells after theirs.
use Prim.Native.Nat.{ℕ, ◌+◌, ◌<◌, ◌≤◌}
use mathlib.Core.Path.{◌≡◌, refl, sym, ◌∙◌, subst}
use mathlib.Core.Bool.{true}
use mathlib.Core.List.{List}
use native.Mathlib.Omega.{arith}
use native.Mathlib.Nat.{zero-add}
use lib.IntN.{ℤ, pos}
use lib.Dec.{eqb}
use lib.ListN.{length, get_or, take, drop}
use lib.Seq.{get_or-drop}
use Rattle.laws.proofs.Booleans.{cond_both}
use Rattle.laws.proofs.Lists.{get_or_tab}
use Rattle.laws.proofs.Machine.{Small}
use Rattle.laws.proofs.Store.{store_hit}
use Rattle.plan.specs.declared.NodeNumber.{NodeNumber}
use Rattle.plan.specs.Operations.{PARAM}
use Rattle.plan.specs.Words.{node_at, if_param, reads as readsSource}
use Rattle.rules.specs.declared.Record.{Record}
use Rattle.rules.specs.Rules.{Derived, no_source}
use Rattle.verifier.specs.Check.{count_of, total_of}
use Rattle.cells.specs.Cells.{Cell, gap}
use Rattle.cells.specs.Nodes.{Operands}
use Rattle.runner.specs.Inputs.{input_start, input_cell, input_cells}
use Rattle.runner.specs.Run.{field_of, operands_of, node_field, fields_to, value_of, flag_of}
use Rattle.runner.proofs.Fields.{field_at}
use Rattle.inputs.specs.Nodes.{nodes_of}
use Rattle.inputs.proofs.Sizes.{start_next}
use Rattle.evaluation.specs.Standing.{Source, Evaluates, Given}
use Rattle.running.specs.Running.{node_start, node_extents, laid_to, Checked, Fed, Places, SmallNode, Turning, NodeReads}
use Rattle.running.proofs.EndToEnd.{total_more, laid_more, laid_read, laid_length}
use Rattle.running.proofs.Plans.{as_many, limited, input_inside, all_small}
use Rattle.running.proofs.Turns.{sources_earlier_lem, own_room}

module _ (t : List ℤ) (records : List Record) (checked : Checked t records) (i : ℕ) (l : i < length records) where
  abbrev nodes : List Derived
  nodes = nodes_of records

  abbrev op : ℕ
  op = (node_at t i).op

  -- the input of the next node
  pub taken_few : {m : ℕ} → m ≡ if_param t i (count_of (get_or (nodes_of records) i no_source)) → m ≤ 1048576
  taken_few e = rw e (cond_both (λ (k : ℕ). k ≤ 1048576) (eqb op PARAM) _ 0 (λ b. limited t records checked i l) (λ b. omega arith))

  pub taken_next : {m from : ℕ} → m ≡ if_param t i (count_of (get_or (nodes_of records) i no_source)) → from ≡ input_start t (nodes_of records) i → from + m ≡ input_start t (nodes_of records) (i + 1)
  taken_next {m} e s = rw s (start_next t nodes i m e)

  module _ (values : List ℤ) (flags : List ℕ) (fed : Fed t (nodes_of records) values flags) (vs₀ : List ℤ) (fs₀ : List ℕ) (vs : List ℤ) (fs : List ℕ) (starts : List ℕ)
      (places : Places (nodes_of records) starts vs₀ fs₀) (laid-values : vs ≡ laid_to value_of t (nodes_of records) (input_cells values flags) i vs₀) (laid-flags : fs ≡ laid_to flag_of t (nodes_of records) (input_cells values flags) i fs₀)
      {from : ℕ} (begins : from ≡ input_start t (nodes_of records) i) where
    abbrev input : List Cell
    input = input_cells values flags

    abbrev operands : Operands
    operands = operands_of t (nodes_of records) (input_cells values flags) i (fields_to t (nodes_of records) (input_cells values flags) i)

    -- the numbers before its place, and those of an earlier node
    small_before : (p : ℕ) → p < total_of (take i (nodes_of records)) → Small (get_or vs p (pos 0))
    small_before p h =
        let inside : 0 + total_of (take i nodes) ≤ length vs₀ = omega (arith, own_room t records checked i l, places.value_room) in
        let here = store_hit vs₀ vs 0 (total_of (take i nodes)) _ p (pos 0) laid-values h inside in
        subst Small (sym (rw zero-add at here)) (all_small t records checked values flags fed i (omega arith) p)

    small_node : (j : ℕ) → j < i → SmallNode vs (nodes_of records) j
    small_node j h p low high = small_before p (omega (arith, total_more nodes j i h (omega (arith, as_many t records checked))))

    -- it can be run
    pub turning : Turning t records starts i values flags from vs fs
    turning =
        let earlier = sources_earlier_lem t records checked i l in
        record {
          checked = checked;
          inside = l;
          places =
              record {
                begin = places.begin;
                value_room = rw (laid_length t nodes input value_of vs₀ i laid-values) places.value_room;
                flag_room = rw (laid_length t nodes input flag_of fs₀ i laid-flags) places.flag_room;
              };
          small_first = λ u. small_node (node_at t i).source1.0 (earlier.0 u);
          small_second = λ u. small_node (node_at t i).source2.0 (earlier.1 u);
          values = λ p. rw (begins, fed.all_values) (input_inside t records checked values flags fed i l p);
          flags = λ p. rw (begins, fed.all_flags) (input_inside t records checked values flags fed i l p);
        }

    -- its sources stand in the buffers, and its input is that of a PARAM
    source_stands : (k : ℕ) (s : NodeNumber) → (readsSource (node_at t i) k ≡ true → s.0 < i) → readsSource (node_at t i) k ≡ true
        → Source vs fs (node_start (nodes_of records) s.0) (node_extents (nodes_of records) s.0) (field_of (fields_to t (nodes_of records) (input_cells values flags) i) (node_at t i) k s)
    unfolding field_of node_field
    source_stands k s earlier u =
        let few : i ≤ length nodes = omega (arith, as_many t records checked) in
        let own = own_room t records checked i l in
        rw (u, field_at t nodes input i s.0 (earlier u))
        (record {
          shape = refl;
          stands =
              record {
                values = λ e h. laid_read t nodes input value_of vs₀ vs (pos 0) i s.0 e laid-values few (omega (arith, own, places.value_room)) (earlier u) h;
                flags = λ e h. laid_read t nodes input flag_of fs₀ fs 0 i s.0 e laid-flags few (omega (arith, own, places.flag_room)) (earlier u) h;
              };
        })

    given : (node_at t i).op ≡ PARAM → Given values flags (input_start t (nodes_of records) i) (node_extents (nodes_of records) i) (drop (input_start t (nodes_of records) i) (input_cells values flags))
    unfolding input_cells
    given q e h =
        let inside : input_start t nodes i + e < length values = omega (arith, fed.all_values, input_inside t records checked values flags fed i l q) in
        get_or-drop (input_start t nodes i) (input_cells values flags) e gap ∙ get_or_tab (length values) (λ (p : ℕ). input_cell (get_or values p (pos 0)) (get_or flags p 0)) (input_start t nodes i + e) gap inside

    reads : NodeReads t (nodes_of records) i values flags from vs fs operands
    unfolding operands_of
    reads =
        let earlier = sources_earlier_lem t records checked i l in
        rw begins
        (record {
          first = source_stands 1 (node_at t i).source1 earlier.0;
          second = source_stands 2 (node_at t i).source2 earlier.1;
          third = source_stands 3 (node_at t i).source3 earlier.2;
          input = given;
        })

    -- what it leaves
    pub one_more : {vs' : List ℤ} {fs' : List ℕ}
        → ((o : Operands) → NodeReads t (nodes_of records) i values flags from vs fs o → Evaluates (node_at t i) (node_extents (nodes_of records) i) o vs fs (node_start (nodes_of records) i) vs' fs')
        → (vs' ≡ laid_to value_of t (nodes_of records) (input_cells values flags) (i + 1) vs₀) × (fs' ≡ laid_to flag_of t (nodes_of records) (input_cells values flags) (i + 1) fs₀)
    one_more leaves =
        let done = leaves operands reads in
        let few : i < length nodes = omega (arith, as_many t records checked) in (
          laid_more t nodes input value_of vs₀ vs i few laid-values done.values,
          laid_more t nodes input flag_of fs₀ fs i few laid-flags done.flags,
        )
