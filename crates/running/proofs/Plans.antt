-- What the check and the scan have found of a plan and its input, as the run asks for it.
use Prim.Native.Nat.{ℕ, zero, suc, ◌+◌, ◌*◌, ◌/◌, ◌<◌, ◌≤◌}
use mathlib.Core.Path.{◌≡◌, sym, ◌∙◌, subst}
use mathlib.Core.Bool.{true}
use mathlib.Core.List.{List}
use native.Mathlib.Omega.{arith}
use lib.IntN.{ℤ, pos}
use lib.ListN.{length, get_or, take}
use Rattle.laws.proofs.Machine.{Small}
use Rattle.laws.proofs.Parts.{arithℤ}
use Rattle.plan.specs.declared.Interval.{Interval}
use Rattle.plan.specs.Operations.{PARAM}
use Rattle.plan.specs.Types.{between, contains, range_of}
use Rattle.plan.specs.Words.{node_at, element, node_count}
use Rattle.bounds.proofs.Sound.{In, wider}
use Rattle.rules.specs.declared.Record.{Record}
use Rattle.rules.specs.Rules.{Derived, no_source}
use Rattle.verifier.specs.Check.{count_of}
use Rattle.verifier.specs.Meets.{NodesMeet, PlanMeets}
use Rattle.verifier.proofs.Accepted.{accepted_meets}
use Rattle.verifier.proofs.Numbers.{few_nodes}
use Rattle.verifier.proofs.Nodes.{in_type, few_elements}
use Rattle.verifier.proofs.Ending.{right_length}
use Rattle.cells.specs.Cells.{Cell, known, gap}
use Rattle.cells.proofs.Sound.{Bounded}
use Rattle.runner.specs.Inputs.{input_start, input_limits, input_cells, declared}
use Rattle.runner.specs.Run.{fields_to, all_cells, value_of}
use Rattle.runner.proofs.Fields.{field_at}
use Rattle.runner.proofs.Inputs.{limits_length, limits_at_lem, start_more, tests_passed, cell_bounded}
use Rattle.runner.proofs.Sound as sound
use Rattle.inputs.specs.Nodes.{nodes_of, Limited}
use Rattle.inputs.proofs.Sizes.{nodes_length}
use Rattle.running.specs.Running.{Checked, Fed}
use Rattle.running.proofs.EndToEnd.{cells_at, all_have}

-- ---- small numbers

-- every type's numbers are of 32 bits
range_small : (dtype : ℕ) (z : ℤ) → In z (range_of dtype) → Small z
unfolding range_of
range_small zero z w = record { low = omega (arithℤ, w.low); high = omega (arithℤ, w.high) }
range_small (suc zero) z w = record { low = omega (arithℤ, w.low); high = omega (arithℤ, w.high) }
range_small (suc (suc zero)) z w = record { low = omega (arithℤ, w.low); high = omega (arithℤ, w.high) }
range_small (suc (suc (suc zero))) z w = record { low = omega (arithℤ, w.low); high = omega (arithℤ, w.high) }
range_small (suc (suc (suc (suc n)))) z w = record { low = omega (arithℤ, w.low); high = omega (arithℤ, w.high) }

small_zero : Small (pos 0)
small_zero = record { low = omega arithℤ; high = omega arithℤ }

bounded_small : (dtype : ℕ) (b : Interval) (c : Cell) → contains (range_of dtype) b ≡ true → Bounded b c → Small (value_of c)
bounded_small dtype b gap e w = small_zero
bounded_small dtype b (known z) e w = range_small dtype z (wider (range_of dtype) b z e w)

-- ---- the nodes

module _ (t : List ℤ) (records : List Record) (checked : Checked t records) where
  abbrev nodes : List Derived
  nodes = nodes_of records

  plan : PlanMeets t (nodes_of records)
  plan = accepted_meets t nodes checked.accepts

  pub as_many : length (nodes_of records) ≡ length records
  as_many = nodes_length records

  counted : node_count t ≡ length records
  counted = sym plan.nodes.as_many ∙ as_many

  pub nodes_meet : NodesMeet t (length records) (nodes_of records)
  nodes_meet = subst (λ (k : ℕ). NodesMeet t k nodes) counted plan.nodes

  pub table_long : 17 * length records ≤ length t
  unfolding node_count
  table_long = let c : length t / 17 ≡ length records = counted in rw (← c) (right_length t plan.length_right).0

  pub some_node : 0 < length records
  some_node = omega (arith, counted, (few_nodes t plan.length_right).0)

  pub limited : Limited (nodes_of records) (length records)
  limited i l = few_elements t i (take i nodes) (get_or nodes i no_source) (nodes_meet.each i l)

  -- ---- the input

  module _ (values : List ℤ) (flags : List ℕ) (fed : Fed t (nodes_of records) values flags) where
    -- the input of PARAM i lies before the end
    pub input_inside : (i : ℕ) → i < length records → (node_at t i).op ≡ PARAM → input_start t (nodes_of records) i + count_of (get_or (nodes_of records) i no_source) ≤ length (input_limits t (nodes_of records))
    input_inside i l q = rw (limits_length t nodes) (start_more t nodes i (length nodes) (omega (arith, as_many)) q)

    in_limits : sound.Fed t (nodes_of records) (length records) (input_cells values flags)
    in_limits i e l q h =
        let inside : input_start t nodes i + e < length (input_limits t nodes) = omega (arith, input_inside i l q) in
        let passes = tests_passed (input_limits t nodes) values flags fed.passed (input_start t nodes i + e) inside in
        let own = limits_at_lem t nodes i e (between (pos 0) (pos 0)) (omega (arith, as_many)) q h in
        cell_bounded (declared t i) values flags (input_start t nodes i + e) (rw own at passes.in_limits)

    cell_small : (j e : ℕ) → j < length records → Small (value_of (get_or (cells_at t (nodes_of records) (input_cells values flags) j) e gap))
    cell_small j e l =
        let d = get_or nodes j no_source in
        let b = sound.all_sound t (length records) nodes nodes_meet (input_cells values flags) in_limits j l (element e) in
        bounded_small d.dtype d.bounds (get_or (cells_at t nodes (input_cells values flags) j) e gap) (in_type t j (take j nodes) d (nodes_meet.each j l)) (rw (field_at t nodes (input_cells values flags) (length records) j l) at b)

    -- every number of the first i nodes is of 32 bits
    pub all_small : (i : ℕ) → i ≤ length records → (p : ℕ) → Small (value_of (get_or (all_cells (fields_to t (nodes_of records) (input_cells values flags) i)) p gap))
    all_small i l p =
        all_have t nodes (input_cells values flags) (λ (c : Cell). Small (value_of c)) small_zero i (omega (arith, as_many)) (λ j e k. cell_small j e (omega arith)) p
