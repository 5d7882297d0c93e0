-- The nodes of an accepted plan as the code runs them, one after another into the result buffers.
use Rattle.std.specs.Prelude.{ℕ, ◌+◌, ◌<◌, ◌≤◌, ◌≡◌, true, List, ℤ, length, get_or, take, Result}
use Rattle.laws.specs.Store.{store}
use Rattle.plan.specs.declared.faults.Refusal.{Refusal as Refused}
use Rattle.plan.specs.Answers.{Outcome, accepted, answer_of}
use Rattle.plan.specs.Coded.{outcome_of}
use Rattle.plan.specs.Operations.{PARAM}
use Rattle.plan.specs.Words.{node_at, reads}
use Rattle.rules.specs.declared.Record.{Record}
use Rattle.rules.specs.Rules.{Derived, no_source}
use Rattle.verifier.specs.Check.{count_of, total_of, verdict}
use Rattle.cells.specs.Cells.{Cell, Field, gap}
use Rattle.cells.specs.Nodes.{Operands}
use Rattle.runner.specs.Inputs.{input_limits, test_inputs}
use Rattle.runner.specs.Run.{fields_to, all_cells, run_answer, values_after, flags_after}
use Rattle.inputs.specs.Nodes.{nodes_of}
use Rattle.views.specs.Numbers.{SmallIn}
use Rattle.evaluation.specs.Ready.{Reads}

-- where the cells of node j begin, all nodes end to end, and its extents
abbrev pub node_start : List Derived → ℕ → ℕ
node_start ds j = total_of (take j ds)

abbrev pub node_extents : List Derived → ℕ → List ℕ
node_extents ds j = (get_or ds j no_source).extents

-- a buffer with what f shows of the cells of the first i nodes, end to end
abbrev pub laid_to : {A : Type 0} → (Cell → A) → List ℤ → List Derived → List Cell → ℕ → List A → List A
laid_to f t ds input i before = store before 0 (total_of (take i ds)) (λ (p : ℕ). f (get_or (all_cells (fields_to t ds input i)) p gap))

-- the check has accepted the table with these records
pub record Checked (t : List ℤ) (records : List Record) : Type 0 where
  pub few : length records ≤ 256
  pub accepts : verdict t ≡ accepted (nodes_of records)

-- nothing is wrong with the input of a plan with records ds
pub record Fed (t : List ℤ) (ds : List Derived) (values : List ℤ) (flags : List ℕ) : Type 0 where
  pub all_values : length values ≡ length (input_limits t ds)
  pub all_flags : length flags ≡ length (input_limits t ds)
  pub passed : test_inputs (input_limits t ds) values flags ≡ accepted tt

-- where each node's cells begin, and room for all of them
pub record Places (ds : List Derived) (starts : List ℕ) (vs : List ℤ) (fs : List ℕ) : Type 0 where
  pub begin : (j : ℕ) → j < length ds → get_or starts j 0 ≡ total_of (take j ds)
  pub value_room : total_of ds ≤ length vs
  pub flag_room : total_of ds ≤ length fs

-- the numbers of node j in a buffer are of 32 bits
abbrev pub SmallNode : List ℤ → List Derived → ℕ → Type 0
SmallNode vs ds j = SmallIn vs (node_start ds j) (node_start ds j + count_of (get_or ds j no_source))

-- node i can be run: its first two sources' numbers are of 32 bits, and a PARAM's input is there from place `from` on; nothing is asked of other places
pub record Turning (t : List ℤ) (records : List Record) (starts : List ℕ) (i : ℕ) (given : List ℤ) (known : List ℕ) (from : ℕ) (vs : List ℤ) (fs : List ℕ) : Type 0 where
  pub checked : Checked t records
  pub inside : i < length records
  pub places : Places (nodes_of records) starts vs fs
  pub small_first : reads (node_at t i) 1 ≡ true → SmallNode vs (nodes_of records) (node_at t i).source1.0
  pub small_second : reads (node_at t i) 2 ≡ true → SmallNode vs (nodes_of records) (node_at t i).source2.0
  pub values : (node_at t i).op ≡ PARAM → from + count_of (get_or (nodes_of records) i no_source) ≤ length given
  pub flags : (node_at t i).op ≡ PARAM → from + count_of (get_or (nodes_of records) i no_source) ≤ length known

-- the operands of node i are what the buffers hold at its sources' places, and what the input holds from place `from` on
abbrev pub NodeReads : List ℤ → List Derived → ℕ → List ℤ → List ℕ → ℕ → List ℤ → List ℕ → Operands → Type 0
NodeReads t ds i given known from vs fs o =
    Reads (node_at t i) (node_extents ds (node_at t i).source1.0) (node_extents ds (node_at t i).source2.0) (node_extents ds (node_at t i).source3.0) (node_extents ds i)
    (node_start ds (node_at t i).source1.0) (node_start ds (node_at t i).source2.0) (node_start ds (node_at t i).source3.0) from given known vs fs o

-- what a run that ends with r answers, and leaves in both buffers
pub record Runs (o : Outcome (List Field)) (r : Result ℕ Refused) (vs : List ℤ) (fs : List ℕ) (vs' : List ℤ) (fs' : List ℕ) : Type 0 where
  pub answer : answer_of (λ n. n) (outcome_of (λ n. n) r) ≡ run_answer o
  pub values : vs' ≡ values_after o vs
  pub flags : fs' ≡ flags_after o fs
