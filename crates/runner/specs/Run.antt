-- The run of a plan.
use Rattle.std.specs.Prelude.{ℕ, zero, suc, ◌&&◌, cond, List, [], ◌∷◌, ◌++◌, map, ℤ, pos, eqb, leb, length, get_or, drop}
use Rattle.laws.specs.Lists.{concat, last_or}
use Rattle.plan.specs.declared.Answer.{Answer}
use Rattle.plan.specs.declared.Interval.{Interval}
use Rattle.plan.specs.declared.Node.{Node}
use Rattle.plan.specs.declared.NodeNumber.{NodeNumber}
use Rattle.plan.specs.Words.{node_at, reads}
use Rattle.plan.specs.Answers.{Outcome, accepted, need, and_then, answer_of, buffer_after}
use Rattle.rules.specs.Rules.{Derived, no_source}
use Rattle.verifier.specs.Check.{verdict, total_of}
use Rattle.cells.specs.Cells.{Cell, known, gap, Field}
use Rattle.cells.specs.Nodes.{Operands, eval_node}
use Rattle.runner.specs.Inputs.{input_start, input_limits, input_cells, test_inputs}

-- ---- the cells of every node

-- what stands for a source that is not read
abbrev pub no_field : Field
no_field = record { extents = []; cells = [] }

-- source k (1 to 3) of node x among the earlier nodes' fields, where it is read
unfoldable pub field_of : List Field → Node → ℕ → NodeNumber → Field
field_of earlier x k n = cond (reads x k) (get_or earlier n.0 no_field) no_field

-- what node n is evaluated from, after the earlier nodes
unfoldable pub operands_of : List ℤ → List Derived → List Cell → ℕ → List Field → Operands
operands_of t ds input n earlier =
    let x = node_at t n in
    record {
      input = drop (input_start t ds n) input;
      a = field_of earlier x 1 x.source1;
      b = field_of earlier x 2 x.source2;
      c = field_of earlier x 3 x.source3;
    }

-- node n after the earlier ones: demand 2's "every element of every node"
unfoldable pub node_field : List ℤ → List Derived → List Cell → ℕ → List Field → Field
node_field t ds input n earlier =
    let r = (get_or ds n no_source).extents in
    record { extents = r; cells = eval_node (node_at t n) r (operands_of t ds input n earlier) }

-- the fields of the first n nodes
abbrev pub add_field : List ℤ → List Derived → List Cell → ℕ → List Field → List Field
add_field t ds input n earlier = earlier ++ node_field t ds input n earlier ∷ []

unfoldable pub fields_to : List ℤ → List Derived → List Cell → ℕ → List Field
fields_to t ds input zero = []
fields_to t ds input (suc n) = add_field t ds input n (fields_to t ds input n)

-- the fields of all nodes of an accepted plan on this input
abbrev pub fields_of : List ℤ → List Derived → List ℤ → List ℕ → List Field
fields_of t ds values flags = fields_to t ds (input_cells values flags) (length ds)

-- ---- the run

-- "then 13, 14; then 15 and 16", for an accepted plan with these limits at its input positions, and room for so many values and flags.
-- "13: either input length is not the PARAM total; 14: a buffer written to is too short"
unfoldable pub run_accepted : List ℤ → List Derived → List Interval → List ℤ → List ℕ → ℕ → ℕ → Outcome (List Field)
run_accepted t ds limits values flags valueRoom flagRoom =
    need (eqb (length values) (length limits) && eqb (length flags) (length limits)) 13 0
    (need (leb (total_of ds) valueRoom && leb (total_of ds) flagRoom) 14 0
    (and_then (test_inputs limits values flags) (λ passed. accepted (fields_of t ds values flags))))

unfoldable pub run : List ℤ → List ℤ → List ℕ → ℕ → ℕ → Outcome (List Field)
run t values flags valueRoom flagRoom =
    and_then (verdict t) (λ ds. run_accepted t ds (input_limits t ds) values flags valueRoom flagRoom)

-- ---- the run's answer and buffers

-- "A gap is written as value 0, flag 0."
abbrev pub value_of : Cell → ℤ
value_of (known z) = z
value_of gap = pos 0

abbrev pub flag_of : Cell → ℕ
flag_of (known z) = 1
flag_of gap = 0

unfoldable pub gap_count : List Cell → ℕ
gap_count [] = 0
gap_count (known z ∷ cs) = gap_count cs
gap_count (gap ∷ cs) = suc (gap_count cs)

-- "writes all nodes' elements end to end into two result buffers"
unfoldable pub all_cells : List Field → List Cell
all_cells fs = concat (map (λ (f : Field). f.cells) fs)

-- "The answer carries the number of gaps in the output node." "The last node is the output."
abbrev pub run_answer : Outcome (List Field) → Answer
run_answer = answer_of (λ (fs : List Field). gap_count (last_or no_field fs).cells)

abbrev pub values_after : Outcome (List Field) → List ℤ → List ℤ
values_after = buffer_after (λ (fs : List Field). map value_of (all_cells fs))

abbrev pub flags_after : Outcome (List Field) → List ℕ → List ℕ
flags_after = buffer_after (λ (fs : List Field). map flag_of (all_cells fs))
