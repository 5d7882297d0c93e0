-- The input of a run: "values (i64) and flags (u8, 1 known, 0 gap) of all PARAMs end to end in node order".
use Rattle.std.specs.Prelude.{ℕ, ◌||◌, not, cond, List, [], ℤ, pos, eqb, leb, length, get_or, replicate}
use Rattle.laws.specs.Lists.{tab, concat}
use Rattle.plan.specs.declared.Interval.{Interval}
use Rattle.plan.specs.Operations.{PARAM}
use Rattle.plan.specs.Types.{between, holds}
use Rattle.plan.specs.Words.{node_at, over_params}
use Rattle.plan.specs.Answers.{Outcome, accepted, need, in_turn}
use Rattle.rules.specs.Rules.{Derived, no_source}
use Rattle.verifier.specs.Check.{count_of}
use Rattle.cells.specs.Cells.{Cell, known, gap}

-- the elements of the PARAMs before node n: where the input of node n begins if it is a PARAM
abbrev pub input_start : List ℤ → List Derived → ℕ → ℕ
input_start t ds n = over_params t (λ (i : ℕ). count_of (get_or ds i no_source)) n

-- "the PARAM total"
abbrev pub input_total : List ℤ → List Derived → ℕ
input_total t ds = input_start t ds (length ds)

-- "Declared limits are the PARAM's low and high."
abbrev pub declared : List ℤ → ℕ → Interval
declared t n = between (node_at t n).low (node_at t n).high

-- the limits at each position of the input: those of node n, and of all nodes
abbrev pub node_limits : List ℤ → List Derived → ℕ → List Interval
node_limits t ds n = cond (eqb (node_at t n).op PARAM) (replicate (count_of (get_or ds n no_source)) (declared t n)) []

unfoldable pub input_limits : List ℤ → List Derived → List Interval
input_limits t ds = concat (tab (length ds) (λ (n : ℕ). node_limits t ds n))

-- "A known number is an input value whose flag is 1; the other values lie under gaps."
unfoldable pub input_cell : ℤ → ℕ → Cell
input_cell value flag = cond (eqb flag 1) (known value) gap

unfoldable pub input_cells : List ℤ → List ℕ → List Cell
input_cells values flags = tab (length values) (λ (p : ℕ). input_cell (get_or values p (pos 0)) (get_or flags p 0))

-- "15: flag neither 0 nor 1; 16: known number outside limits; position": "15 before 16". The number under a gap is not looked at.
unfoldable pub test_input : Interval → ℤ → ℕ → ℕ → Outcome Unit
test_input limits value flag p =
    need (leb flag 1) 15 p (need (not (eqb flag 1) || holds limits value) 16 p (accepted tt))

-- "15 and 16 at the first bad position"
abbrev pub test_at : List Interval → List ℤ → List ℕ → ℕ → Outcome Unit
test_at limits values flags p = test_input (get_or limits p (between (pos 0) (pos 0))) (get_or values p (pos 0)) (get_or flags p 0) p

unfoldable pub test_inputs : List Interval → List ℤ → List ℕ → Outcome Unit
test_inputs limits values flags = in_turn (λ (p : ℕ) (passed : Unit). test_at limits values flags p) tt (length limits)
