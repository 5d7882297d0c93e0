-- The nodes of a plan as the code reads their input: their records, their sizes, and the positions of one of them.
use Rattle.std.specs.Prelude.{ℕ, ◌+◌, ◌<◌, ◌≤◌, List, map, ℤ, pos, slice_index, slice_index_or}
use Rattle.plan.specs.declared.Interval.{Interval}
use Rattle.plan.specs.Answers.{Outcome, in_turn}
use Rattle.shapes.specs.Rules.{element_limit}
use Rattle.rules.specs.declared.Record.{Record}
use Rattle.rules.specs.Rules.{Derived, no_source}
use Rattle.verifier.specs.Check.{count_of}
use Rattle.rules.specs.Code.{view_of}
use Rattle.runner.specs.Inputs.{test_input}

-- what is derived of the nodes
abbrev pub nodes_of : List Record → List Derived
nodes_of records = map view_of records

-- none of the first `count` nodes has more elements than the limit
abbrev pub Limited : List Derived → ℕ → Type 0
Limited ds count = (i : ℕ) → i < count → count_of (slice_index_or ds i no_source) ≤ element_limit

-- 15 and 16 at n positions from place `from` on, all with the same limits
abbrev pub test_part : Interval → List ℤ → List ℕ → ℕ → ℕ → Outcome Unit
test_part limits values flags from n =
    in_turn (λ (k : ℕ) (passed : Unit). test_input limits (slice_index_or values (from + k) (pos 0)) (slice_index flags (from + k)) (from + k)) tt n
