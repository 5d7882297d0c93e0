-- Demand 2: "every element of every node". For any accepted plan and any input cells, what each node holds and reads.
use Rattle.std.specs.Prelude.{ℕ, ◌+◌, ◌%◌, ◌<◌, ◌≤◌, ◌≡◌, true, cond, List, ◌∷◌, ℤ, ltb, length, get_or, take}
use Rattle.laws.specs.Lists.{among}
use Rattle.plan.specs.declared.ElementNumber.{ElementNumber}
use Rattle.plan.specs.Operations.{WHERE, REDUCE, FILL, STACK, followed, binaries}
use Rattle.plan.specs.declared.Node.{Node}
use Rattle.plan.specs.Words.{node_at, list_of, element, reads}
use Rattle.plan.specs.Answers.{accepted}
use Rattle.shapes.specs.Sources.{source_element, Below, broadcast_source, gathered}
use Rattle.rules.specs.Rules.{Derived, no_source}
use Rattle.verifier.specs.Check.{first, second, third, count_of, verdict}
use Rattle.cells.specs.Cells.{Cell, cell_at}
use Rattle.cells.specs.Nodes.{eval_cell}
use Rattle.runner.specs.Run.{no_field, operands_of, fields_to}

-- element e of a source, under a broadcast result of node n, is one of the source's
abbrev pub ReadsInside : Derived → Derived → ElementNumber → Type 0
ReadsInside source d e = (broadcast_source source.extents d.extents e).0 < count_of source

-- element e of a STACK of a, b and c: the source that has it has it, and a third is read
pub record StacksInside (x : Node) (a b c : Derived) (e : ElementNumber) : Type 0 where
  pub inside : e.0 % count_of a < count_of (cond (ltb e.0 (count_of a)) a (cond (ltb e.0 (count_of a + count_of a)) b c))
  pub third : count_of a + count_of a ≤ e.0 → reads x 3 ≡ true

-- node n of a plan with records ds, its sources among the earlier ones
pub record NodeElements (t : List ℤ) (ds : List Derived) (input : List Cell) (n : ℕ) : Type 0 where
  -- the node's field has exactly its count of cells
  pub as_many : length (get_or (fields_to t ds input (length ds)) n no_field).cells ≡ count_of (get_or ds n no_source)
  -- each is what the node's words and its sources' fields give
  pub cells : (e : ElementNumber) → e.0 < count_of (get_or ds n no_source) → cell_at (get_or (fields_to t ds input (length ds)) n no_field) e
      ≡ eval_cell (node_at t n) (get_or ds n no_source).extents (operands_of t ds input n (fields_to t ds input n)) e
  -- a movement reads inside its source
  pub moves : among (node_at t n).op followed ≡ true → (e : ElementNumber) → e.0 < count_of (get_or ds n no_source)
      → Below (count_of (first (node_at t n) (take n ds))) (source_element (node_at t n) (first (node_at t n) (take n ds)).extents (get_or ds n no_source).extents e)
  -- so does a broadcast, of two operands and of three
  pub broadcasts : among (node_at t n).op (FILL ∷ binaries) ≡ true → (e : ElementNumber) → e.0 < count_of (get_or ds n no_source)
      → ReadsInside (first (node_at t n) (take n ds)) (get_or ds n no_source) e × ReadsInside (second (node_at t n) (take n ds)) (get_or ds n no_source) e
  pub chooses : (node_at t n).op ≡ WHERE → (e : ElementNumber) → e.0 < count_of (get_or ds n no_source)
      → ReadsInside (first (node_at t n) (take n ds)) (get_or ds n no_source) e × ReadsInside (second (node_at t n) (take n ds)) (get_or ds n no_source) e
      × ReadsInside (third (node_at t n) (take n ds)) (get_or ds n no_source) e
  -- REDUCE gathers inside its source, and never nothing
  pub gathers : (node_at t n).op ≡ REDUCE → (e : ElementNumber) → e.0 < count_of (get_or ds n no_source)
      → (0 < length (gathered (first (node_at t n) (take n ds)).extents (list_of (node_at t n).rowa) e))
      × ((i : ℕ) → i < length (gathered (first (node_at t n) (take n ds)).extents (list_of (node_at t n).rowa) e)
      → (get_or (gathered (first (node_at t n) (take n ds)).extents (list_of (node_at t n).rowa) e) i (element 0)).0 < count_of (first (node_at t n) (take n ds)))
  -- STACK reads inside its sources, and no more of them than its number says
  pub stacks : (node_at t n).op ≡ STACK → (e : ElementNumber) → e.0 < count_of (get_or ds n no_source)
      → StacksInside (node_at t n) (first (node_at t n) (take n ds)) (second (node_at t n) (take n ds)) (third (node_at t n) (take n ds)) e

abbrev pub EveryElement : Type 0
EveryElement = (t : List ℤ) (ds : List Derived) (input : List Cell) (n : ℕ) → verdict t ≡ accepted ds → n < length ds → NodeElements t ds input n
