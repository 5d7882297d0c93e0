-- Demand 2: "A run gives every element of every node, value and flag, as exact whole-number arithmetic over known cells defines it": what each element is,
-- in the paper's numbers, from the elements of the nodes before it.
use Rattle.std.specs.Prelude.{ℕ, zero, suc, ◌+◌, ◌<◌, ◌≤◌, ◌≡◌, ◌⊎◌, List, ℤ, pos, ◌+ℤ◌, ◌-ℤ◌, ◌*ℤ◌, ◌≤ℤ◌, ◌<ℤ◌, length, get_or}
use Rattle.laws.specs.Integers.{FloorUp, FloorDown}
use Rattle.plan.specs.declared.ElementNumber.{ElementNumber}
use Rattle.plan.specs.Words.{element}
use Rattle.plan.specs.Answers.{accepted}
use Rattle.shapes.specs.Coordinates.{BroadcastFrom, StackedFrom, Followed, ComesFrom, NewCell, Gathers}
use Rattle.rules.specs.Rules.{Derived, no_source}
use Rattle.verifier.specs.Check.{verdict}
use Rattle.cells.specs.Cells.{Cell, known, gap}
use Rattle.runner.specs.Inputs.{input_start, input_total}
use Rattle.guarantees.specs.Demand3.{Lent, word, as_count, row_from, elements, result_at}

-- ---- the number that two known numbers give

-- q is the floor of x / y: "IDIV is the floor of a/b"
abbrev pub Floor : ℤ → ℤ → ℤ → Type 0
Floor x y q = (pos 0 <ℤ y → FloorUp x y q) × (y <ℤ pos 0 → FloorDown x y q)

-- z is what operation o gives for x and y: a row for each of 9 to 17. No known divisor is 0 (demand 3), and AND and OR are of 0 and 1.
pub record Gives (o : ℕ) (x y z : ℤ) : Type 0 where
  -- "9 ADD, 10 MUL, 11 MAX"
  pub add : o ≡ 9 → z ≡ (x +ℤ y)
  pub mul : o ≡ 10 → z ≡ (x *ℤ y)
  pub max : o ≡ 11 → (x ≤ℤ z) × (y ≤ℤ z) × ((z ≡ x) ⊎ (z ≡ y))
  -- "IDIV is the floor of a/b and MOD is a − b·floor(a/b)"
  pub quotient : o ≡ 12 → Floor x y z
  pub remainder : o ≡ 13 → (q : ℤ) × Floor x y q × (z ≡ (x -ℤ y *ℤ q))
  -- "14 CMPLT, 15 CMPNE": 1 where it holds, else 0
  pub less : o ≡ 14 → (x <ℤ y → z ≡ pos 1) × (y ≤ℤ x → z ≡ pos 0)
  pub differs : o ≡ 15 → ((x ≡ y → ⊥) → z ≡ pos 1) × (x ≡ y → z ≡ pos 0)
  -- "16 AND, 17 OR"
  pub both : o ≡ 16 → (z ≤ℤ x) × (z ≤ℤ y) × ((z ≡ x) ⊎ (z ≡ y))
  pub either : o ≡ 17 → (x ≤ℤ z) × (y ≤ℤ z) × ((z ≡ x) ⊎ (z ≡ y))

-- the sum of f 0, .., f (k − 1)
unfoldable pub total : (ℕ → ℤ) → ℕ → ℤ
total f zero = pos 0
total f (suc k) = f 0 +ℤ total (λ (i : ℕ). f (suc i)) k

-- ---- an element of node n

module _ (t : List ℤ) (ds : List Derived) (x : Lent) (n : ℕ) (e : ElementNumber) where
  -- the element asked, and element o of the node that word k names
  abbrev pub here : Cell
  here = result_at t ds x n e

  abbrev pub source_node : ℕ → ℕ
  source_node k = as_count (word t n k)

  abbrev pub source_cell : ℕ → ElementNumber → Cell
  source_cell k o = result_at t ds x (source_node k) o

  abbrev pub extents_at : ℕ → List ℕ
  extents_at m = (get_or ds m no_source).extents

  -- "PAD's new cells are gaps."; every other element of a movement node is the one that it comes from
  pub data Moved (o : ℕ) : Type 0 where
    from : (m : ElementNumber) → ComesFrom o (extents_at (source_node 1)) (extents_at n) (row_from t n 9) (row_from t n 13) m.0 e.0 → here ≡ source_cell 1 m → Moved o
    new : o ≡ 6 → NewCell (extents_at (source_node 1)) (extents_at n) (row_from t n 13) e.0 → here ≡ gap → Moved o

  -- the element of source k that is read
  pub record Under (k : ℕ) (m : ElementNumber) : Type 0 where
    pub inside : m.0 < elements ds (source_node k)
    pub aligned : BroadcastFrom (extents_at (source_node k)) (extents_at n) m.0 e.0

  -- "A binary result is a gap if either side is"
  pub record Computed (o : ℕ) : Type 0 where
    pub first : ElementNumber
    pub second : ElementNumber
    pub under_first : Under 1 first
    pub under_second : Under 2 second
    pub number : (u v : ℤ) → source_cell 1 first ≡ known u → source_cell 2 second ≡ known v → (z : ℤ) × (here ≡ known z) × Gives o u v z
    pub if_gap : (source_cell 1 first ≡ gap) ⊎ (source_cell 2 second ≡ gap) → here ≡ gap
    pub only_gap : here ≡ gap → (source_cell 1 first ≡ gap) ⊎ (source_cell 2 second ≡ gap)

  -- "WHERE is a gap if the condition is one or the chosen side is": 1 chooses the second source, 0 the third
  pub record Chosen : Type 0 where
    pub first : ElementNumber
    pub second : ElementNumber
    pub third : ElementNumber
    pub under_first : Under 1 first
    pub under_second : Under 2 second
    pub under_third : Under 3 third
    pub if_not_zero : (u : ℤ) → source_cell 1 first ≡ known u → (u ≡ pos 0 → ⊥) → here ≡ source_cell 2 second
    pub if_zero : source_cell 1 first ≡ known (pos 0) → here ≡ source_cell 3 third
    pub if_gap : source_cell 1 first ≡ gap → here ≡ gap

  -- "REDUCE if any element it gathers is"; "number 0 sum, 1 max"
  pub record Reduced : Type 0 where
    pub gathered : List ElementNumber
    pub which : Gathers (extents_at (source_node 1)) (extents_at n) (row_from t n 9) e.0 gathered
    pub sum : word t n 5 ≡ pos 0 → (f : ℕ → ℤ) → ((i : ℕ) → i < length gathered → source_cell 1 (get_or gathered i (element 0)) ≡ known (f i))
        → here ≡ known (total f (length gathered))
    pub max : word t n 5 ≡ pos 1 → (f : ℕ → ℤ) → ((i : ℕ) → i < length gathered → source_cell 1 (get_or gathered i (element 0)) ≡ known (f i))
        → (i : ℕ) × (i < length gathered) × (here ≡ known (f i)) × ((j : ℕ) → j < length gathered → f j ≤ℤ f i)
    pub if_gap : (i : ℕ) → i < length gathered → source_cell 1 (get_or gathered i (element 0)) ≡ gap → here ≡ gap
    pub only_gap : here ≡ gap → (i : ℕ) × (i < length gathered) × (source_cell 1 (get_or gathered i (element 0)) ≡ gap)

  -- 02 §3, FILL: "T where known, else C"; a gap only where both are
  pub record Overlaid : Type 0 where
    pub first : ElementNumber
    pub second : ElementNumber
    pub under_first : Under 1 first
    pub under_second : Under 2 second
    pub if_known : (u : ℤ) → source_cell 1 first ≡ known u → here ≡ known u
    pub if_gap : source_cell 1 first ≡ gap → here ≡ source_cell 2 second
    pub only_gap : here ≡ gap → (source_cell 1 first ≡ gap) × (source_cell 2 second ≡ gap)

  -- 02 §3, KNOWN: "1 where the source is known, else 0, never a gap"
  pub record Tells : Type 0 where
    pub if_known : (u : ℤ) → source_cell 1 e ≡ known u → here ≡ known (pos 1)
    pub if_gap : source_cell 1 e ≡ gap → here ≡ known (pos 0)

  -- 02 §3, STACK: "number 2 or 3 of sources joined on a new leading axis": its sources have turns from 0, and this is the element `of` one of them
  pub record Stacked : Type 0 where
    pub turn : ℕ
    pub of : ElementNumber
    pub has_turn : pos turn <ℤ word t n 5
    pub inside : of.0 < elements ds (source_node (1 + turn))
    pub aligned : StackedFrom (extents_at (source_node (1 + turn))) (extents_at n) turn of.0 e.0
    pub same : here ≡ source_cell (1 + turn) of

  -- by operation
  pub record ElementIs : Type 0 where
    -- "CONST"
    pub constant : word t n 0 ≡ pos 0 → here ≡ known (word t n 5)
    -- "values (i64) and flags (u8, 1 known, 0 gap) of all PARAMs end to end in node order"
    pub given : word t n 0 ≡ pos 1 → get_or x.flags (input_start t ds n + e.0) 0 ≡ 1 → here ≡ known (get_or x.values (input_start t ds n + e.0) (pos 0))
    pub missing : word t n 0 ≡ pos 1 → get_or x.flags (input_start t ds n + e.0) 0 ≡ 0 → here ≡ gap
    -- "2 PERMUTE" to "7 SHRINK" and "20 LOAD"
    pub moved : (o : ℕ) → word t n 0 ≡ pos o → Followed o → Moved o
    -- "CAST and LOAD keep numbers."
    pub kept : word t n 0 ≡ pos 8 → here ≡ source_cell 1 e
    -- "9 ADD" to "17 OR"
    pub computed : (o : ℕ) → word t n 0 ≡ pos o → 9 ≤ o → o ≤ 17 → Computed o
    -- "18 WHERE"
    pub chosen : word t n 0 ≡ pos 18 → Chosen
    -- "19 REDUCE"
    pub reduced : word t n 0 ≡ pos 19 → Reduced
    -- 02 §3: "FILL (21", "KNOWN (22", "STACK (23"
    pub overlaid : word t n 0 ≡ pos 21 → Overlaid
    pub tells : word t n 0 ≡ pos 22 → Tells
    pub stacked : word t n 0 ≡ pos 23 → Stacked

-- for any accepted plan and any input of the required length, at every element of every node
abbrev pub EveryValue : Type 0
EveryValue =
    (t : List ℤ) (ds : List Derived) (x : Lent) (n : ℕ) (e : ElementNumber) → verdict t ≡ accepted ds → length x.values ≡ input_total t ds
    → n < length ds → e.0 < elements ds n → ElementIs t ds x n e
