-- Fields in the buffers: a known cell is its number and 1, a gap is 0 and 0.
use Rattle.std.specs.Prelude.{ℕ, ◌+◌, ◌<◌, ◌≤◌, ◌≡◌, true, List, [], ◌∷◌, ℤ, pos, length, get_or}
use Rattle.laws.specs.Numbering.{count}
use Rattle.laws.specs.Store.{store}
use Rattle.plan.specs.declared.Node.{Node}
use Rattle.plan.specs.Operations.{RESHAPE, PAD, CAST, REDUCE, LOAD, STACK, followed}
use Rattle.plan.specs.Words.{list_of, element, size_of, reads}
use Rattle.shapes.specs.Rows.{extents_of}
use Rattle.shapes.specs.Rules.{element_limit, extent, reduced, shapes_agree}
use Rattle.cells.specs.Cells.{Cell, gap, Field}
use Rattle.cells.specs.Nodes.{Operands, eval_cell}
use Rattle.runner.specs.Run.{value_of, flag_of}
use Rattle.inputs.specs.Scanning.{cell_in}

-- the cells of a field stand in the buffers from place `base` on
pub record Stands (vs : List ℤ) (fs : List ℕ) (base : ℕ) (f : Field) : Type 0 where
  pub values : (e : ℕ) → e < count f.extents → get_or vs (base + e) (pos 0) ≡ value_of (get_or f.cells e gap)
  pub flags : (e : ℕ) → e < count f.extents → get_or fs (base + e) 0 ≡ flag_of (get_or f.cells e gap)

-- it is the field of a source of extents s
pub record Source (vs : List ℤ) (fs : List ℕ) (base : ℕ) (s : List ℕ) (f : Field) : Type 0 where
  pub shape : f.extents ≡ s
  pub stands : Stands vs fs base f

-- the cells of a node of extents r are written from place `start` on, and nothing else
pub record Evaluates (x : Node) (r : List ℕ) (o : Operands) (vs : List ℤ) (fs : List ℕ) (start : ℕ) (vs' : List ℤ) (fs' : List ℕ) : Type 0 where
  pub values : vs' ≡ store vs start (count r) (λ (e : ℕ). value_of (eval_cell x r o (element e)))
  pub flags : fs' ≡ store fs start (count r) (λ (e : ℕ). flag_of (eval_cell x r o (element e)))

-- the places of a result of extents r
pub record Room (r : List ℕ) (start : ℕ) (vs : List ℤ) (fs : List ℕ) : Type 0 where
  pub some : 0 < count r
  pub values : start + count r ≤ length vs
  pub flags : start + count r ≤ length fs

-- a PARAM's cells are those of the input from place `from` on
abbrev pub Given : List ℤ → List ℕ → ℕ → List ℕ → List Cell → Type 0
Given values flags from r input = (e : ℕ) → e < count r → get_or input e gap ≡ cell_in values flags (from + e)

-- the operations that keep every cell's number
abbrev pub copied : List ℕ
copied = RESHAPE ∷ CAST ∷ LOAD ∷ []

-- all operations whose cells are cells of their one source, or gaps
abbrev pub moves : List ℕ
moves = CAST ∷ followed

-- what a check has found of a PAD, its source and its result
pub record Padded (x : Node) (s r : List ℕ) : Type 0 where
  pub operation : x.op ≡ PAD
  pub shapes : shapes_agree x s [] [] ≡ true
  pub result : r ≡ extents_of (list_of x.rowa)
  pub positive : (k : ℕ) → 0 < extent s k
  pub ranked : length s ≤ 4
  pub few : (count s ≤ element_limit) × (count r ≤ element_limit)

-- what a check has found of a REDUCE, its source and its result
pub record Reduced (x : Node) (s r : List ℕ) : Type 0 where
  pub operation : x.op ≡ REDUCE
  pub result : r ≡ reduced s (list_of x.rowa)
  pub positive : (k : ℕ) → 0 < extent s k
  pub few : count s ≤ element_limit

-- what a check has found of a STACK, its sources and its result
pub record Stacked (x : Node) (s t u r : List ℕ) : Type 0 where
  pub operation : x.op ≡ STACK
  pub number : (2 ≤ size_of x.number) × (size_of x.number ≤ 3)
  pub result : r ≡ size_of x.number ∷ s
  pub second : t ≡ s
  pub third : reads x 3 ≡ true → u ≡ s
  pub some : 0 < count s
  pub few : count s ≤ element_limit
