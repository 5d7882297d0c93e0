-- The meaning of a node: its cells, from its words and its sources' cells.
use Rattle.std.specs.Prelude.{ℕ, ◌+◌, ◌%◌, cond, ltb, List, [], ◌∷◌, map}
use Rattle.laws.specs.Lists.{tab}
use Rattle.laws.specs.Numbering.{count}
use Rattle.plan.specs.declared.Node.{Node}
use Rattle.plan.specs.declared.ElementNumber.{ElementNumber}
use Rattle.plan.specs.Operations.{CONST, PARAM, CAST, WHERE, REDUCE, FILL, KNOWN, STACK, followed, binaries, Entry, ◌⇒◌, by_operation}
use Rattle.plan.specs.Words.{list_of, element}
use Rattle.shapes.specs.Sources.{source_element, broadcast_source, gathered}
use Rattle.cells.specs.Cells.{Cell, known, gap, Field, cell_at, cell_from, both, where_cell, fill_cell, known_cell, reduce_cells, binary, reduction}

-- what a node is evaluated from: for a PARAM its input, the cells from its first on; and its sources' fields
pub record Operands : Type 0 where
  pub input : List Cell
  pub a : Field
  pub b : Field
  pub c : Field

-- the cell of a source under element e of a broadcast result of extents r
abbrev pub broadcast_cell : Field → List ℕ → ElementNumber → Cell
broadcast_cell f r e = cell_at f (broadcast_source f.extents r e)

-- STACK: "sources joined on a new leading axis": with n elements a source, element e is element e % n of source e / n
unfoldable pub stack_cell : Operands → ElementNumber → Cell
stack_cell s e =
    let n = count s.a.extents in
    cell_at (cond (ltb e.0 n) s.a (cond (ltb e.0 (n + n)) s.b s.c)) (element (e.0 % n))

-- element e of a node of extents r. "CAST and LOAD keep numbers."
abbrev pub cell_rules : Node → List ℕ → Operands → ElementNumber → List (Entry Cell)
cell_rules x r s e =
    (CONST ∷ []) ⇒ known x.number
    ∷ (PARAM ∷ []) ⇒ cell_at (record { extents = r; cells = s.input }) e
    ∷ followed ⇒ cell_from s.a (source_element x s.a.extents r e)
    ∷ (CAST ∷ []) ⇒ cell_at s.a e
    ∷ binaries ⇒ both (binary x.op) (broadcast_cell s.a r e) (broadcast_cell s.b r e)
    ∷ (WHERE ∷ []) ⇒ where_cell (broadcast_cell s.a r e) (broadcast_cell s.b r e) (broadcast_cell s.c r e)
    ∷ (REDUCE ∷ []) ⇒ reduce_cells (reduction x.number) (map (cell_at s.a) (gathered s.a.extents (list_of x.rowa) e))
    ∷ (FILL ∷ []) ⇒ fill_cell (broadcast_cell s.a r e) (broadcast_cell s.b r e)
    ∷ (KNOWN ∷ []) ⇒ known_cell (cell_at s.a e)
    ∷ (STACK ∷ []) ⇒ stack_cell s e
    ∷ []

unfoldable pub eval_cell : Node → List ℕ → Operands → ElementNumber → Cell
eval_cell x r s e = by_operation x.op (cell_rules x r s e) gap

-- All elements of a node of extents r. A run cites it for every node, and so will whatever computes some nodes anew.
unfoldable pub eval_node : Node → List ℕ → Operands → List Cell
eval_node x r s = tab (count r) (λ (e : ℕ). eval_cell x r s (element e))
