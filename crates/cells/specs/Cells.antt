-- Cells, and the rule of each operation on them.
use Rattle.std.specs.Prelude.{ℕ, cond, List, [], ◌∷◌, ℤ, pos, ◌+ℤ◌, ◌*ℤ◌, eqb, get_or}
use Rattle.std.proofs.Math.Option.{Option, none, some}
use Rattle.std.specs.Int.Signed.{lt_z}
use Rattle.laws.specs.Integers.{same_z, min_z, max_z, floor_div, floor_mod}
use Rattle.plan.specs.declared.ElementNumber.{ElementNumber}
use Rattle.plan.specs.Operations.{ADD, MUL, MAX, IDIV, MOD, CMPLT, CMPNE, AND, OR, Entry, ◌⇒◌, by_operation}
use Rattle.plan.specs.Words.{size_of}

-- "Each element is a known whole number or a gap." A gap is called null or missing elsewhere.
pub data Cell : Type 0 where
  known : ℤ → Cell
  gap : Cell

-- a node's extents and its cells
pub record Field : Type 0 where
  pub extents : List ℕ
  pub cells : List Cell

-- element e of a field; a gap past its end, where no node looks (proofs/Nodes.antt)
abbrev pub cell_at : Field → ElementNumber → Cell
cell_at f e = get_or f.cells e.0 gap

-- "PAD's new cells are gaps."; "All other operations carry gaps along."
abbrev pub cell_from : Field → Option ElementNumber → Cell
cell_from f none = gap
cell_from f (some e) = cell_at f e

-- "A binary result is a gap if either side is"
abbrev pub both : (ℤ → ℤ → ℤ) → Cell → Cell → Cell
both f gap d = gap
both f (known x) gap = gap
both f (known x) (known y) = known (f x y)

-- "WHERE is a gap if the condition is one or the chosen side is."
abbrev pub where_cell : Cell → Cell → Cell → Cell
where_cell gap b c = gap
where_cell (known z) b c = cond (same_z z (pos 0)) c b

-- FILL: "T where known, else C"
abbrev pub fill_cell : Cell → Cell → Cell
fill_cell (known z) d = known z
fill_cell gap d = d

-- KNOWN: "1 where the source is known, else 0, never a gap"
abbrev pub known_cell : Cell → Cell
known_cell (known z) = known (pos 1)
known_cell gap = known (pos 0)

-- "REDUCE if any element it gathers is"
unfoldable pub fold_cells : (ℤ → ℤ → ℤ) → Cell → List Cell → Cell
fold_cells f c [] = c
fold_cells f c (d ∷ ds) = fold_cells f (both f c d) ds

-- REDUCE gathers at least one element (`gathered_some` of shapes), so the first case is not reached
abbrev pub reduce_cells : (ℤ → ℤ → ℤ) → List Cell → Cell
reduce_cells f [] = gap
reduce_cells f (c ∷ cs) = fold_cells f c cs

-- the number that a binary operation gives for two known numbers; AND and OR are of 0 and 1. "IDIV is the floor of a/b and MOD is
-- a − b·floor(a/b)"
abbrev pub binary_rules : ℤ → ℤ → List (Entry ℤ)
binary_rules x y =
    (ADD ∷ []) ⇒ (x +ℤ y)
    ∷ (MUL ∷ []) ⇒ (x *ℤ y)
    ∷ (MAX ∷ OR ∷ []) ⇒ max_z x y
    ∷ (IDIV ∷ []) ⇒ floor_div x y
    ∷ (MOD ∷ []) ⇒ floor_mod x y
    ∷ (CMPLT ∷ []) ⇒ cond (lt_z x y) (pos 1) (pos 0)
    ∷ (CMPNE ∷ []) ⇒ cond (same_z x y) (pos 0) (pos 1)
    ∷ (AND ∷ []) ⇒ min_z x y
    ∷ []

unfoldable pub binary : ℕ → ℤ → ℤ → ℤ
binary op x y = by_operation op (binary_rules x y) (pos 0)

-- "number 0 sum, 1 max"
unfoldable pub reduction : ℤ → ℤ → ℤ → ℤ
reduction number = cond (eqb (size_of number) 0) ◌+ℤ◌ max_z
