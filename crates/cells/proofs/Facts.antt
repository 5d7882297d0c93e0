-- What the paper says of values and gaps in single cases. One computation shows all of them.
use Prim.Native.Nat.{ℕ}
use mathlib.Core.Path.{◌≡◌, refl}
use mathlib.Core.List.{List, [], ◌∷◌, map}
use lib.IntN.{ℤ, pos, negsuc}
use lib.ListN.{length}
use Rattle.plan.specs.Operations.{CONST, PARAM, FLIP, PAD, CAST, ADD, MUL, MAX, IDIV, MOD, CMPLT, CMPNE, AND, OR, WHERE, REDUCE, LOAD, FILL, KNOWN, STACK}
use Rattle.shapes.proofs.Facts.{node_with}
use Rattle.cells.specs.Cells.{Cell, known, gap, Field}
use Rattle.cells.specs.Nodes.{eval_node}

pub data Fact : Type 0 where
  ◌is◌ : List Cell → List Cell → Fact

infix 68 ◌is◌
abbrev asked : Fact → List Cell
asked (a is b) = a

abbrev said : Fact → List Cell
said (a is b) = b

abbrev field : List ℕ → List Cell → Field
field r cells = record { extents = r; cells = cells }

-- a row of cells
abbrev row : List Cell → Field
row cells = field (length cells ∷ []) cells

-- an operation with its number and its rows A and B, to extents r, on a source
abbrev from : ℕ → ℤ → List ℕ → List ℕ → List ℕ → Field → List Cell
from op number a b r f = eval_node (node_with op number a b) r (record { input = []; a = f; b = row []; c = row [] })

-- an operation on two rows of equal length, and WHERE on three
abbrev two : ℕ → List Cell → List Cell → List Cell
two op a b = eval_node (node_with op (pos 0) [] []) (length a ∷ []) (record { input = []; a = row a; b = row b; c = row [] })

abbrev choose : List Cell → List Cell → List Cell → List Cell
choose a b c = eval_node (node_with WHERE (pos 0) [] []) (length a ∷ []) (record { input = []; a = row a; b = row b; c = row c })

-- STACK of two or three fields
abbrev stack : ℕ → List ℕ → Field → Field → Field → List Cell
stack number r a b c = eval_node (node_with STACK (pos number) [] []) r (record { input = []; a = a; b = b; c = c })

-- known numbers
abbrev all : List ℤ → List Cell
all = map known

-- 1 2 3 over 4 5 6, and with a gap for 5
abbrev whole : Field
whole = field (2 ∷ 3 ∷ []) (all (pos 1 ∷ pos 2 ∷ pos 3 ∷ pos 4 ∷ pos 5 ∷ pos 6 ∷ []))

abbrev holed : Field
holed = field (2 ∷ 3 ∷ []) (known (pos 1) ∷ known (pos 2) ∷ known (pos 3) ∷ known (pos 4) ∷ gap ∷ known (pos 6) ∷ [])

abbrev facts : List Fact
facts =
    -- CONST is its number; PARAM is its input, from its first cell on
    from CONST (negsuc 6) [] [] [] (row []) is (known (negsuc 6) ∷ [])
    ∷ eval_node (node_with PARAM (pos 0) (2 ∷ []) []) (2 ∷ []) (record { input = gap ∷ known (pos 7) ∷ known (pos 9) ∷ []; a = row []; b = row []; c = row [] })
    is (gap ∷ known (pos 7) ∷ [])
    -- "7 9 padded to 5 at 1: gap 7 9 gap gap; flipped: gap gap 9 7 gap."
    ∷ from PAD (pos 0) (5 ∷ []) (1 ∷ []) (5 ∷ []) (row (known (pos 7) ∷ known (pos 9) ∷ [])) is (gap ∷ known (pos 7) ∷ known (pos 9) ∷ gap ∷ gap ∷ [])
    ∷ from FLIP (pos 0) (1 ∷ []) [] (5 ∷ []) (row (gap ∷ known (pos 7) ∷ known (pos 9) ∷ gap ∷ gap ∷ []))
    is (gap ∷ gap ∷ known (pos 9) ∷ known (pos 7) ∷ gap ∷ [])
    -- "CAST and LOAD keep numbers."; "All other operations carry gaps along."
    ∷ from CAST (pos 0) [] [] (2 ∷ []) (row (gap ∷ known (negsuc 6) ∷ [])) is (gap ∷ known (negsuc 6) ∷ [])
    ∷ from LOAD (pos 0) [] [] (2 ∷ []) (row (gap ∷ known (negsuc 6) ∷ [])) is (gap ∷ known (negsuc 6) ∷ [])
    -- "A binary result is a gap if either side is"
    ∷ two ADD (known (pos 1) ∷ known (pos 2) ∷ gap ∷ gap ∷ []) (known (pos 5) ∷ gap ∷ known (pos 7) ∷ gap ∷ []) is (known (pos 6) ∷ gap ∷ gap ∷ gap ∷ [])
    -- also of 0 times a gap, of 0 and a gap, of 1 or a gap
    ∷ two MUL (known (pos 0) ∷ gap ∷ []) (gap ∷ known (pos 0) ∷ []) is (gap ∷ gap ∷ [])
    ∷ two AND (known (pos 0) ∷ gap ∷ []) (gap ∷ known (pos 0) ∷ []) is (gap ∷ gap ∷ [])
    ∷ two OR (known (pos 1) ∷ gap ∷ []) (gap ∷ known (pos 1) ∷ []) is (gap ∷ gap ∷ [])
    -- numbers
    ∷ two MUL (all (negsuc 2 ∷ pos 0 ∷ [])) (all (pos 5 ∷ negsuc 4 ∷ [])) is all (negsuc 14 ∷ pos 0 ∷ [])
    ∷ two MAX (all (negsuc 2 ∷ pos 3 ∷ [])) (all (negsuc 4 ∷ pos 5 ∷ [])) is all (negsuc 2 ∷ pos 5 ∷ [])
    -- "IDIV is the floor of a/b and MOD is a − b·floor(a/b)": −7 by 2, 7 by −2, −7 by −2
    ∷ two IDIV (all (negsuc 6 ∷ pos 7 ∷ negsuc 6 ∷ [])) (all (pos 2 ∷ negsuc 1 ∷ negsuc 1 ∷ [])) is all (negsuc 3 ∷ negsuc 3 ∷ pos 3 ∷ [])
    ∷ two MOD (all (negsuc 6 ∷ pos 7 ∷ negsuc 6 ∷ [])) (all (pos 2 ∷ negsuc 1 ∷ negsuc 1 ∷ [])) is all (pos 1 ∷ negsuc 0 ∷ negsuc 0 ∷ [])
    -- CMPLT and CMPNE of 2 and 3, 3 and 3, 4 and 3
    ∷ two CMPLT (all (pos 2 ∷ pos 3 ∷ pos 4 ∷ [])) (all (pos 3 ∷ pos 3 ∷ pos 3 ∷ [])) is all (pos 1 ∷ pos 0 ∷ pos 0 ∷ [])
    ∷ two CMPNE (all (pos 2 ∷ pos 3 ∷ pos 4 ∷ [])) (all (pos 3 ∷ pos 3 ∷ pos 3 ∷ [])) is all (pos 1 ∷ pos 0 ∷ pos 1 ∷ [])
    -- AND and OR of 0 0, 0 1, 1 1
    ∷ two AND (all (pos 0 ∷ pos 0 ∷ pos 1 ∷ [])) (all (pos 0 ∷ pos 1 ∷ pos 1 ∷ [])) is all (pos 0 ∷ pos 0 ∷ pos 1 ∷ [])
    ∷ two OR (all (pos 0 ∷ pos 0 ∷ pos 1 ∷ [])) (all (pos 0 ∷ pos 1 ∷ pos 1 ∷ [])) is all (pos 0 ∷ pos 1 ∷ pos 1 ∷ [])
    -- "right-aligned": 2x3 and 3
    ∷ eval_node (node_with ADD (pos 0) [] []) (2 ∷ 3 ∷ []) (record { input = []; a = whole; b = row (all (pos 10 ∷ pos 20 ∷ pos 30 ∷ [])); c = row [] })
    is all (pos 11 ∷ pos 22 ∷ pos 33 ∷ pos 14 ∷ pos 25 ∷ pos 36 ∷ [])
    -- "WHERE is a gap if the condition is one or the chosen side is."; "WHERE 1, 4, gap: 4."
    ∷ choose (all (pos 1 ∷ pos 0 ∷ [])) (all (pos 4 ∷ pos 4 ∷ [])) (gap ∷ gap ∷ []) is (known (pos 4) ∷ gap ∷ [])
    ∷ choose (all (pos 1 ∷ pos 0 ∷ [])) (gap ∷ gap ∷ []) (all (pos 5 ∷ pos 5 ∷ [])) is (gap ∷ known (pos 5) ∷ [])
    ∷ choose (gap ∷ []) (known (pos 4) ∷ []) (known (pos 4) ∷ []) is (gap ∷ [])
    -- "number 0 sum, 1 max", over the flagged axis; "REDUCE if any element it gathers is"
    ∷ from REDUCE (pos 0) (1 ∷ 0 ∷ []) [] (1 ∷ 3 ∷ []) whole is all (pos 5 ∷ pos 7 ∷ pos 9 ∷ [])
    ∷ from REDUCE (pos 1) (0 ∷ 1 ∷ []) [] (2 ∷ 1 ∷ []) whole is all (pos 3 ∷ pos 6 ∷ [])
    ∷ from REDUCE (pos 0) (0 ∷ 1 ∷ []) [] (2 ∷ 1 ∷ []) holed is (known (pos 6) ∷ gap ∷ [])
    -- FILL: "T where known, else C"; a gap of both is a gap; 0 is known
    ∷ two FILL (known (pos 0) ∷ gap ∷ gap ∷ []) (known (pos 5) ∷ known (pos 6) ∷ gap ∷ []) is (known (pos 0) ∷ known (pos 6) ∷ gap ∷ [])
    ∷ eval_node (node_with FILL (pos 0) [] []) (2 ∷ 3 ∷ []) (record { input = []; a = holed; b = row (all (pos 10 ∷ pos 20 ∷ pos 30 ∷ [])); c = row [] })
    is all (pos 1 ∷ pos 2 ∷ pos 3 ∷ pos 4 ∷ pos 20 ∷ pos 6 ∷ [])
    -- KNOWN: "1 where the source is known, else 0, never a gap"
    ∷ from KNOWN (pos 0) [] [] (3 ∷ []) (row (known (pos 0) ∷ gap ∷ known (negsuc 6) ∷ [])) is all (pos 1 ∷ pos 0 ∷ pos 1 ∷ [])
    -- STACK: one source after another, gaps carried along
    ∷ stack 2 (2 ∷ 2 ∷ []) (row (known (pos 1) ∷ gap ∷ [])) (row (gap ∷ known (pos 4) ∷ [])) (row []) is (known (pos 1) ∷ gap ∷ gap ∷ known (pos 4) ∷ [])
    ∷ stack 3 (3 ∷ []) (field [] (all (pos 7 ∷ []))) (field [] (gap ∷ [])) (field [] (all (pos 9 ∷ []))) is (known (pos 7) ∷ gap ∷ known (pos 9) ∷ [])
    ∷ []

pub facts_hold : map asked facts ≡ map said facts
unfolding Rattle.laws.specs.Integers.min_z Rattle.laws.specs.Integers.max_z Rattle.laws.specs.Integers.floor_div Rattle.laws.specs.Integers.floor_mod Rattle.laws.specs.Lists.tab Rattle.laws.specs.Lists.all_below Rattle.laws.specs.Lists.among Rattle.laws.specs.Lists.position Rattle.laws.specs.Numbering.count Rattle.laws.specs.Numbering.ravel Rattle.laws.specs.Numbering.coord Rattle.plan.specs.Words.size_of Rattle.shapes.specs.Rules.reduced Rattle.shapes.specs.Rules.gathered_extents Rattle.shapes.specs.Sources.permute_source Rattle.shapes.specs.Sources.flip_source Rattle.shapes.specs.Sources.expand_source Rattle.shapes.specs.Sources.in_source Rattle.shapes.specs.Sources.pad_source Rattle.shapes.specs.Sources.shrink_source Rattle.shapes.specs.Sources.source_element Rattle.shapes.specs.Sources.broadcast_source Rattle.shapes.specs.Sources.reduce_source Rattle.shapes.specs.Sources.gathered Rattle.cells.specs.Cells.fold_cells Rattle.cells.specs.Cells.binary Rattle.cells.specs.Cells.reduction Rattle.cells.specs.Nodes.eval_cell Rattle.cells.specs.Nodes.eval_node Rattle.cells.specs.Nodes.stack_cell
facts_hold = refl
