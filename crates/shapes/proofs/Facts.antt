-- What the paper says of shapes and of source elements in single cases. One computation shows all of them.
use Prim.Native.Nat.{ℕ}
use mathlib.Core.Path.{◌≡◌, refl}
use mathlib.Core.Bool.{Bool, true, false}
use mathlib.Core.Option.{Option, none, some}
use mathlib.Core.List.{List, [], ◌∷◌, map}
use lib.IntN.{ℤ, pos}
use lib.ListN.{get_or}
use Rattle.laws.specs.Lists.{tab}
use Rattle.laws.specs.Numbering.{count}
use Rattle.plan.specs.declared.ElementNumber.{ElementNumber}
use Rattle.plan.specs.declared.Node.{Node}
use Rattle.plan.specs.declared.Row.{Row}
use Rattle.plan.specs.Operations.{PERMUTE, FLIP, RESHAPE, EXPAND, PAD, SHRINK, ADD, WHERE, REDUCE, LOAD}
use Rattle.plan.specs.Words.{node, element}
use Rattle.shapes.specs.Rows.{is_shape_row, is_flag_row, is_offset_row, is_permutation}
use Rattle.shapes.specs.Rules.{element_limit, shapes_agree, result_extents}
use Rattle.shapes.specs.Sources.{source_element, broadcast_source, gathered}

pub data Value : Type 0 where
  tests : List Bool → Value
  numbers : List ℕ → Value
  elements : List ElementNumber → Value
  sources : List (Option ElementNumber) → Value

pub data Fact : Type 0 where
  ◌is◌ : Value → Value → Fact

infix 68 ◌is◌
abbrev asked : Fact → Value
asked (a is b) = a

abbrev said : Fact → Value
said (a is b) = b

abbrev pub row : List ℕ → Row
row ns = record { r0 = get_or ns 0 0; r1 = get_or ns 1 0; r2 = get_or ns 2 0; r3 = get_or ns 3 0 }

-- an operation with its number and its rows A and B
abbrev pub node_with : ℕ → ℤ → List ℕ → List ℕ → Node
node_with op number a b =
    record {
      op = op;
      source1 = node 0;
      source2 = node 0;
      source3 = node 0;
      dtype = 0;
      number = number;
      device = 0;
      low = pos 0;
      high = pos 0;
      rowa = row a;
      rowb = row b;
    }

-- a source of extents s meets the shape rule, with these rows
abbrev fits : ℕ → List ℕ → List ℕ → List ℕ → Bool
fits op s a b = shapes_agree (node_with op (pos 0) a b) s [] []

-- so do operands of extents s, t and u
abbrev agree : ℕ → List ℕ → List ℕ → List ℕ → Bool
agree op = shapes_agree (node_with op (pos 0) [] [])

-- the extents of a result, with row A and sources s, t and u
abbrev result : ℕ → List ℕ → List ℕ → List ℕ → List ℕ → Value
result op a s t u = numbers (result_extents (node_with op (pos 0) a []) s t u)

-- the source elements of all elements of a node of extents r, its source of extents s, with rows A and B
abbrev origins : ℕ → List ℕ → List ℕ → List ℕ → List ℕ → Value
origins op s r a b = sources (tab (count r) (λ (e : ℕ). source_element (node_with op (pos 0) a b) s r (element e)))

abbrev known : List ℕ → Value
known es = sources (map (λ (e : ℕ). some (element e)) es)

-- the elements of an operand of extents s under all elements of a result of extents r
abbrev operand : List ℕ → List ℕ → Value
operand s r = elements (tab (count r) (λ (e : ℕ). broadcast_source s r (element e)))

abbrev these : List ℕ → Value
these es = elements (map element es)

abbrev facts : List Fact
facts =
    -- "A shape row is rank extents of 1..1048576, then zeros."
    tests (map is_shape_row ((2 ∷ 3 ∷ 0 ∷ 0 ∷ []) ∷ (2 ∷ 0 ∷ 3 ∷ 0 ∷ []) ∷ (1048576 ∷ 0 ∷ 0 ∷ 0 ∷ []) ∷ (1048577 ∷ 0 ∷ 0 ∷ 0 ∷ []) ∷ []))
    is tests (true ∷ false ∷ true ∷ false ∷ [])
    -- "FLIP's and REDUCE's are flags", "all with zeros after"
    ∷ tests (map (is_flag_row 2) ((0 ∷ 1 ∷ 0 ∷ 0 ∷ []) ∷ (2 ∷ 0 ∷ 0 ∷ 0 ∷ []) ∷ (0 ∷ 0 ∷ 1 ∷ 0 ∷ []) ∷ []))
    is tests (true ∷ false ∷ false ∷ [])
    -- "B holds 0..1048576 over the source's rank"
    ∷ tests (map (is_offset_row 1) ((1048576 ∷ 0 ∷ 0 ∷ 0 ∷ []) ∷ (1048577 ∷ 0 ∷ 0 ∷ 0 ∷ []) ∷ (0 ∷ 1 ∷ 0 ∷ 0 ∷ []) ∷ []))
    is tests (true ∷ false ∷ false ∷ [])
    -- "PERMUTE's row is 0..rank−1 once each"
    ∷ tests (map (is_permutation 2) ((1 ∷ 0 ∷ 0 ∷ 0 ∷ []) ∷ (1 ∷ 1 ∷ 0 ∷ 0 ∷ []) ∷ (1 ∷ 2 ∷ 0 ∷ 0 ∷ []) ∷ (0 ∷ 1 ∷ 2 ∷ 0 ∷ []) ∷ []))
    is tests (true ∷ false ∷ false ∷ false ∷ [])
    -- "RESHAPE: equal element counts."
    ∷ tests (fits RESHAPE (2 ∷ 3 ∷ []) (6 ∷ []) [] ∷ fits RESHAPE (2 ∷ 3 ∷ []) (5 ∷ []) [] ∷ []) is tests (true ∷ false ∷ [])
    -- "EXPAND: same rank, s_k is 1 or s'_k."
    ∷ tests (fits EXPAND (2 ∷ 1 ∷ []) (2 ∷ 4 ∷ []) [] ∷ fits EXPAND (2 ∷ 1 ∷ []) (1 ∷ 4 ∷ []) [] ∷ fits EXPAND (1 ∷ []) (1 ∷ 4 ∷ []) [] ∷ [])
    is tests (true ∷ false ∷ false ∷ [])
    -- "PAD with o+s equal to s': accepted; one more: 8."
    ∷ tests (fits PAD (2 ∷ []) (5 ∷ []) (3 ∷ []) ∷ fits PAD (2 ∷ []) (5 ∷ []) (4 ∷ []) ∷ []) is tests (true ∷ false ∷ [])
    -- "SHRINK: same rank, o_k + s'_k ≤ s_k."
    ∷ tests (fits SHRINK (5 ∷ []) (2 ∷ []) (3 ∷ []) ∷ fits SHRINK (5 ∷ []) (2 ∷ []) (4 ∷ []) ∷ []) is tests (true ∷ false ∷ [])
    -- "Binary and WHERE: right-aligned; each axis equal or 1; the larger wins."
    ∷ tests (agree ADD (2 ∷ 3 ∷ []) (3 ∷ []) [] ∷ agree ADD (2 ∷ 3 ∷ []) (2 ∷ []) [] ∷ agree WHERE (3 ∷ []) (2 ∷ 1 ∷ []) (2 ∷ 3 ∷ []) ∷ agree WHERE (3 ∷ []) (2 ∷ 1 ∷ []) (4 ∷ 3 ∷ []) ∷ [])
    is tests (true ∷ false ∷ true ∷ false ∷ [])
    ∷ result ADD [] (2 ∷ 1 ∷ []) (3 ∷ []) [] is numbers (2 ∷ 3 ∷ [])
    ∷ result WHERE [] (1 ∷ []) (3 ∷ []) (2 ∷ 1 ∷ []) is numbers (2 ∷ 3 ∷ [])
    -- "over 1048576 elements"
    ∷ numbers (element_limit ∷ []) is numbers (1048576 ∷ [])
    -- "PERMUTE: result axis k is source axis A_k."
    ∷ result PERMUTE (1 ∷ 2 ∷ 0 ∷ []) (2 ∷ 3 ∷ 4 ∷ []) [] [] is numbers (3 ∷ 4 ∷ 2 ∷ [])
    -- "REDUCE: flagged axes become 1; rank stays."
    ∷ result REDUCE (1 ∷ 0 ∷ []) (2 ∷ 3 ∷ []) [] [] is numbers (1 ∷ 3 ∷ [])
    -- "PERMUTE (1,0) of 2x3: element 3 is source element 4."; then (1,2,0) of 2x1x3
    ∷ origins PERMUTE (2 ∷ 3 ∷ []) (3 ∷ 2 ∷ []) (1 ∷ 0 ∷ []) [] is known (0 ∷ 3 ∷ 1 ∷ 4 ∷ 2 ∷ 5 ∷ [])
    ∷ origins PERMUTE (2 ∷ 1 ∷ 3 ∷ []) (1 ∷ 3 ∷ 2 ∷ []) (1 ∷ 2 ∷ 0 ∷ []) [] is known (0 ∷ 3 ∷ 1 ∷ 4 ∷ 2 ∷ 5 ∷ [])
    -- "FLIP: flag 1 reverses."
    ∷ origins FLIP (2 ∷ 3 ∷ []) (2 ∷ 3 ∷ []) (0 ∷ 1 ∷ []) [] is known (2 ∷ 1 ∷ 0 ∷ 5 ∷ 4 ∷ 3 ∷ [])
    -- "Elements are numbered row-major.": RESHAPE keeps the numbers, and so does LOAD
    ∷ origins RESHAPE (2 ∷ 2 ∷ []) (4 ∷ []) (4 ∷ []) [] is known (0 ∷ 1 ∷ 2 ∷ 3 ∷ [])
    ∷ origins LOAD (3 ∷ []) (3 ∷ []) [] [] is known (0 ∷ 1 ∷ 2 ∷ [])
    -- "EXPAND: same rank, s_k is 1 or s'_k."
    ∷ origins EXPAND (2 ∷ 1 ∷ []) (2 ∷ 2 ∷ []) (2 ∷ 2 ∷ []) [] is known (0 ∷ 0 ∷ 1 ∷ 1 ∷ [])
    -- "7 9 padded to 5 at 1: gap 7 9 gap gap"
    ∷ origins PAD (2 ∷ []) (5 ∷ []) (5 ∷ []) (1 ∷ []) is sources (none ∷ some (element 0) ∷ some (element 1) ∷ none ∷ none ∷ [])
    -- SHRINK of 2x3 to 1x2 at 1 and 1
    ∷ origins SHRINK (2 ∷ 3 ∷ []) (1 ∷ 2 ∷ []) (1 ∷ 2 ∷ []) (1 ∷ 1 ∷ []) is known (4 ∷ 5 ∷ [])
    -- "right-aligned": operands of 3 and of 2x1 under 2x3
    ∷ operand (3 ∷ []) (2 ∷ 3 ∷ []) is these (0 ∷ 1 ∷ 2 ∷ 0 ∷ 1 ∷ 2 ∷ [])
    ∷ operand (2 ∷ 1 ∷ []) (2 ∷ 3 ∷ []) is these (0 ∷ 0 ∷ 0 ∷ 1 ∷ 1 ∷ 1 ∷ [])
    -- what REDUCE of 2x3 gathers into element 1: over axis 0, and over axis 1
    ∷ elements (gathered (2 ∷ 3 ∷ []) (1 ∷ 0 ∷ []) (element 1)) is these (1 ∷ 4 ∷ [])
    ∷ elements (gathered (2 ∷ 3 ∷ []) (0 ∷ 1 ∷ []) (element 1)) is these (3 ∷ 4 ∷ 5 ∷ [])
    ∷ []

pub facts_hold : map asked facts ≡ map said facts
unfolding Rattle.laws.specs.Lists.tab Rattle.laws.specs.Lists.all_below Rattle.laws.specs.Lists.among Rattle.laws.specs.Lists.occurrences Rattle.laws.specs.Lists.position Rattle.laws.specs.Numbering.count Rattle.laws.specs.Numbering.ravel Rattle.laws.specs.Numbering.coord Rattle.shapes.specs.Rows.extents_of Rattle.shapes.specs.Rows.row_of Rattle.shapes.specs.Rows.is_shape_row Rattle.shapes.specs.Rows.is_flag_row Rattle.shapes.specs.Rows.is_offset_row Rattle.shapes.specs.Rows.is_permutation Rattle.shapes.specs.Rules.same_rank Rattle.shapes.specs.Rules.aligned Rattle.shapes.specs.Rules.can_broadcast Rattle.shapes.specs.Rules.broadcast Rattle.shapes.specs.Rules.shapes_agree Rattle.shapes.specs.Rules.permuted Rattle.shapes.specs.Rules.reduced Rattle.shapes.specs.Rules.gathered_extents Rattle.shapes.specs.Rules.result_extents Rattle.shapes.specs.Sources.permute_source Rattle.shapes.specs.Sources.flip_source Rattle.shapes.specs.Sources.expand_source Rattle.shapes.specs.Sources.in_source Rattle.shapes.specs.Sources.pad_source Rattle.shapes.specs.Sources.shrink_source Rattle.shapes.specs.Sources.source_element Rattle.shapes.specs.Sources.broadcast_source Rattle.shapes.specs.Sources.reduce_source Rattle.shapes.specs.Sources.gathered
facts_hold = refl
