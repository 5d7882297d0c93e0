-- Which element of its source an element of a node is. s is the source's extents, r the node's.
use Rattle.std.specs.Prelude.{ℕ, ◌+◌, ◌-◌, ◌<◌, Bool, ◌&&◌, cond, List, [], ◌∷◌, leb, ltb, eqb, length, take}
use Rattle.std.proofs.Math.Option.{Option, none, some}
use Rattle.laws.specs.Lists.{tab, all_below, position}
use Rattle.laws.specs.Numbering.{count, ravel, coord}
use Rattle.plan.specs.declared.Node.{Node}
use Rattle.plan.specs.declared.ElementNumber.{ElementNumber}
use Rattle.plan.specs.Operations.{PERMUTE, FLIP, RESHAPE, EXPAND, PAD, SHRINK, LOAD, Entry, ◌⇒◌, by_operation}
use Rattle.plan.specs.Words.{list_of, element}
use Rattle.shapes.specs.Rules.{extent, word_of, flagged, gathered_extents, reduced}

-- "PERMUTE: result axis k is source axis A_k": along source axis m the coordinate is that of the result axis k with A_k = m.
-- So coordinate A_k of the source element is coordinate k of the result's (`permute_coordinate` of proofs/Sources.antt).
unfoldable pub permute_source : List ℕ → List ℕ → List ℕ → ℕ → ℕ
permute_source s r row e = ravel s (λ (m : ℕ). coord r e (position m (take (length s) row)))

-- "FLIP: flag 1 reverses."
unfoldable pub flip_source : List ℕ → List ℕ → List ℕ → ℕ → ℕ
flip_source s r flags e = ravel s (λ (k : ℕ). cond (flagged flags k) (extent s k - 1 - coord r e k) (coord r e k))

-- "EXPAND: same rank, s_k is 1 or s'_k": an extent of 1 serves every coordinate
unfoldable pub expand_source : List ℕ → List ℕ → ℕ → ℕ
expand_source s r e = ravel s (λ (k : ℕ). cond (eqb (extent s k) 1) 0 (coord r e k))

-- PAD at offsets o: a result cell is the source's from o_k on, for s_k cells; "PAD's new cells are gaps."
unfoldable pub in_source : List ℕ → List ℕ → List ℕ → ℕ → Bool
in_source s r o e = all_below (length s) (λ (k : ℕ). leb (word_of o k) (coord r e k) && ltb (coord r e k) (word_of o k + extent s k))

unfoldable pub pad_source : List ℕ → List ℕ → List ℕ → ℕ → Option ElementNumber
pad_source s r o e = cond (in_source s r o e) (some (element (ravel s (λ (k : ℕ). coord r e k - word_of o k)))) none

-- SHRINK at offsets o
unfoldable pub shrink_source : List ℕ → List ℕ → List ℕ → ℕ → ℕ
shrink_source s r o e = ravel s (λ (k : ℕ). coord r e k + word_of o k)

-- The element of the source that element e of a node 2–7 or 20 is; none where it is a gap. The run and the lookup both cite it.
-- RESHAPE and LOAD keep the number. No other operation is followed back, so the table has no row for them.
abbrev pub source_rules : Node → List ℕ → List ℕ → ElementNumber → List (Entry (Option ElementNumber))
source_rules x s r e =
    (PERMUTE ∷ []) ⇒ some (element (permute_source s r (list_of x.rowa) e.0))
    ∷ (FLIP ∷ []) ⇒ some (element (flip_source s r (list_of x.rowa) e.0))
    ∷ (RESHAPE ∷ LOAD ∷ []) ⇒ some e
    ∷ (EXPAND ∷ []) ⇒ some (element (expand_source s r e.0))
    ∷ (PAD ∷ []) ⇒ pad_source s r (list_of x.rowb) e.0
    ∷ (SHRINK ∷ []) ⇒ some (element (shrink_source s r (list_of x.rowb) e.0))
    ∷ []

unfoldable pub source_element : Node → List ℕ → List ℕ → ElementNumber → Option ElementNumber
source_element x s r e = by_operation x.op (source_rules x s r e) none

-- where there is a source element, it is one of n
abbrev pub Below : ℕ → Option ElementNumber → Type 0
Below n none = Unit
Below n (some e) = e.0 < n

-- "Binary and WHERE: right-aligned; each axis equal or 1": axis k of an operand is axis k + (rank of the result − its rank)
unfoldable pub broadcast_source : List ℕ → List ℕ → ElementNumber → ElementNumber
broadcast_source s r e =
    element (ravel s (λ (k : ℕ). cond (eqb (extent s k) 1) 0 (coord r e.0 (length r - length s + k))))

-- the i-th element that REDUCE gathers into element e: along a flagged axis the coordinate of i, along the others that of e
unfoldable pub reduce_source : List ℕ → List ℕ → ElementNumber → ℕ → ElementNumber
reduce_source s flags e i =
    element (ravel s (λ (k : ℕ). cond (flagged flags k) (coord (gathered_extents s flags) i k) (coord (reduced s flags) e.0 k)))

-- all that it gathers
unfoldable pub gathered : List ℕ → List ℕ → ElementNumber → List ElementNumber
gathered s flags e = tab (count (gathered_extents s flags)) (reduce_source s flags e)
