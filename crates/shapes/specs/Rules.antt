-- The shape rule of each operation. s, t and u are the extents of its sources; A is s', B is o.
use Rattle.std.specs.Prelude.{ℕ, ◌+◌, ◌-◌, max, Bool, true, false, ◌&&◌, ◌||◌, not, cond, List, [], ◌∷◌, ◌++◌, map, leb, eqb, length, get_or, take, replicate}
use Rattle.laws.specs.Lists.{tab, all_below}
use Rattle.laws.specs.Numbering.{count}
use Rattle.plan.specs.declared.Node.{Node}
use Rattle.plan.specs.Operations.{CONST, PARAM, PERMUTE, FLIP, RESHAPE, EXPAND, PAD, SHRINK, CAST, WHERE, REDUCE, LOAD, FILL, KNOWN, STACK, binaries, Entry, ◌⇒◌, by_operation}
use Rattle.plan.specs.Words.{list_of, size_of, reads}
use Rattle.shapes.specs.Rows.{extents_of}

-- "over 1048576 elements"
abbrev pub element_limit : ℕ
element_limit = 1048576

-- extent k; 1 past the rank
abbrev pub extent : List ℕ → ℕ → ℕ
extent s k = get_or s k 1

-- word k of a row
abbrev pub word_of : List ℕ → ℕ → ℕ
word_of row k = get_or row k 0

abbrev pub flagged : List ℕ → ℕ → Bool
flagged flags k = eqb (word_of flags k) 1

-- same rank, and p holds of each axis
unfoldable pub same_rank : List ℕ → List ℕ → (ℕ → Bool) → Bool
same_rank s r p = eqb (length s) (length r) && all_below (length s) p

-- the same extents
unfoldable pub same_shape : List ℕ → List ℕ → Bool
same_shape s t = same_rank s t (λ (k : ℕ). eqb (extent s k) (extent t k))

-- ---- "Binary and WHERE: right-aligned; each axis equal or 1; the larger wins."

-- "right-aligned": extents of 1 in front, up to rank n
unfoldable pub aligned : ℕ → List ℕ → List ℕ
aligned n s = replicate (n - length s) 1 ++ s

abbrev pub equal_or_one : ℕ → ℕ → Bool
equal_or_one n m = eqb n m || (eqb n 1 || eqb m 1)

unfoldable pub can_broadcast : List ℕ → List ℕ → Bool
can_broadcast s t =
    let n = max (length s) (length t) in
    all_below n (λ (k : ℕ). equal_or_one (extent (aligned n s) k) (extent (aligned n t) k))

unfoldable pub broadcast : List ℕ → List ℕ → List ℕ
broadcast s t =
    let n = max (length s) (length t) in
    tab n (λ (k : ℕ). max (extent (aligned n s) k) (extent (aligned n t) k))

-- ---- rule 8, without its limit

-- "RESHAPE: equal element counts. EXPAND: same rank, s_k is 1 or s'_k. PAD: same rank, offset o_k + s_k ≤ s'_k. SHRINK: same rank,
-- o_k + s'_k ≤ s_k." FILL: "broadcast". STACK: "all shapes .. equal, source rank at most 3".
abbrev pub shape_rules : Node → List ℕ → List ℕ → List ℕ → List (Entry Bool)
shape_rules x s t u =
    let r = extents_of (list_of x.rowa) in
    let o = list_of x.rowb in
    (CONST ∷ PARAM ∷ PERMUTE ∷ FLIP ∷ CAST ∷ REDUCE ∷ LOAD ∷ KNOWN ∷ []) ⇒ true
    ∷ (RESHAPE ∷ []) ⇒ eqb (count s) (count r)
    ∷ (EXPAND ∷ []) ⇒ same_rank s r (λ (k : ℕ). eqb (extent s k) 1 || eqb (extent s k) (extent r k))
    ∷ (PAD ∷ []) ⇒ same_rank s r (λ (k : ℕ). leb (word_of o k + extent s k) (extent r k))
    ∷ (SHRINK ∷ []) ⇒ same_rank s r (λ (k : ℕ). leb (word_of o k + extent r k) (extent s k))
    ∷ (FILL ∷ binaries) ⇒ can_broadcast s t
    ∷ (WHERE ∷ []) ⇒ (can_broadcast s t && can_broadcast (broadcast s t) u)
    ∷ (STACK ∷ []) ⇒ (same_shape s t && ((not (reads x 3) || same_shape s u) && leb (length s) 3))
    ∷ []

unfoldable pub shapes_agree : Node → List ℕ → List ℕ → List ℕ → Bool
shapes_agree x s t u = by_operation x.op (shape_rules x s t u) false

-- ---- the extents of the result

-- "PERMUTE: result axis k is source axis A_k."
unfoldable pub permuted : List ℕ → List ℕ → List ℕ
permuted s row = map (λ (a : ℕ). extent s a) (take (length s) row)

-- "REDUCE: flagged axes become 1; rank stays."
unfoldable pub reduced : List ℕ → List ℕ → List ℕ
reduced s flags = tab (length s) (λ (k : ℕ). cond (flagged flags k) 1 (extent s k))

-- the extents that it gathers over: those of the flagged axes, 1 along the others
unfoldable pub gathered_extents : List ℕ → List ℕ → List ℕ
gathered_extents s flags = tab (length s) (λ (k : ℕ). cond (flagged flags k) (extent s k) 1)

-- "number 2 or 3 of sources joined on a new leading axis"
abbrev pub result_rules : Node → List ℕ → List ℕ → List ℕ → List (Entry (List ℕ))
result_rules x s t u =
    (CONST ∷ []) ⇒ []
    ∷ (PARAM ∷ RESHAPE ∷ EXPAND ∷ PAD ∷ SHRINK ∷ []) ⇒ extents_of (list_of x.rowa)
    ∷ (PERMUTE ∷ []) ⇒ permuted s (list_of x.rowa)
    ∷ (FLIP ∷ CAST ∷ LOAD ∷ KNOWN ∷ []) ⇒ s
    ∷ (FILL ∷ binaries) ⇒ broadcast s t
    ∷ (WHERE ∷ []) ⇒ broadcast (broadcast s t) u
    ∷ (REDUCE ∷ []) ⇒ reduced s (list_of x.rowa)
    ∷ (STACK ∷ []) ⇒ (size_of x.number ∷ s)
    ∷ []

unfoldable pub result_extents : Node → List ℕ → List ℕ → List ℕ → List ℕ
result_extents x s t u = by_operation x.op (result_rules x s t u) []
