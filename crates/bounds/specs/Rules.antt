-- The bounds of each operation's result, "With [a,A], [b,B], [c,C] of the sources".
use Rattle.std.specs.Prelude.{ℕ, Bool, ◌&&◌, ◌||◌, cond, List, [], ◌∷◌, ◌++◌, ℤ, pos, ◌+ℤ◌, ◌-ℤ◌, ◌*ℤ◌, eqb}
use Rattle.std.specs.Int.Signed.{le_z, lt_z}
use Rattle.laws.specs.Integers.{same_z, min_z, max_z, min4, max4, floor_div}
use Rattle.laws.specs.Numbering.{count}
use Rattle.plan.specs.declared.Interval.{Interval}
use Rattle.plan.specs.declared.Node.{Node}
use Rattle.plan.specs.Operations.{CONST, PARAM, CAST, ADD, MUL, MAX, IDIV, MOD, CMPLT, CMPNE, AND, OR, WHERE, REDUCE, LOAD, FILL, KNOWN, STACK, movements, Entry, ◌⇒◌, by_operation}
use Rattle.plan.specs.Types.{between}
use Rattle.plan.specs.Words.{size_of, list_of, reads}
use Rattle.shapes.specs.Rules.{gathered_extents}

-- "least and greatest of four"
unfoldable pub corners : (ℤ → ℤ → ℤ) → Interval → Interval → Interval
corners f a b =
    between (min4 (f a.low b.low) (f a.low b.high) (f a.high b.low) (f a.high b.high))
    (max4 (f a.low b.low) (f a.low b.high) (f a.high b.low) (f a.high b.high))

-- "ADD [a+b,A+B]"
unfoldable pub add_bounds : Interval → Interval → Interval
add_bounds a b = between (a.low +ℤ b.low) (a.high +ℤ b.high)

-- "MUL least and greatest of four products"
unfoldable pub mul_bounds : Interval → Interval → Interval
mul_bounds = corners ◌*ℤ◌

-- "MAX [max(a,b),max(A,B)]"; "OR [max(a,b),max(A,B)]"
unfoldable pub max_bounds : Interval → Interval → Interval
max_bounds a b = between (max_z a.low b.low) (max_z a.high b.high)

-- "IDIV least and greatest of four floored corner quotients"
unfoldable pub idiv_bounds : Interval → Interval → Interval
idiv_bounds = corners floor_div

-- "MOD [0,B−1] for b>0, [b+1,0] for B<0"; rule 10 leaves no third case
unfoldable pub mod_bounds : Interval → Interval
mod_bounds b = cond (lt_z (pos 0) b.low) (between (pos 0) (b.high -ℤ pos 1)) (between (b.low +ℤ pos 1) (pos 0))

-- "AND [min(a,b),min(A,B)]"
unfoldable pub min_bounds : Interval → Interval → Interval
min_bounds a b = between (min_z a.low b.low) (min_z a.high b.high)

-- "WHERE [min(b,c),max(B,C)]"
unfoldable pub where_bounds : Interval → Interval → Interval
where_bounds b c = between (min_z b.low c.low) (max_z b.high c.high)

-- "CMPLT is [1,1] if A<b, [0,0] if a≥B, else [0,1]."
unfoldable pub cmplt_bounds : Interval → Interval → Interval
cmplt_bounds a b =
    cond (lt_z a.high b.low) (between (pos 1) (pos 1))
    (cond (le_z b.high a.low) (between (pos 0) (pos 0)) (between (pos 0) (pos 1)))

-- "CMPNE is [1,1] if the two are disjoint, [0,0] if all four ends are equal, else [0,1]."
unfoldable pub disjoint : Interval → Interval → Bool
disjoint a b = lt_z a.high b.low || lt_z b.high a.low

unfoldable pub all_ends_equal : Interval → Interval → Bool
all_ends_equal a b = same_z a.low a.high && (same_z b.low b.high && same_z a.low b.low)

unfoldable pub cmpne_bounds : Interval → Interval → Interval
cmpne_bounds a b =
    cond (disjoint a b) (between (pos 1) (pos 1))
    (cond (all_ends_equal a b) (between (pos 0) (pos 0)) (between (pos 0) (pos 1)))

-- "n is the product of flagged extents, 1 if none."
unfoldable pub gathered_count : List ℕ → List ℕ → ℕ
gathered_count s flags = count (gathered_extents s flags)

-- "REDUCE sum over n elements [n·a,n·A]; max, the source's."
unfoldable pub reduce_bounds : ℤ → ℕ → Interval → Interval
reduce_bounds number n a = cond (eqb (size_of number) 0) (between (pos n *ℤ a.low) (pos n *ℤ a.high)) a

-- STACK: "bounds least and greatest"
unfoldable pub stack_bounds : Bool → Interval → Interval → Interval → Interval
stack_bounds third a b c = cond third (where_bounds (where_bounds a b) c) (where_bounds a b)

-- FILL: "bounds least low and greatest high". KNOWN: "bounds [0,1]".
-- "CONST [v,v]; PARAM [low,high]; movement (2–7) and LOAD, the source's"; "CAST the source's"; s is the first source's extents
abbrev pub bounds_rules : Node → List ℕ → Interval → Interval → Interval → List (Entry Interval)
bounds_rules x s a b c =
    (CONST ∷ []) ⇒ between x.number x.number
    ∷ (PARAM ∷ []) ⇒ between x.low x.high
    ∷ (movements ++ LOAD ∷ CAST ∷ []) ⇒ a
    ∷ (ADD ∷ []) ⇒ add_bounds a b
    ∷ (MUL ∷ []) ⇒ mul_bounds a b
    ∷ (MAX ∷ OR ∷ []) ⇒ max_bounds a b
    ∷ (IDIV ∷ []) ⇒ idiv_bounds a b
    ∷ (MOD ∷ []) ⇒ mod_bounds b
    ∷ (AND ∷ []) ⇒ min_bounds a b
    ∷ (WHERE ∷ []) ⇒ where_bounds b c
    ∷ (CMPLT ∷ []) ⇒ cmplt_bounds a b
    ∷ (CMPNE ∷ []) ⇒ cmpne_bounds a b
    ∷ (REDUCE ∷ []) ⇒ reduce_bounds x.number (gathered_count s (list_of x.rowa)) a
    ∷ (FILL ∷ []) ⇒ where_bounds a b
    ∷ (KNOWN ∷ []) ⇒ between (pos 0) (pos 1)
    ∷ (STACK ∷ []) ⇒ stack_bounds (reads x 3) a b c
    ∷ []

unfoldable pub result_bounds : Node → List ℕ → Interval → Interval → Interval → Interval
result_bounds x s a b c = by_operation x.op (bounds_rules x s a b c) (between (pos 0) (pos 0))
