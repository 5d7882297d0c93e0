-- What the paper says of bounds in single cases. One computation shows all of them.
use Prim.Native.Nat.{ℕ}
use mathlib.Core.Path.{◌≡◌, refl}
use mathlib.Core.List.{List, [], ◌∷◌, ◌++◌, map}
use lib.IntN.{ℤ, pos, negsuc}
use lib.ListN.{replicate}
use Rattle.plan.specs.declared.Interval.{Interval}
use Rattle.plan.specs.Operations.{CONST, PARAM, PERMUTE, CAST, ADD, MUL, MAX, IDIV, MOD, CMPLT, CMPNE, AND, OR, WHERE, REDUCE}
use Rattle.plan.specs.Types.{between}
use Rattle.plan.specs.Words.{node_of}
use Rattle.shapes.proofs.Facts.{node_with}
use Rattle.bounds.specs.Rules.{result_bounds}

pub data Fact : Type 0 where
  ◌is◌ : Interval → Interval → Fact

infix 68 ◌is◌
abbrev asked : Fact → Interval
asked (a is b) = a

abbrev said : Fact → Interval
said (a is b) = b

-- the interval of one number
abbrev just : ℤ → Interval
just v = between v v

-- the bounds of an operation on sources with these bounds
abbrev one : ℕ → Interval → Interval
one op a = result_bounds (node_with op (pos 0) [] []) [] a (just (pos 0)) (just (pos 0))

abbrev two : ℕ → Interval → Interval → Interval
two op a b = result_bounds (node_with op (pos 0) [] []) [] a b (just (pos 0))

abbrev three : Interval → Interval → Interval → Interval
three = result_bounds (node_with WHERE (pos 0) [] []) []

-- REDUCE of extents s, with its number and flags
abbrev reduce : ℤ → List ℕ → List ℕ → Interval → Interval
reduce number s flags a = result_bounds (node_with REDUCE number flags []) s a (just (pos 0)) (just (pos 0))

abbrev facts : List Fact
facts =
    -- "CONST [v,v]; PARAM [low,high]"
    result_bounds (node_with CONST (pos 7) [] []) [] (just (pos 0)) (just (pos 0)) (just (pos 0)) is just (pos 7)
    ∷ result_bounds (node_of (pos PARAM ∷ replicate 6 (pos 1) ++ negsuc 3 ∷ pos 10 ∷ [])) [] (just (pos 0)) (just (pos 0)) (just (pos 0))
    is between (negsuc 3) (pos 10)
    -- "movement (2–7) and LOAD, the source's"; "CAST the source's"
    ∷ one PERMUTE (between (negsuc 3) (pos 10)) is between (negsuc 3) (pos 10)
    ∷ one CAST (between (negsuc 3) (pos 10)) is between (negsuc 3) (pos 10)
    -- "ADD [a+b,A+B]": [−16384,16383] with itself, which leaves i16 (02 §2); "[−16383,16383] gives [−32766,32766]"
    ∷ two ADD (between (negsuc 16383) (pos 16383)) (between (negsuc 16383) (pos 16383)) is between (negsuc 32767) (pos 32766)
    ∷ two ADD (between (negsuc 16382) (pos 16383)) (between (negsuc 16382) (pos 16383)) is between (negsuc 32765) (pos 32766)
    -- "MUL least and greatest of four products": 15 −21 −10 14, and 14 −10 −21 15
    ∷ two MUL (between (negsuc 2) (pos 2)) (between (negsuc 4) (pos 7)) is between (negsuc 20) (pos 15)
    ∷ two MUL (between (negsuc 1) (pos 3)) (between (negsuc 6) (pos 5)) is between (negsuc 20) (pos 15)
    -- "MAX [max(a,b),max(A,B)]"
    ∷ two MAX (between (negsuc 3) (pos 10)) (between (pos 0) (pos 3)) is between (pos 0) (pos 10)
    -- "IDIV [−7,7] by 2: [−4,3]."; by −3 and −2 the quotients are 2 3 −3 −4
    ∷ two IDIV (between (negsuc 6) (pos 7)) (just (pos 2)) is between (negsuc 3) (pos 3)
    ∷ two IDIV (between (negsuc 6) (pos 7)) (between (negsuc 2) (negsuc 1)) is between (negsuc 3) (pos 3)
    -- "MOD [0,B−1] for b>0, [b+1,0] for B<0"; "MOD by [−3,−2]: [−2,0]."
    ∷ two MOD (just (pos 3)) (between (pos 2) (pos 5)) is between (pos 0) (pos 4)
    ∷ two MOD (just (pos 3)) (between (negsuc 2) (negsuc 1)) is between (negsuc 1) (pos 0)
    -- "AND [min(a,b),min(A,B)], OR [max(a,b),max(A,B)]"
    ∷ two AND (just (pos 1)) (between (pos 0) (pos 1)) is between (pos 0) (pos 1)
    ∷ two OR (just (pos 0)) (between (pos 0) (pos 1)) is between (pos 0) (pos 1)
    -- "WHERE [min(b,c),max(B,C)]", whatever the condition
    ∷ three (just (pos 1)) (between (negsuc 1) (pos 4)) (between (pos 3) (pos 5)) is between (negsuc 1) (pos 5)
    -- "CMPLT is [1,1] if A<b, [0,0] if a≥B, else [0,1]."; "CMPLT of [4,9] and [0,4]: [0,0]."
    ∷ two CMPLT (between (pos 0) (pos 3)) (between (pos 4) (pos 9)) is just (pos 1)
    ∷ two CMPLT (between (pos 4) (pos 9)) (between (pos 0) (pos 4)) is just (pos 0)
    ∷ two CMPLT (between (pos 0) (pos 4)) (between (pos 4) (pos 9)) is between (pos 0) (pos 1)
    -- "CMPNE is [1,1] if the two are disjoint, [0,0] if all four ends are equal, else [0,1]."
    ∷ two CMPNE (between (pos 4) (pos 9)) (between (pos 0) (pos 3)) is just (pos 1)
    ∷ two CMPNE (just (pos 5)) (just (pos 5)) is just (pos 0)
    ∷ two CMPNE (between (pos 0) (pos 4)) (between (pos 4) (pos 9)) is between (pos 0) (pos 1)
    ∷ two CMPNE (between (pos 0) (pos 4)) (between (pos 0) (pos 4)) is between (pos 0) (pos 1)
    -- "Sum of 3 of [−4,10]: [−12,30]."; "n is the product of flagged extents, 1 if none"; "max, the source's"
    ∷ reduce (pos 0) (2 ∷ 3 ∷ []) (0 ∷ 1 ∷ []) (between (negsuc 3) (pos 10)) is between (negsuc 11) (pos 30)
    ∷ reduce (pos 0) (2 ∷ 3 ∷ []) [] (between (negsuc 3) (pos 10)) is between (negsuc 3) (pos 10)
    ∷ reduce (pos 1) (2 ∷ 3 ∷ []) (0 ∷ 1 ∷ []) (between (negsuc 3) (pos 10)) is between (negsuc 3) (pos 10)
    ∷ []

pub facts_hold : map asked facts ≡ map said facts
unfolding Rattle.laws.specs.Integers.min_z Rattle.laws.specs.Integers.max_z Rattle.laws.specs.Integers.min4 Rattle.laws.specs.Integers.max4 Rattle.laws.specs.Integers.floor_div Rattle.laws.specs.Lists.tab Rattle.laws.specs.Lists.among Rattle.laws.specs.Numbering.count Rattle.plan.specs.Words.size_of Rattle.plan.specs.Words.node_of Rattle.shapes.specs.Rules.gathered_extents Rattle.bounds.specs.Rules.corners Rattle.bounds.specs.Rules.add_bounds Rattle.bounds.specs.Rules.mul_bounds Rattle.bounds.specs.Rules.max_bounds Rattle.bounds.specs.Rules.idiv_bounds Rattle.bounds.specs.Rules.mod_bounds Rattle.bounds.specs.Rules.min_bounds Rattle.bounds.specs.Rules.where_bounds Rattle.bounds.specs.Rules.cmplt_bounds Rattle.bounds.specs.Rules.disjoint Rattle.bounds.specs.Rules.all_ends_equal Rattle.bounds.specs.Rules.cmpne_bounds Rattle.bounds.specs.Rules.gathered_count Rattle.bounds.specs.Rules.reduce_bounds Rattle.bounds.specs.Rules.result_bounds
facts_hold = refl
