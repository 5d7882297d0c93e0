-- The rules of one node, 2 to 11: a test for each, true where the rule holds; and what is derived of the node.
use Rattle.std.specs.Prelude.{ℕ, Bool, true, false, ◌&&◌, ◌||◌, not, cond, List, [], ◌∷◌, ◌++◌, ℤ, pos, eqb, ltb, leb, get_or, length}
use Rattle.std.specs.Int.Signed.{le_z}
use Rattle.laws.specs.Lists.{among}
use Rattle.laws.specs.Numbering.{count}
use Rattle.plan.specs.declared.NodeNumber.{NodeNumber}
use Rattle.plan.specs.declared.Interval.{Interval}
use Rattle.plan.specs.declared.Node.{Node}
use Rattle.plan.specs.Operations.{CONST, PARAM, PERMUTE, FLIP, RESHAPE, EXPAND, PAD, SHRINK, CAST, IDIV, MOD, CMPLT, CMPNE, WHERE, REDUCE, LOAD, FILL, KNOWN, STACK, is_operation, uses, movements, arithmetic, comparisons, logical, binaries, Entry, ◌⇒◌, by_operation}
use Rattle.plan.specs.Types.{between, holds, contains, bool, range_of}
use Rattle.plan.specs.Words.{size_of, list_of, node_of, unused_zero, reads}
use Rattle.plan.specs.Answers.{Rule, rule}
use Rattle.shapes.specs.Rows.{is_shape_row, is_flag_row, is_offset_row, is_permutation}
use Rattle.shapes.specs.Rules.{element_limit, shapes_agree, result_extents}
use Rattle.bounds.specs.Rules.{result_bounds}

-- what is derived of a node
pub record Derived : Type 0 where
  pub dtype : ℕ
  pub device : ℕ
  pub bounds : Interval
  pub extents : List ℕ

-- what stands for a source that is not read
abbrev pub no_source : Derived
no_source = record { dtype = bool; device = 0; bounds = between (pos 0) (pos 0); extents = [] }

-- source k (1 to 3) of node x among the earlier nodes' records, where it is read
unfoldable pub source_of : List Derived → Node → ℕ → NodeNumber → Derived
source_of earlier x k n = cond (reads x k) (get_or earlier n.0 no_source) no_source

abbrev pub implies : Bool → Bool → Bool
implies p q = not p || q

-- "4: source negative or not earlier"; n is the node's own number. "Sources are numbers of earlier nodes."
-- "rules 4 and 6 read word 3 only with number 3"
unfoldable pub sources_earlier : Node → ℕ → Bool
sources_earlier x n =
    implies (reads x 1) (ltb x.source1.0 n)
    && (implies (reads x 2) (ltb x.source2.0 n) && implies (reads x 3) (ltb x.source3.0 n))

-- "5: word 4 used and not 0..3"
unfoldable pub type_named : Node → Bool
type_named x = implies (uses x.op 4) (leb x.dtype 3)

-- "6: type rule broken (operands differ, bool misplaced, WHERE condition not bool)"; a, b and c are the sources' types.
-- "Matching types of two operands are from source document 001."
-- FILL: "same type". STACK: "all .. types equal".
abbrev pub type_rules : Node → ℕ → ℕ → ℕ → List (Entry Bool)
type_rules x a b c =
    (CONST ∷ PARAM ∷ CAST ∷ LOAD ∷ KNOWN ∷ movements) ⇒ true
    ∷ (arithmetic ++ CMPLT ∷ []) ⇒ (eqb a b && not (eqb a bool))
    ∷ (CMPNE ∷ FILL ∷ []) ⇒ eqb a b
    ∷ logical ⇒ (eqb a b && eqb a bool)
    ∷ (WHERE ∷ []) ⇒ (eqb a bool && eqb b c)
    ∷ (REDUCE ∷ []) ⇒ not (eqb a bool)
    ∷ (STACK ∷ []) ⇒ (eqb a b && implies (reads x 3) (eqb b c))
    ∷ []

unfoldable pub types_agree : Node → ℕ → ℕ → ℕ → Bool
types_agree x a b c = by_operation x.op (type_rules x a b c) false

-- "a device used is 1..255"
unfoldable pub device_named : Node → Bool
device_named x = leb 1 x.device && leb x.device 255

-- "the k-th PARAM from zero has slot (word 5) k ≤ 15 and low ≤ high"; k PARAMs stand before it
unfoldable pub param_right : Node → ℕ → Bool
param_right x k = (eqb (size_of x.number) k && leb k 15) && le_z x.low x.high

-- "STACK's number, or a word 3 not zero with number 2, is 7"
unfoldable pub stack_number : Node → Bool
stack_number x = eqb (size_of x.number) 3 || (eqb (size_of x.number) 2 && eqb x.source3.0 0)

-- "7: row or number wrong"; `params` PARAMs stand before, and `rank` is the first source's
abbrev pub row_rules : Node → ℕ → ℕ → List (Entry Bool)
row_rules x params rank =
    let a = list_of x.rowa in
    let b = list_of x.rowb in
    (CONST ∷ CAST ∷ WHERE ∷ FILL ∷ KNOWN ∷ binaries) ⇒ true
    ∷ (PARAM ∷ []) ⇒ (param_right x params && (device_named x && is_shape_row a))
    ∷ (LOAD ∷ []) ⇒ device_named x
    ∷ (REDUCE ∷ []) ⇒ (leb (size_of x.number) 1 && is_flag_row rank a)
    ∷ (PERMUTE ∷ []) ⇒ is_permutation rank a
    ∷ (FLIP ∷ []) ⇒ is_flag_row rank a
    ∷ (PAD ∷ SHRINK ∷ []) ⇒ (is_shape_row a && is_offset_row rank b)
    ∷ (RESHAPE ∷ EXPAND ∷ []) ⇒ is_shape_row a
    ∷ (STACK ∷ []) ⇒ stack_number x
    ∷ []

unfoldable pub rows_right : Node → ℕ → ℕ → Bool
rows_right x params rank = by_operation x.op (row_rules x params rank) false

-- "8: shapes disagree, or over 1048576 elements"
unfoldable pub shape_right : Node → List ℕ → List ℕ → List ℕ → Bool
shape_right x s t u = shapes_agree x s t u && leb (count (result_extents x s t u)) element_limit

-- "9: two devices". "Device 0 is NULL."
unfoldable pub one_device : ℕ → ℕ → Bool
one_device d e = eqb d 0 || (eqb e 0 || eqb d e)

-- the one that is not 0, or 0
unfoldable pub join_device : ℕ → ℕ → ℕ
join_device d e = cond (eqb d 0) e d

unfoldable pub devices_agree : ℕ → ℕ → ℕ → Bool
devices_agree d e f = one_device d e && one_device (join_device d e) f

-- "CONST has device 0. PARAM and LOAD name theirs, 1..255. Others take the one non-zero device of their sources, or 0"
-- "All three carry devices as binary operations do"
abbrev pub device_rules : Node → ℕ → ℕ → ℕ → List (Entry ℕ)
device_rules x d e f =
    (CONST ∷ []) ⇒ 0
    ∷ (PARAM ∷ LOAD ∷ []) ⇒ x.device
    ∷ (CAST ∷ WHERE ∷ REDUCE ∷ FILL ∷ KNOWN ∷ STACK ∷ movements ++ binaries) ⇒ join_device (join_device d e) f
    ∷ []

unfoldable pub result_device : Node → ℕ → ℕ → ℕ → ℕ
result_device x d e f = by_operation x.op (device_rules x d e f) 0

-- "10: divisor bounds contain 0"
unfoldable pub divisor_right : ℕ → Interval → Bool
divisor_right op b = implies (among op (IDIV ∷ MOD ∷ [])) (not (holds b (pos 0)))

-- "dtype of result"
abbrev pub result_types : Node → ℕ → ℕ → List (Entry ℕ)
result_types x a b =
    (CONST ∷ PARAM ∷ CAST ∷ []) ⇒ x.dtype
    ∷ (LOAD ∷ REDUCE ∷ FILL ∷ STACK ∷ movements ++ arithmetic) ⇒ a
    ∷ (KNOWN ∷ comparisons ++ logical) ⇒ bool
    ∷ (WHERE ∷ []) ⇒ b
    ∷ []

unfoldable pub result_type : Node → ℕ → ℕ → ℕ
result_type x a b = by_operation x.op (result_types x a b) bool

-- what is derived of a node that meets the rules; a, b and c are its sources' records
unfoldable pub derived_of : Node → Derived → Derived → Derived → Derived
derived_of x a b c =
    record {
      dtype = result_type x a.dtype b.dtype;
      device = result_device x a.device b.device c.device;
      bounds = result_bounds x a.extents a.bounds b.bounds c.bounds;
      extents = result_extents x a.extents b.extents c.extents;
    }

-- "11: bounds leave the type"; "Bounds that leave the result's type refuse the plan."; "A CONST number or PARAM limit outside its type is 11."
unfoldable pub bounds_in_type : Derived → Bool
bounds_in_type d = contains (range_of d.dtype) d.bounds

-- "within a node 2 to 11 by number": the rules of node n, of words w, with `params` PARAMs before it and sources a, b and c
abbrev pub rules_of : ℕ → ℕ → List ℤ → Derived → Derived → Derived → List Rule
rules_of n params w a b c =
    let x = node_of w in
    rule 2 (is_operation x.op)
    ∷ rule 3 (unused_zero x.op w)
    ∷ rule 4 (sources_earlier x n)
    ∷ rule 5 (type_named x)
    ∷ rule 6 (types_agree x a.dtype b.dtype c.dtype)
    ∷ rule 7 (rows_right x params (length a.extents))
    ∷ rule 8 (shape_right x a.extents b.extents c.extents)
    ∷ rule 9 (devices_agree a.device b.device c.device)
    ∷ rule 10 (divisor_right x.op b.bounds)
    ∷ rule 11 (bounds_in_type (derived_of x a b c))
    ∷ []
