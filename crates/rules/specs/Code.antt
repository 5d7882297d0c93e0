-- The code's records and answers of one node, as its contracts name them.
use Rattle.std.specs.Prelude.{ℕ, ◌<◌, ◌≤◌, ◌≡◌, true, List, [], ◌∷◌, ◌++◌, ℤ, length, Result, Ok, Err}
use Rattle.laws.specs.Numbering.{count}
use Rattle.plan.specs.declared.Node.{Node}
use Rattle.plan.specs.Operations.{REDUCE, is_operation}
use Rattle.plan.specs.declared.instructions.Instruction.{Instruction}
use Rattle.plan.specs.declared.faults.Fault.{Fault}
use Rattle.plan.specs.Coded.{fault_number}
use Rattle.plan.specs.Words.{list_of, words_of, node_at, unused_zero}
use Rattle.plan.specs.Answers.{Rule, rule, AllHold, FirstFailing}
use Rattle.shapes.specs.declared.Shape.{Shape}
use Rattle.shapes.specs.Rules.{element_limit, result_extents}
use Rattle.shapes.specs.Shown.{shown}
use Rattle.bounds.specs.Rules.{gathered_count}
use Rattle.bounds.specs.Narrow.{wide_of}
use Rattle.rules.specs.declared.Record.{Record}
use Rattle.rules.specs.declared.Shaped.{Shaped}
use Rattle.rules.specs.declared.Judged.{Judged}
use Rattle.rules.specs.Rules.{Derived, sources_earlier, type_named, types_agree, rows_right, shape_right, devices_agree, divisor_right, result_device, result_type, bounds_in_type, derived_of}

-- r is the type of a result, a byte where a type that is named is one; and its device
pub record TypeOf (x : Node) (a b r : ℕ) : Type 0 where
  pub is_type : r ≡ result_type x a b
  pub byte : type_named x ≡ true → r < 256

pub record DeviceOf (x : Node) (d e f r : ℕ) : Type 0 where
  pub is_device : r ≡ result_device x d e f
  pub byte : (params rank : ℕ) → rows_right x params rank ≡ true → r < 256

-- what is derived of a node, as the code holds it
abbrev pub view_of : Record → Derived
view_of d = record { dtype = d.dtype; device = d.device; bounds = wide_of d.bounds; extents = shown d.extents }

-- rules 5 to 8, and 9 to 11
abbrev pub shape_rules_of : Node → ℕ → Derived → Derived → Derived → List Rule
shape_rules_of x params a b c =
    rule 5 (type_named x)
    ∷ rule 6 (types_agree x a.dtype b.dtype c.dtype)
    ∷ rule 7 (rows_right x params (length a.extents))
    ∷ rule 8 (shape_right x a.extents b.extents c.extents)
    ∷ []

abbrev pub value_rules_of : Node → Derived → Derived → Derived → List Rule
value_rules_of x a b c =
    rule 9 (devices_agree a.device b.device c.device)
    ∷ rule 10 (divisor_right x.op b.bounds)
    ∷ rule 11 (bounds_in_type (derived_of x a b c))
    ∷ []

-- the shape of a node that meets rules 5 to 8, with its count of elements; or the rule that it breaks
abbrev pub Shapes : Node → ℕ → Derived → Derived → Derived → Result Shaped Fault → Type 0
Shapes x params a b c (Ok s) =
    AllHold (shape_rules_of x params a b c) × (shown s.extents ≡ result_extents x a.extents b.extents c.extents) × (s.count ≡ count (shown s.extents))
Shapes x params a b c (Err f) = FirstFailing (shape_rules_of x params a b c) (fault_number f)

-- the record of a node that meets rules 9 to 11 too; or the rule that it breaks
abbrev pub Values : Node → Derived → Derived → Derived → Result Record Fault → Type 0
Values x a b c (Ok r) = AllHold (value_rules_of x a b c) × (view_of r ≡ derived_of x a b c)
Values x a b c (Err f) = FirstFailing (value_rules_of x a b c) (fault_number f)

-- the record of a node that meets rules 5 to 11, with its count of elements; or the rule that it breaks
abbrev pub Judges : Node → ℕ → Derived → Derived → Derived → Result Judged Fault → Type 0
Judges x params a b c (Ok j) =
    AllHold (shape_rules_of x params a b c ++ value_rules_of x a b c) × (view_of j.record ≡ derived_of x a b c) × (j.count ≡ count (view_of j.record).extents)
Judges x params a b c (Err f) = FirstFailing (shape_rules_of x params a b c ++ value_rules_of x a b c) (fault_number f)

-- what rules 5 to 8 leave for those after them: the rules, and the shape e of the result
pub record Ready (x : Node) (params : ℕ) (a b c : Derived) (e : Shape) : Type 0 where
  pub held : AllHold (shape_rules_of x params a b c)
  pub shape : shown e ≡ result_extents x a.extents b.extents c.extents
  pub few : count a.extents ≤ element_limit

-- how many elements a REDUCE gathers of a source of extents s; at most the limit for every node
pub record Gathers (x : Node) (s : List ℕ) (n : ℕ) : Type 0 where
  pub most : n ≤ element_limit
  pub all : x.op ≡ REDUCE → gathered_count s (list_of x.rowa) ≡ n

-- rules 2 to 4 of node i
abbrev pub early_rules_of : List ℤ → ℕ → List Rule
early_rules_of t i =
    rule 2 (is_operation (node_at t i).op)
    ∷ rule 3 (unused_zero (node_at t i).op (words_of t i))
    ∷ rule 4 (sources_earlier (node_at t i) i)
    ∷ []

-- node i with its operation where it meets rules 2 to 4, or the first that it breaks
abbrev pub Early : List ℤ → ℕ → Result Instruction Fault → Type 0
Early t i (Ok x) = (x.node ≡ node_at t i) × AllHold (early_rules_of t i)
Early t i (Err f) = FirstFailing (early_rules_of t i) (fault_number f)
