-- Every operation has its row in the tables of this crate.
use Prim.Native.Nat.{ℕ}
use mathlib.Core.Path.{◌≡◌, refl}
use mathlib.Core.Bool.{true, not, cond}
use mathlib.Core.List.{List}
use Rattle.laws.specs.Lists.{all_below, among}
use Rattle.plan.specs.declared.Node.{Node}
use Rattle.plan.specs.declared.ElementNumber.{ElementNumber}
use Rattle.plan.specs.Operations.{operation_count, is_operation, operations_of, covers_all, followed}
use Rattle.shapes.specs.Rules.{shape_rules, result_rules}
use Rattle.shapes.specs.Sources.{source_rules}

module _ (x : Node) (s t u : List ℕ) where
  pub shape_rules_lem : covers_all (shape_rules x s t u) ≡ true
  unfolding all_below among is_operation
  shape_rules_lem = refl

  pub result_rules_lem : covers_all (result_rules x s t u) ≡ true
  unfolding all_below among is_operation
  result_rules_lem = refl

-- source elements: exactly the operations that a lookup follows
pub source_rules_lem : (x : Node) (s r : List ℕ) (e : ElementNumber)
    → all_below operation_count (λ (op : ℕ). cond (among op followed) (among op (operations_of (source_rules x s r e))) (not (among op (operations_of (source_rules x s r e))))) ≡ true
unfolding all_below among
source_rules_lem x s r e = refl
