-- Every operation has its row in the tables of this crate.
use Prim.Native.Nat.{ℕ}
use mathlib.Core.Path.{◌≡◌, refl}
use mathlib.Core.Bool.{true}
use Rattle.laws.specs.Lists.{all_below, among}
use Rattle.plan.specs.declared.Node.{Node}
use Rattle.plan.specs.Operations.{is_operation, covers_all}
use Rattle.rules.specs.Rules.{type_rules, row_rules, device_rules, result_types}

module _ (x : Node) (a b c : ℕ) where
  pub type_rules_lem : covers_all (type_rules x a b c) ≡ true
  unfolding all_below among is_operation
  type_rules_lem = refl

  pub row_rules_lem : covers_all (row_rules x a b) ≡ true
  unfolding all_below among is_operation
  row_rules_lem = refl

  pub device_rules_lem : covers_all (device_rules x a b c) ≡ true
  unfolding all_below among is_operation
  device_rules_lem = refl

  pub result_types_lem : covers_all (result_types x a b) ≡ true
  unfolding all_below among is_operation
  result_types_lem = refl
