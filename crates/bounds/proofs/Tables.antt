-- Every operation has its row in the table of this crate.
use Prim.Native.Nat.{ℕ}
use mathlib.Core.Path.{◌≡◌, refl}
use mathlib.Core.Bool.{true}
use mathlib.Core.List.{List}
use Rattle.laws.specs.Lists.{all_below, among}
use Rattle.plan.specs.declared.Interval.{Interval}
use Rattle.plan.specs.declared.Node.{Node}
use Rattle.plan.specs.Operations.{is_operation, covers_all}
use Rattle.bounds.specs.Rules.{bounds_rules}

pub bounds_rules_lem : (x : Node) (s : List ℕ) (a b c : Interval) → covers_all (bounds_rules x s a b c) ≡ true
unfolding all_below among is_operation
bounds_rules_lem x s a b c = refl
