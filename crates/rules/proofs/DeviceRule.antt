-- The device of a result, by ranges of operations.
use Prim.Native.Nat.{ℕ, ◌<◌, ◌≤◌}
use mathlib.Core.Path.{◌≡◌, refl}
use native.Mathlib.Omega.{arith}
use Rattle.laws.specs.Lists.{among}
use Rattle.plan.specs.declared.Node.{Node}
use borrow.Author.Tests.{ltb-true, ltb-false}
use lib.Dec.{ltb}
use Rattle.laws.proofs.Booleans.{bool_cases}
use mathlib.Core.Bool.{true}
use Rattle.plan.specs.Operations.{is_operation, by_operation}
use Rattle.plan.proofs.ByOperation.{◌then◌, for_range, operation_small}
use Rattle.rules.specs.Rules.{join_device, device_rules, result_device}

module _ (x : Node) (d e f : ℕ) where
  pub device_none : x.op ≡ 0 → 0 ≡ result_device x d e f
  unfolding result_device among
  device_none q = rw q refl

  pub device_param : x.op ≡ 1 → x.device ≡ result_device x d e f
  unfolding result_device among
  device_param q = rw q refl

  pub device_load : x.op ≡ 20 → x.device ≡ result_device x d e f
  unfolding result_device among
  device_load q = rw q refl

  pub device_joined : (x.op ≡ 0 → ⊥) → (x.op ≡ 1 → ⊥) → (x.op ≡ 20 → ⊥) → is_operation x.op ≡ true → join_device (join_device d e) f ≡ result_device x d e f
  unfolding result_device among
  device_joined n0 n1 n20 k =
      let h : x.op < 24 = operation_small x.op k in
      bool_cases (ltb x.op 20)
      (λ l. for_range (λ (k : ℕ). join_device (join_device d e) f ≡ by_operation k (device_rules x d e f) 0) x.op 2 18
      (refl then refl then refl then refl then refl then refl then refl then refl then refl then refl then refl then refl then refl then refl then refl then refl then refl then refl then tt)
      (omega arith) (ltb-true _ _ l))
      (λ l.
      let above : 20 ≤ x.op = ltb-false _ _ l in
      for_range (λ (k : ℕ). join_device (join_device d e) f ≡ by_operation k (device_rules x d e f) 0) x.op 21 3 (refl then refl then refl then tt) (omega arith) h)
