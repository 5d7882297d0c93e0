-- Rule 6, by ranges of operations.
use Prim.Native.Nat.{ℕ, ◌<◌, ◌≤◌}
use mathlib.Core.Path.{◌≡◌, refl, ap, sym}
use mathlib.Core.Bool.{Bool, true, false, ◌&&◌, ◌||◌, not}
use native.Mathlib.Omega.{arith}
use borrow.Author.Tests.{ltb-true, ltb-false}
use lib.Dec.{eqb, ltb}
use Rattle.laws.specs.Lists.{among}
use Rattle.laws.proofs.Booleans.{bool_cases}
use Rattle.plan.specs.declared.Node.{Node}
use Rattle.plan.specs.Operations.{is_operation, by_operation}
use Rattle.plan.specs.Words.{in_number}
use Rattle.plan.proofs.ByOperation.{◌then◌, for_range, operation_small, stack_third}
use Rattle.rules.specs.Rules.{type_rules, types_agree}

module _ (x : Node) (a b c : ℕ) where
  abbrev agree_at : ℕ → Bool
  agree_at k = by_operation k (type_rules x a b c) false

  pub types_any : x.op < 9 → true ≡ types_agree x a b c
  unfolding types_agree among
  types_any h =
      for_range (λ (k : ℕ). true ≡ agree_at k) x.op 0 9
      (refl then refl then refl then refl then refl then refl then refl then refl then refl then tt) (omega arith) h

  pub types_arithmetic : 9 ≤ x.op → x.op < 15 → (eqb a b && not (eqb a 0)) ≡ types_agree x a b c
  unfolding types_agree among
  types_arithmetic =
      for_range (λ (k : ℕ). (eqb a b && not (eqb a 0)) ≡ agree_at k) x.op 9 6 (refl then refl then refl then refl then refl then refl then tt)

  pub types_differ : x.op ≡ 15 → eqb a b ≡ types_agree x a b c
  unfolding types_agree among
  types_differ q = rw q refl

  pub types_logical : 15 ≤ x.op → (x.op ≡ 15 → ⊥) → x.op < 18 → (eqb a b && eqb a 0) ≡ types_agree x a b c
  unfolding types_agree among
  types_logical l n h = for_range (λ (k : ℕ). (eqb a b && eqb a 0) ≡ agree_at k) x.op 16 2 (refl then refl then tt) (omega arith) h

  pub types_where : x.op ≡ 18 → (eqb a 0 && eqb b c) ≡ types_agree x a b c
  unfolding types_agree among
  types_where q = rw q refl

  pub types_reduce : x.op ≡ 19 → not (eqb a 0) ≡ types_agree x a b c
  unfolding types_agree among
  types_reduce q = rw q refl

  pub types_fill : x.op ≡ 21 → eqb a b ≡ types_agree x a b c
  unfolding types_agree among
  types_fill q = rw q refl

  pub types_stack : {third : Bool} → x.op ≡ 23 → third ≡ in_number x 3 → (eqb a b && (not third || eqb b c)) ≡ types_agree x a b c
  unfolding types_agree among
  types_stack q e = rw (e, stack_third x q) (ap (λ (k : ℕ). by_operation k (type_rules x a b c) false) (sym q))

  pub types_load : 18 ≤ x.op → (x.op ≡ 18 → ⊥) → (x.op ≡ 19 → ⊥) → (x.op ≡ 21 → ⊥) → (x.op ≡ 23 → ⊥) → is_operation x.op ≡ true → true ≡ types_agree x a b c
  unfolding types_agree among
  types_load l m n o p k =
      let h : x.op < 24 = operation_small x.op k in
      bool_cases (ltb x.op 21)
      (λ q. let z : x.op ≡ 20 = omega (arith, ltb-true x.op 21 q) in rw z refl)
      (λ q. let z : x.op ≡ 22 = omega (arith, ltb-false x.op 21 q) in rw z refl)
