-- Rule 7, by ranges of operations.
use Prim.Native.Nat.{ℕ, ◌<◌, ◌≤◌}
use mathlib.Core.Path.{◌≡◌, refl}
use mathlib.Core.Bool.{Bool, true, false, ◌&&◌, ◌||◌}
use native.Mathlib.Omega.{arith}
use borrow.Author.Tests.{eqb-true}
use lib.Dec.{leb, eqb}
use Rattle.laws.specs.Lists.{among}
use Rattle.laws.proofs.Booleans.{and_true, or_true}
use Rattle.plan.specs.declared.Node.{Node}
use Rattle.plan.specs.Operations.{PERMUTE, STACK, is_operation, by_operation}
use Rattle.plan.specs.Words.{size_of, list_of}
use Rattle.plan.proofs.ByOperation.{◌then◌, for_range, operation_small}
use Rattle.shapes.specs.Rows.{is_shape_row, is_flag_row, is_offset_row, is_permutation}
use Rattle.rules.specs.Rules.{device_named, param_right, stack_number, row_rules, rows_right}

module _ (x : Node) (params rank : ℕ) where
  abbrev rows_at : ℕ → Bool
  rows_at k = by_operation k (row_rules x params rank) false

  pub rows_const : x.op ≡ 0 → true ≡ rows_right x params rank
  unfolding rows_right among
  rows_const q = rw q refl

  pub rows_param : x.op ≡ 1 → (param_right x params && (device_named x && is_shape_row (list_of x.rowa))) ≡ rows_right x params rank
  unfolding rows_right among
  rows_param q = rw q refl

  pub rows_permute : x.op ≡ 2 → is_permutation rank (list_of x.rowa) ≡ rows_right x params rank
  unfolding rows_right among
  rows_permute q = rw q refl

  pub rows_flip : x.op ≡ 3 → is_flag_row rank (list_of x.rowa) ≡ rows_right x params rank
  unfolding rows_right among
  rows_flip q = rw q refl

  pub rows_shape : 4 ≤ x.op → x.op < 6 → is_shape_row (list_of x.rowa) ≡ rows_right x params rank
  unfolding rows_right among
  rows_shape = for_range (λ (k : ℕ). is_shape_row (list_of x.rowa) ≡ rows_at k) x.op 4 2 (refl then refl then tt)

  pub rows_offset : 6 ≤ x.op → x.op < 8 → (is_shape_row (list_of x.rowa) && is_offset_row rank (list_of x.rowb)) ≡ rows_right x params rank
  unfolding rows_right among
  rows_offset = for_range (λ (k : ℕ). (is_shape_row (list_of x.rowa) && is_offset_row rank (list_of x.rowb)) ≡ rows_at k) x.op 6 2 (refl then refl then tt)

  pub rows_any : 8 ≤ x.op → x.op < 19 → true ≡ rows_right x params rank
  unfolding rows_right among
  rows_any =
      for_range (λ (k : ℕ). true ≡ rows_at k) x.op 8 11
      (refl then refl then refl then refl then refl then refl then refl then refl then refl then refl then refl then tt)

  pub rows_reduce : x.op ≡ 19 → (leb (size_of x.number) 1 && is_flag_row rank (list_of x.rowa)) ≡ rows_right x params rank
  unfolding rows_right among
  rows_reduce q = rw q refl

  pub rows_load : x.op ≡ 20 → device_named x ≡ rows_right x params rank
  unfolding rows_right among
  rows_load q = rw q refl

  pub rows_none : 19 ≤ x.op → (x.op ≡ 19 → ⊥) → (x.op ≡ 20 → ⊥) → x.op < 23 → true ≡ rows_right x params rank
  unfolding rows_right among
  rows_none l m n h = for_range (λ (k : ℕ). true ≡ rows_at k) x.op 21 2 (refl then refl then tt) (omega arith) h

  pub rows_stack : {n : ℕ} → 23 ≤ x.op → is_operation x.op ≡ true → n ≡ size_of x.number → (eqb n 3 || (eqb n 2 && eqb x.source3.0 0)) ≡ rows_right x params rank
  unfolding rows_right stack_number among
  rows_stack l k e = let q : x.op ≡ 23 = omega (arith, operation_small x.op k) in rw (q, e) refl

-- rule 7 of a PERMUTE
pub permute_rule : (x : Node) (params rank : ℕ) → rows_right x params rank ≡ true → x.op ≡ PERMUTE → is_permutation rank (list_of x.rowa) ≡ true
unfolding rows_right among
permute_rule x params rank e q = rw q at e

-- rule 7 of a STACK: it has two or three sources
pub stack_rule : (x : Node) (params rank : ℕ) → rows_right x params rank ≡ true → x.op ≡ STACK → (2 ≤ size_of x.number) × (size_of x.number ≤ 3)
unfolding rows_right stack_number among
stack_rule x params rank e q =
    let f : (eqb (size_of x.number) 3 || (eqb (size_of x.number) 2 && eqb x.source3.0 0)) ≡ true = rw q at e in
    or_true (eqb (size_of x.number) 3) (eqb (size_of x.number) 2 && eqb x.source3.0 0) f
    (λ h. let z : size_of x.number ≡ 3 = eqb-true _ _ h in (omega arith, omega arith))
    (λ h. let z : size_of x.number ≡ 2 = eqb-true _ _ (and_true (eqb (size_of x.number) 2) (eqb x.source3.0 0) h).0 in (omega arith, omega arith))
