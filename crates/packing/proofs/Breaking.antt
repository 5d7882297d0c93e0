-- Rules 2, 3 and 25 of a node, from the tests that the code makes in turn.
use Prim.Native.Nat.{ℕ, zero, suc, ◌+◌, ◌<◌}
use mathlib.Core.Path.{◌≡◌, refl, sym, ap, ◌∙◌}
use mathlib.Core.Bool.{Bool, true, false, ◌&&◌, ◌||◌}
use mathlib.Core.List.{List}
use native.Mathlib.Numerals.{add-one}
use native.Mathlib.Omega.{arith}
use borrow.Author.Tests.{eqb-true}
use lib.Dec.{eqb, eqb-suc-zero}
use lib.IntN.{ℤ, pos, negsuc}
use Rattle.laws.specs.Lists.{all_below}
use Rattle.laws.proofs.Booleans.{bool_cases, all_below_lem, all_below_snoc, all_below_same}
use Rattle.plan.specs.Operations.{uses, is_operation, operation_count}
use Rattle.plan.specs.Types.{holds}
use Rattle.plan.proofs.ByOperation.{operation_small}
use Rattle.plan.specs.Words.{size_of, word_at, size_at, unused_zero}
use Rattle.plan.specs.declared.operations.Operation.{Operation}
use Rattle.plan.specs.Coded.{number_of}
use Rattle.plan.proofs.Coded.{number_known}
use Rattle.plan.specs.Answers.{AllHold, FirstFailing}
use Rattle.plan.proofs.Outcomes.{fails_here, holds_then}
use Rattle.packing.specs.Packing.{word_range, used_in_range, pack_rules}
use Rattle.packing.specs.Writing.{all_in_range}
use Rattle.packing.specs.Bytes.{packed_word}
use Rattle.packing.proofs.NumbersBack.{small_word}

-- word k can be packed
abbrev pub in_range_at : List ℤ → ℕ → Bool
in_range_at w k = holds word_range (word_at w k)

pub range_more : (w : List ℤ) (k : ℕ) (so_far fits : Bool) → so_far ≡ all_below k (in_range_at w) → fits ≡ in_range_at w k → (so_far && fits) ≡ all_below (k + 1) (in_range_at w)
range_more w k so_far fits e q = rw (add-one, all_below_snoc k (in_range_at w), e, q) refl

-- where 2 and 3 hold the words that are not used can be packed
small_in_range : (z : ℤ) → size_of z < operation_count → holds word_range z ≡ true
unfolding size_of packed_word
small_in_range (pos n) h = small_word (pos n) (omega arith)
small_in_range (negsuc n) h = absurd (omega arith)

unused_in_range : (op : ℕ) (w : List ℤ) → op ≡ size_at w 0 → op < operation_count → unused_zero op w ≡ true → (k : ℕ) → k < 17 → uses op k ≡ false → holds word_range (word_at w k) ≡ true
unfolding unused_zero
unused_in_range op w is h e zero l u = small_in_range (word_at w 0) (rw is at h)
unused_in_range op w is h e (suc k) l u =
    let z : (eqb (suc k) 0 || (uses op (suc k) || eqb (size_of (word_at w (suc k))) 0)) ≡ true = all_below_lem 17 _ e (suc k) l in
    let is : size_of (word_at w (suc k)) ≡ 0 = eqb-true (size_of (word_at w (suc k))) 0 (rw (u, eqb-suc-zero) at z) in
    small_in_range (word_at w (suc k)) (omega (arith, is))

all_used : (op : ℕ) (w : List ℤ) → op ≡ size_at w 0 → op < operation_count → unused_zero op w ≡ true → all_in_range w ≡ used_in_range op w
unfolding used_in_range
all_used op w is h e = all_below_same 17 _ _ (λ k l. bool_cases (uses op k) (λ u. rw u refl) (λ u. rw (u, unused_in_range op w is h e k l u) refl))

-- ---- the first rule that is broken

module _ (w : List ℤ) where
  pub breaks_2 : is_operation (size_at w 0) ≡ false → FirstFailing (pack_rules w) 2
  breaks_2 f = fails_here _ f

  module _ (op : Operation) (is : number_of op ≡ size_at w 0) where
    known : is_operation (size_at w 0) ≡ true
    known = ap is_operation (sym is) ∙ number_known op

    pub breaks_3 : unused_zero (number_of op) w ≡ false → FirstFailing (pack_rules w) 3
    breaks_3 f = holds_then _ known (fails_here _ (ap (λ o. unused_zero o w) (sym is) ∙ f))

    module _ (zero : unused_zero (number_of op) w ≡ true) where
      unused : unused_zero (size_at w 0) w ≡ true
      unused = ap (λ o. unused_zero o w) (sym is) ∙ zero

      used : all_in_range w ≡ used_in_range (size_at w 0) w
      used = all_used (size_at w 0) w refl (operation_small (size_at w 0) known) unused

      pub breaks_25 : all_in_range w ≡ false → FirstFailing (pack_rules w) 25
      breaks_25 f = holds_then _ known (holds_then _ unused (fails_here _ (sym used ∙ f)))

      pub breaks_none : all_in_range w ≡ true → (number_of op ≡ size_at w 0) × AllHold (pack_rules w)
      breaks_none f = (is, (known, (unused, (sym used ∙ f, tt))))
