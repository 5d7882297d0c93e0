-- Rules 3 to 5 by the mask of used words.
use Prim.Native.Nat.{ℕ, ◌<◌, ◌^◌, ◌/◌, ◌%◌}
use mathlib.Core.Path.{◌≡◌, refl, ◌∙◌}
use mathlib.Core.Bool.{Bool, true, false, ◌&&◌, ◌||◌, not}
use mathlib.Core.List.{List}
use lib.IntN.{ℤ}
use lib.Dec.{eqb, ltb}
use lib.ListN.{get_or}
use Rattle.laws.proofs.Booleans.{off, on}
use Rattle.plan.specs.Operations.{masks, uses, is_operation}
use Rattle.plan.specs.declared.operations.Operation.{Operation}
use Rattle.plan.specs.declared.Node.{Node}
use Rattle.plan.specs.Coded.{number_of}
use Rattle.plan.proofs.Coded.{number_known}
use Rattle.plan.specs.Words.{words_of, node_at, unused_zero, reads}
use Rattle.plan.specs.Answers.{AllHold, FirstFailing}
use Rattle.plan.proofs.Outcomes.{fails_here, holds_then}
use Rattle.plan.proofs.Masks.{mask_bit}
use Rattle.rules.specs.Rules.{sources_earlier}
use Rattle.plan.proofs.ByOperation.{operation_small}
use Rattle.rules.specs.Code.{early_rules_of}

-- a mask's bit says whether the operation uses the word
pub bit_uses : (op k : ℕ) → is_operation op ≡ true → k < 17 → eqb (get_or masks op 0 / 2 ^ k % 2) 1 ≡ uses op k
bit_uses op k known h = mask_bit op k (operation_small op known) h

-- rule 4, from what the code asks of each source
pub sources_read : (x : Node) (n : ℕ) {first second third : Bool} → first ≡ reads x 1 → second ≡ reads x 2 → third ≡ reads x 3
    → ((not first || ltb x.source1.0 n) && ((not second || ltb x.source2.0 n) && (not third || ltb x.source3.0 n))) ≡ sources_earlier x n
unfolding sources_earlier
sources_read x n e f g = rw (e, f, g) refl

-- ---- rules 2 to 4 together, from the tests that the code makes in turn

module _ (t : List ℤ) (i : ℕ) (x : Node) (q : x ≡ node_at t i) where
  pub early_2 : is_operation x.op ≡ false → FirstFailing (early_rules_of t i) 2
  early_2 f = fails_here _ (rw q at f)

  module _ (op : Operation) (named : number_of op ≡ x.op) (w : List ℤ) (e : w ≡ words_of t i) (r3 : Bool) (e3 : r3 ≡ unused_zero (number_of op) w) where
    is_2 : is_operation (node_at t i).op ≡ true
    is_2 = rw (← q, ← named) (number_known op)

    is_3 : r3 ≡ unused_zero (node_at t i).op (words_of t i)
    is_3 = e3 ∙ rw (named, q, e) refl

    pub early_3 : not r3 ≡ true → FirstFailing (early_rules_of t i) 3
    early_3 f = holds_then _ is_2 (fails_here _ (off r3 is_3 f))

    module _ (n3 : not r3 ≡ false) (r4 : Bool) (e4 : r4 ≡ sources_earlier x i) where
      is_4 : r4 ≡ sources_earlier (node_at t i) i
      is_4 = e4 ∙ rw q refl

      pub early_4 : not r4 ≡ true → FirstFailing (early_rules_of t i) 4
      early_4 f = holds_then _ is_2 (holds_then _ (on r3 is_3 n3) (fails_here _ (off r4 is_4 f)))

      pub early_none : not r4 ≡ false → AllHold (early_rules_of t i)
      early_none n4 = (is_2, (on r3 is_3 n3, (on r4 is_4 n4, tt)))
