-- The ways in which the check of a plan ends.
use Prim.Native.Nat.{ℕ, ◌*◌, ◌/◌, ◌<◌, ◌≤◌}
use mathlib.Core.Path.{◌≡◌, refl, ◌∙◌}
use mathlib.Core.Bool.{true, false}
use mathlib.Core.List.{List}
use native.Mathlib.Omega.{arith}
use borrow.Author.Tests.{le-leb, lt-leb}
use lib.IntN.{ℤ}
use lib.ListN.{length, take, length-map}
use lib.Seq.{length-take-le}
use Rattle.plan.specs.declared.faults.Fault.TheVariants.{Length, TotalElements, Room}
use Rattle.plan.specs.declared.faults.Refusal.{Refusal as Refused}
use Rattle.plan.specs.Words.{node_count, length_right}
use Rattle.plan.specs.Answers.{Outcome, accepted, refused, answer_of}
use Rattle.plan.specs.Coded.{refusal_of}
use Rattle.rules.specs.Rules.{Derived}
use Rattle.rules.specs.Code.{view_of}
use Rattle.verifier.specs.declared.Derivation.{Derivation}
use Rattle.verifier.specs.Check.{check_to, total_of, verdict, check, check_answer, derived_after}
use Rattle.verifier.specs.Verdicts.{records_of, Accepts, Breaks}
use Rattle.verifier.proofs.Numbers.{few_nodes}

module _ (t : List ℤ) where
  pub wrong_length : {e : Refused} → length_right t ≡ false → e ≡ record { fault = Length; place = 0 } → Breaks (verdict t) 256 e
  unfolding verdict
  wrong_length q is = rw is (record { is_check = rw q refl; small = (omega arith, omega arith) })

  module _ (q : length_right t ≡ true) where
    pub right_length : (17 * (length t / 17) ≤ length t) × (length t / 17 ≤ 256)
    unfolding node_count
    right_length = (omega arith, (few_nodes t q).1)

    pub node_breaks : {e : Refused} → Breaks (check_to t (length t / 17)) (length t / 17) e → Breaks (verdict t) 256 e
    unfolding verdict node_count
    node_breaks b = record { is_check = rw (q, b.is_check) refl; small = (b.small.0, omega (arith, b.small.1, right_length.1)) }

    module _ {d : Derivation} (a : Accepts (check_to t (length t / 17)) (length t / 17) d) where
      pub all_meet : d.total ≤ 4194304 → Accepts (verdict t) 256 d
      unfolding verdict node_count
      all_meet l =
          let within = le-leb (total_of (records_of d)) 4194304 (rw a.is_total at l) in
          record { is_check = rw (q, a.is_check, within) refl; is_total = a.is_total; few = omega (arith, a.few, right_length.1); long = a.long }

      pub too_many : {e : Refused} → 4194304 < d.total → e ≡ record { fault = TotalElements; place = 0 } → Breaks (verdict t) 256 e
      unfolding verdict node_count
      too_many l is =
          let over = lt-leb (total_of (records_of d)) 4194304 (rw a.is_total at l) in
          rw is (record { is_check = rw (q, a.is_check, over) refl; small = (omega arith, omega arith) })

-- ---- the check's answer and buffer

-- the outcome of a check with so much room, as its answer and what it leaves
module _ (t : List ℤ) (before : List ℤ) where
  -- a plan that is refused
  pub check_breaks : {e : Refused} → Breaks (verdict t) 256 e
      → (answer_of (λ (n : ℕ). n) (refused (refusal_of e)) ≡ check_answer (check t (length before))) × (before ≡ derived_after (check t (length before)) before)
  unfolding check
  check_breaks b = rw b.is_check (refl, refl)

  module _ {d : Derivation} (a : Accepts (verdict t) 256 d) where
    pub taken : length (take d.count d.records) ≡ d.count
    taken = length-take-le d.count d.records (omega (arith, a.few, a.long))

    pub counted : length (records_of d) ≡ d.count
    counted = length-map (take d.count d.records) view_of ∙ taken

    pub check_short : {e : Refused} → length before < 8 * d.count → e ≡ record { fault = Room; place = 0 }
        → (answer_of (λ (n : ℕ). n) (refused (refusal_of e)) ≡ check_answer (check t (length before))) × (before ≡ derived_after (check t (length before)) before)
    unfolding check
    check_short l is =
        let short = lt-leb (8 * length (records_of d)) (length before) (omega (arith, counted)) in
        rw (is, a.is_check, short) (refl, refl)

    pub check_meets : 8 * d.count ≤ length before → check t (length before) ≡ accepted (records_of d)
    unfolding check
    check_meets l =
        let enough = le-leb (8 * length (records_of d)) (length before) (omega (arith, counted)) in
        rw (a.is_check, enough) refl

    pub answers : {o : Outcome (List Derived)} {ds : List Derived} → o ≡ accepted ds → record { number = 0; place = 0; count = 0 } ≡ check_answer o
    answers e = rw e refl
