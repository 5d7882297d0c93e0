-- 15 and 16 at one position, at the positions of one node, and at all.
use Rattle.std.proofs.Common.{◌≡◌, ℕ, zero, suc, ◌+◌, ◌^◌, ◌<◌, ◌≤◌, true, false, ◌&&◌, eqb, List, length, get_or, ℤ, pos, refl, ◌∙◌, add-zero, add-suc, add-one, arith, eqb-true}
use borrow.Author.Tests.{lt-leb, eqb-false}
use lib.Bits.{bit_or}
use lib.Signed.{le_z}
use Rattle.laws.proofs.Booleans.{bool_cases}
use Rattle.plan.specs.declared.Interval.{Interval}
use Rattle.plan.specs.Types.{between, holds}
use Rattle.plan.specs.Answers.{Outcome, accepted, refuse, in_turn}
use Rattle.plan.proofs.Outcomes.{turn_more, turn_stays, turn_same}
use Rattle.runner.specs.Inputs.{test_input, test_at, test_inputs}
use Rattle.inputs.specs.Nodes.{test_part}
use Rattle.inputs.proofs.Limits.{or_below}

-- ---- one position

module _ (flag : ℕ) (value low high : ℤ) (p : ℕ) where
  pub known_inside : flag ≡ 1 → (le_z low value && le_z value high) ≡ true → test_input (between low high) value flag p ≡ accepted tt
  unfolding test_input holds
  known_inside e h = rw (e, h) refl

  pub known_outside : flag ≡ 1 → (le_z low value && le_z value high) ≡ false → test_input (between low high) value flag p ≡ refuse 16 p
  unfolding test_input holds
  known_outside e h = rw (e, h) refl

  pub gap_passes : flag ≡ 0 → test_input (between low high) value flag p ≡ accepted tt
  unfolding test_input
  gap_passes e = rw e refl

  pub no_flag : (flag ≡ 1 → ⊥) → (flag ≡ 0 → ⊥) → test_input (between low high) value flag p ≡ refuse 15 p
  unfolding test_input
  no_flag a b = rw (lt-leb flag 1 (omega (arith, a, b))) refl

  -- a flag that is 0 or 1, and a number inside
  pub flag_inside : flag ≤ 1 → (le_z low value && le_z value high) ≡ true → test_input (between low high) value flag p ≡ accepted tt
  flag_inside l h = bool_cases (eqb flag 1) (λ k. known_inside (eqb-true flag 1 k) h) (λ k. gap_passes (omega (arith, l, eqb-false flag 1 k)))

-- ---- steps in turn

-- those after the first a
turn_after : {A : Type 0} (step : ℕ → A → Outcome A) (start : A) {b : A} (a n : ℕ) → in_turn step start a ≡ accepted b
    → in_turn step start (a + n) ≡ in_turn (λ (k : ℕ). step (a + k)) b n
unfolding in_turn
turn_after step start a zero e = rw add-zero e
turn_after step start a (suc n) e = rw (add-suc, turn_after step start a n e) refl

-- one step more that finds nothing, and one that refuses
turn_passes : (step : ℕ → Unit → Outcome Unit) (i : ℕ) → in_turn step tt i ≡ accepted tt → step i tt ≡ accepted tt → in_turn step tt (i + 1) ≡ accepted tt
turn_passes step i e f = rw add-one (turn_more step tt i e ∙ f)

turn_stops : (step : ℕ → Unit → Outcome Unit) (i n : ℕ) {number place : ℕ} → i < n → in_turn step tt i ≡ accepted tt → step i tt ≡ refuse number place → in_turn step tt n ≡ refuse number place
turn_stops step i n l e f = turn_stays step tt (suc i) n l (turn_more step tt i e ∙ f)

-- ---- the positions of one node

module _ (limits : Interval) (values : List ℤ) (flags : List ℕ) (from : ℕ) where
  pub part_none : test_part limits values flags from 0 ≡ accepted tt
  unfolding in_turn
  part_none = refl

  module _ (i : ℕ) (e : test_part limits values flags from i ≡ accepted tt) where
    pub part_more : test_input limits (get_or values (from + i) (pos 0)) (get_or flags (from + i) 0) (from + i) ≡ accepted tt → test_part limits values flags from (i + 1) ≡ accepted tt
    part_more f = turn_passes _ i e f

    pub part_stops : {number place : ℕ} → test_input limits (get_or values (from + i) (pos 0)) (get_or flags (from + i) 0) (from + i) ≡ refuse number place
        → (n : ℕ) → i < n → test_part limits values flags from n ≡ refuse number place
    part_stops f n l = turn_stops _ i n l e f

  -- one position more where neither the first i nor it has the highest bit
  pub part_good : (found here i : ℕ) → (found < 2 ^ 63 → test_part limits values flags from i ≡ accepted tt)
      → (here < 2 ^ 63 → test_input limits (get_or values (from + i) (pos 0)) (get_or flags (from + i) 0) (from + i) ≡ accepted tt) → bit_or found here < 2 ^ 63
      → test_part limits values flags from (i + 1) ≡ accepted tt
  part_good found here i f g e = let both = or_below found here (2 ^ 63) e in part_more i (f both.0) (g both.1)

-- ---- all positions

module _ (limits : List Interval) (values : List ℤ) (flags : List ℕ) where
  abbrev test_step : ℕ → Unit {0} → Outcome Unit
  test_step p passed = test_at limits values flags p

  -- the first p
  abbrev pub test_to : ℕ → Outcome Unit
  test_to p = in_turn test_step tt p

  pub whole_none : test_to 0 ≡ accepted tt
  unfolding in_turn
  whole_none = refl

  pub whole_done : (p : ℕ) → p ≡ length limits → test_to p ≡ accepted tt → test_inputs limits values flags ≡ accepted tt
  unfolding test_inputs
  whole_done p q e = rw q at e

  -- the n positions of the next node, whose limits are `here`
  module _ (here : Interval) (from n : ℕ) (e : test_to from ≡ accepted tt) (same : (k : ℕ) → k < n → get_or limits (from + k) (between (pos 0) (pos 0)) ≡ here) where
    part_is : {o : Outcome Unit} → test_part here values flags from n ≡ o → test_to (from + n) ≡ o
    part_is f = turn_after test_step tt from n e ∙ turn_same (λ (k : ℕ). test_step (from + k)) _ tt n (λ k a l. rw (same k l) refl) ∙ f

    pub whole_more : test_part here values flags from n ≡ accepted tt → test_to (from + n) ≡ accepted tt
    whole_more = part_is

    pub whole_stops : {number place : ℕ} → test_part here values flags from n ≡ refuse number place → from + n ≤ length limits → test_inputs limits values flags ≡ refuse number place
    unfolding test_inputs
    whole_stops f l = turn_stays test_step tt (from + n) (length limits) l (part_is f)
