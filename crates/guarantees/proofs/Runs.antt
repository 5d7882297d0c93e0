-- A run is accepted exactly when it is proper, and refused for what is wrong first.
use Prim.Native.Nat.{ℕ, zero, suc, ◌+◌, ◌<◌, ◌≤◌}
use mathlib.Core.Path.{◌≡◌, refl, ap, sym, ◌∙◌, subst}
use mathlib.Core.Bool.{Bool, true, false, ◌&&◌, ◌||◌, not, false≢true}
use mathlib.Core.Logic.{◌⊎◌, inl, inr, ⊎_elim}
use mathlib.Core.List.{List}
use native.Mathlib.Omega.{arith}
use borrow.Author.Tests.{eqb-true, eq-eqb, leb-true, leb-false, le-leb, lt-leb}
use lib.IntN.{ℤ, pos}
use lib.Signed.{◌≤ℤ◌}
use lib.Dec.{eqb, leb}
use lib.ListN.{length, get_or}
use Rattle.laws.proofs.Booleans.{and_true, and_true_of, bool_cases}
use Rattle.plan.specs.declared.Interval.{Interval}
use Rattle.plan.specs.declared.ElementNumber.{ElementNumber}
use Rattle.plan.specs.Operations.{PARAM}
use Rattle.plan.specs.Types.{between, holds}
use Rattle.plan.specs.Words.{node_at}
use Rattle.plan.specs.Answers.{Refusal, Outcome, accepted, refused, refuse, need, and_then}
use Rattle.plan.proofs.Outcomes.{never_both, refused_same, need_accepted, then_accepted}
use Rattle.bounds.proofs.Sound.{held, holding}
use Rattle.rules.specs.Rules.{Derived}
use Rattle.verifier.specs.Check.{verdict, total_of}
use Rattle.cells.specs.Cells.{Field}
use Rattle.runner.specs.Inputs.{input_start, input_total, declared, input_limits, test_input, test_at, test_inputs}
use Rattle.runner.specs.Run.{fields_of, run_accepted, run}
use Rattle.runner.proofs.Inputs.{Passes, limits_length, limits_at_lem, start_more, position_in, tests_passed, tests_stop, stop_tests}
use Rattle.guarantees.specs.Demand3.{Lent, ran, word, elements, Proper}
use Rattle.guarantees.specs.Runs.{Belongs, WithinLimits, Good, RightLengths, Room, RunRefuses, wrong_length, no_room, bad_flag, bad_number, RunsExactly}
use Rattle.guarantees.proofs.Words.{op_of, op_word, low_word, high_word}
use Rattle.guarantees.proofs.Demands.{completed}

zero_or_one : (n : ℕ) → n ≤ 1 → (n ≡ 0) ⊎ (n ≡ 1)
zero_or_one zero h = inl refl
zero_or_one (suc zero) h = inr refl
zero_or_one (suc (suc n)) h = absurd (omega arith)

two_or_more : (n : ℕ) → (n ≡ 0 → ⊥) → (n ≡ 1 → ⊥) → 1 < n
two_or_more zero a b = absurd (a refl)
two_or_more (suc zero) a b = absurd (b refl)
two_or_more (suc (suc n)) a b = omega arith

pub not_true : {b : Bool} → (b ≡ true → ⊥) → b ≡ false
not_true {b} h = bool_cases b (λ e. absurd (h e)) (λ e. e)

-- ---- what an accepted run was given

module _ (t : List ℤ) (ds : List Derived) (x : Lent) (fs : List Field) (v : verdict t ≡ accepted ds) (e : ran t x ≡ accepted fs) where
  tests : (eqb (length x.values) (length (input_limits t ds)) && eqb (length x.flags) (length (input_limits t ds)) ≡ true)
      × (leb (total_of ds) (length x.value_buffer) && leb (total_of ds) (length x.flag_buffer) ≡ true)
      × (test_inputs (input_limits t ds) x.values x.flags ≡ accepted tt)
  unfolding run run_accepted
  tests =
      let a : run_accepted t ds (input_limits t ds) x.values x.flags (length x.value_buffer) (length x.flag_buffer) ≡ accepted fs = rw v at e in
      let b = need_accepted (eqb (length x.values) (length (input_limits t ds)) && eqb (length x.flags) (length (input_limits t ds))) 13 0 _ a in
      let c = need_accepted (leb (total_of ds) (length x.value_buffer) && leb (total_of ds) (length x.flag_buffer)) 14 0 _ b.1 in
      let d = then_accepted (test_inputs (input_limits t ds) x.values x.flags) _ c.1 in
      (b.0, c.0, d.1)

  total : length (input_limits t ds) ≡ input_total t ds
  total = limits_length t ds

  lengths : (length x.values ≡ length (input_limits t ds)) × (length x.flags ≡ length (input_limits t ds))
  lengths = let a = and_true (eqb (length x.values) (length (input_limits t ds))) _ tests.0 in (eqb-true _ _ a.0, eqb-true _ _ a.1)

  passes : (p : ℕ) → p < length (input_limits t ds) → Passes (get_or (input_limits t ds) p (between (pos 0) (pos 0))) (get_or x.values p (pos 0)) (get_or x.flags p 0)
  passes = tests_passed (input_limits t ds) x.values x.flags tests.2

  limits : (n : ℕ) (e : ElementNumber) → n < length ds → word t n 0 ≡ pos PARAM → e.0 < elements ds n → get_or x.flags (input_start t ds n + e.0) 0 ≡ 1
      → (word t n 7 ≤ℤ get_or x.values (input_start t ds n + e.0) (pos 0)) × (get_or x.values (input_start t ds n + e.0) (pos 0) ≤ℤ word t n 8)
  limits n e l q k f =
      let op : (node_at t n).op ≡ PARAM = op_of t n PARAM q in
      let more = start_more t ds n (length ds) l op in
      let here : get_or (input_limits t ds) (input_start t ds n + e.0) (between (pos 0) (pos 0)) ≡ declared t n = limits_at_lem t ds n e.0 _ l op k in
      let p = passes (input_start t ds n + e.0) (omega (arith, total, more, k)) in
      let w : holds (declared t n) (get_or x.values (input_start t ds n + e.0) (pos 0)) ≡ true = rw here at (p.in_limits f) in
      let i = held (declared t n) _ w in
      (rw (low_word t n) at i.low, rw (high_word t n) at i.high)

  was_proper : Proper t ds x
  was_proper =
      let room = and_true (leb (total_of ds) (length x.value_buffer)) _ tests.1 in
      record {
        accepts = v;
        values_length = lengths.0 ∙ total;
        flags_length = lengths.1 ∙ total;
        value_room = leb-true _ _ room.0;
        flag_room = leb-true _ _ room.1;
        zero_or_one = λ p h. zero_or_one _ (passes p (omega (arith, h, lengths.1))).flag_right;
        in_limits = limits;
      }

-- ---- a refusal

-- what is asked at position p, in both forms
module _ (t : List ℤ) (ds : List Derived) (x : Lent) where
  abbrev limits_at : ℕ → Interval
  limits_at p = get_or (input_limits t ds) p (between (pos 0) (pos 0))

  abbrev value_at : ℕ → ℤ
  value_at p = get_or x.values p (pos 0)

  abbrev flag_at : ℕ → ℕ
  flag_at p = get_or x.flags p 0

  limits_of : (p n e : ℕ) → Belongs t ds x p n e → get_or (input_limits t ds) p (between (pos 0) (pos 0)) ≡ between (word t n 7) (word t n 8)
  limits_of p n e b = rw b.place (limits_at_lem t ds n e _ b.there (op_of t n 1 b.param) b.inside ∙ rw (low_word t n, high_word t n) refl)

  within_held : (p : ℕ) → holds (limits_at p) (value_at p) ≡ true → WithinLimits t ds x p
  within_held p h n e b = let w = held (between (word t n 7) (word t n 8)) (value_at p) (rw (limits_of p n e b) at h) in (w.low, w.high)

  held_within : (p : ℕ) → p < input_total t ds → WithinLimits t ds x p → holds (limits_at p) (value_at p) ≡ true
  held_within p l w =
      let at = position_in t ds (length ds) p l in
      let b : Belongs t ds x p at.param at.element = record { there = at.before; param = op_word t at.param 1 at.is_param (omega arith); inside = at.inside; place = at.place } in
      let i = w at.param at.element b in
      rw (limits_of p at.param at.element b) (holding (between (word t at.param 7) (word t at.param 8)) (value_at p) (record { low = i.0; high = i.1 }))

  good_passes : (p : ℕ) → p < input_total t ds → Good t ds x p → Passes (limits_at p) (value_at p) (flag_at p)
  good_passes p l g =
      record { flag_right = ⊎_elim (λ e. rw e (omega arith)) (λ e. rw e (omega arith)) g.0; in_limits = λ f. held_within p l (g.1 f) }

  passes_good : (p : ℕ) → Passes (limits_at p) (value_at p) (flag_at p) → Good t ds x p
  passes_good p w = (zero_or_one (flag_at p) w.flag_right, λ f. within_held p (w.in_limits f))

  -- what the test of a position refuses
  test_refuses : (p : ℕ) {r : Refusal} → test_at (input_limits t ds) x.values x.flags p ≡ refused r
      → ((r ≡ record { number = 15; place = p }) × (1 < flag_at p)) ⊎ ((r ≡ record { number = 16; place = p }) × (flag_at p ≡ 1) × (holds (limits_at p) (value_at p) ≡ false))
  unfolding test_input
  test_refuses p {r} e = flag (leb (flag_at p) 1) refl e
    where
      number : (b : Bool) → holds (limits_at p) (value_at p) ≡ b → (f : Bool) → eqb (flag_at p) 1 ≡ f → need (not f || b) 16 p (accepted (tt {0})) ≡ refused r
          → (r ≡ record { number = 16; place = p }) × (flag_at p ≡ 1) × (holds (limits_at p) (value_at p) ≡ false)
      number true h true f e = never_both e
      number true h false f e = never_both e
      number false h true f e = (sym (refused_same e), eqb-true _ _ f, h)
      number false h false f e = never_both e

      flag : (b : Bool) → leb (flag_at p) 1 ≡ b → need b 15 p (need (not (eqb (flag_at p) 1) || holds (limits_at p) (value_at p)) 16 p (accepted (tt {0}))) ≡ refused r
          → ((r ≡ record { number = 15; place = p }) × (1 < flag_at p)) ⊎ ((r ≡ record { number = 16; place = p }) × (flag_at p ≡ 1) × (holds (limits_at p) (value_at p) ≡ false))
      flag true h e = inr (number _ refl _ refl e)
      flag false h e = inl (sym (refused_same e), leb-false _ _ h)

  refuses_15 : (p : ℕ) → 1 < flag_at p → test_at (input_limits t ds) x.values x.flags p ≡ refuse 15 p
  unfolding test_input
  refuses_15 p h = rw (lt-leb (flag_at p) 1 h) refl

  refuses_16 : (p : ℕ) → flag_at p ≡ 1 → holds (limits_at p) (value_at p) ≡ false → test_at (input_limits t ds) x.values x.flags p ≡ refuse 16 p
  unfolding test_input
  refuses_16 p f h = rw (f, h) refl

  -- ---- in the run's order

  module _ (v : verdict t ≡ accepted ds) where
    abbrev lengths_right : Bool
    lengths_right = eqb (length x.values) (length (input_limits t ds)) && eqb (length x.flags) (length (input_limits t ds))

    abbrev room_right : Bool
    room_right = leb (total_of ds) (length x.value_buffer) && leb (total_of ds) (length x.flag_buffer)

    lengths_true : lengths_right ≡ true → RightLengths t ds x
    lengths_true e = let a = and_true (eqb (length x.values) (length (input_limits t ds))) _ e in (eqb-true _ _ a.0 ∙ limits_length t ds, eqb-true _ _ a.1 ∙ limits_length t ds)

    true_lengths : RightLengths t ds x → lengths_right ≡ true
    true_lengths w = and_true_of _ _ (eq-eqb _ _ (w.0 ∙ sym (limits_length t ds))) (eq-eqb _ _ (w.1 ∙ sym (limits_length t ds)))

    room_true : room_right ≡ true → Room t ds x
    room_true e = let a = and_true (leb (total_of ds) (length x.value_buffer)) _ e in (leb-true _ _ a.0, leb-true _ _ a.1)

    true_room : Room t ds x → room_right ≡ true
    true_room w = and_true_of _ _ (le-leb _ _ w.0) (le-leb _ _ w.1)

    run_is : ran t x ≡ need lengths_right 13 0 (need room_right 14 0 (and_then (test_inputs (input_limits t ds) x.values x.flags) (λ passed. accepted (fields_of t ds x.values x.flags))))
    unfolding run run_accepted
    run_is = rw v refl

    -- the refusals of the scan
    scan_refuses : {r : Refusal} → lengths_right ≡ true → room_right ≡ true → test_inputs (input_limits t ds) x.values x.flags ≡ refused r → RunRefuses t ds x r
    scan_refuses {r} l m e =
        let s = tests_stop (input_limits t ds) x.values x.flags e in
        let inside : s.at < input_total t ds = rw (limits_length t ds) at s.inside in
        let before : (q : ℕ) → q < s.at → Good t ds x q = λ q h. passes_good q (s.before q h) in
        ⊎_elim
        (λ (w : (r ≡ record { number = 15; place = s.at }) × (1 < flag_at s.at)).
        subst (RunRefuses t ds x) (sym w.0) (bad_flag (lengths_true l) (room_true m) inside before (λ f. absurd (omega (arith, w.1, f))) (λ f. absurd (omega (arith, w.1, f)))))
        (λ (w : (r ≡ record { number = 16; place = s.at }) × (flag_at s.at ≡ 1) × (holds (limits_at s.at) (value_at s.at) ≡ false)).
        subst (RunRefuses t ds x) (sym w.0)
        (bad_number (lengths_true l) (room_true m) inside before w.1 (λ g. false≢true (sym w.2 ∙ held_within s.at inside g))))
        (test_refuses s.at s.refuses)

    because : {r : Refusal} → ran t x ≡ refused r → RunRefuses t ds x r
    because {r} e = lengths lengths_right refl (sym run_is ∙ e)
      where
        scan : (o : Outcome Unit) → test_inputs (input_limits t ds) x.values x.flags ≡ o → lengths_right ≡ true → room_right ≡ true
            → and_then o (λ passed. accepted (fields_of t ds x.values x.flags)) ≡ refused r → RunRefuses t ds x r
        scan (accepted p) q l m e = never_both e
        scan (refused s) q l m e = scan_refuses l m (q ∙ ap {B = Outcome Unit} refused (refused_same e))

        rooms : (b : Bool) → room_right ≡ b → lengths_right ≡ true
            → need b 14 0 (and_then (test_inputs (input_limits t ds) x.values x.flags) (λ passed. accepted (fields_of t ds x.values x.flags))) ≡ refused r → RunRefuses t ds x r
        rooms true m l e = scan (test_inputs (input_limits t ds) x.values x.flags) refl l m e
        rooms false m l e = subst (RunRefuses t ds x) (refused_same e) (no_room (lengths_true l) (λ w. false≢true (sym m ∙ true_room w)))

        lengths : (b : Bool) → lengths_right ≡ b
            → need b 13 0 (need room_right 14 0 (and_then (test_inputs (input_limits t ds) x.values x.flags) (λ passed. accepted (fields_of t ds x.values x.flags)))) ≡ refused r
            → RunRefuses t ds x r
        lengths true l e = rooms room_right refl l e
        lengths false l e = subst (RunRefuses t ds x) (refused_same e) (wrong_length (λ w. false≢true (sym l ∙ true_lengths w)))

    stopped : {r : Refusal} (p : ℕ) → RightLengths t ds x → Room t ds x → p < input_total t ds → ((q : ℕ) → q < p → Good t ds x q) → test_at (input_limits t ds) x.values x.flags p ≡ refused r
        → ran t x ≡ refused r
    stopped p l m h before e =
        let s = stop_tests (input_limits t ds) x.values x.flags (record { at = p; inside = rw (limits_length t ds) h; before = λ q k. good_passes q (omega arith) (before q k); refuses = e }) in
        run_is ∙ rw (true_lengths l, true_room m, s) refl

    refuses : {r : Refusal} → RunRefuses t ds x r → ran t x ≡ refused r
    refuses (wrong_length w) = run_is ∙ rw (not_true (λ e. w (lengths_true e))) refl
    refuses (no_room l w) = run_is ∙ rw (true_lengths l, not_true (λ e. w (room_true e))) refl
    refuses (bad_flag {p} l m h before a b) = stopped p l m h before (refuses_15 p (two_or_more (flag_at p) a b))
    refuses (bad_number {p} l m h before f w) = stopped p l m h before (refuses_16 p f (not_true (λ e. w (within_held p e))))

checked_first : (t : List ℤ) (x : Lent) (r : Refusal) → verdict t ≡ refused r → ran t x ≡ refused r
unfolding run
checked_first t x r v = rw v refl

pub runs_exactly : RunsExactly
runs_exactly =
    record {
      check_first = checked_first;
      refused_when = λ t ds x r v. (because t ds x v, refuses t ds x v);
      accepted_when = λ t ds x v. (λ fs e. was_proper t ds x fs v e, completed t ds x);
    }
