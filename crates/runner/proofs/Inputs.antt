-- The input of a run: where each PARAM's cells lie, and what 15 and 16 leave of them.
use Prim.Native.Nat.{ℕ, zero, suc, ◌+◌, ◌-◌, ◌<◌, ◌≤◌}
use mathlib.Core.Path.{◌≡◌, refl, ap, ◌∙◌}
use mathlib.Core.Bool.{true, ◌||◌, not, cond}
use mathlib.Core.Logic.{⊎_elim}
use mathlib.Core.List.{List, [], ◌∷◌, ◌++◌, append-nil}
use native.Mathlib.Omega.{arith}
use native.Mathlib.Nat.{eq-or-lt_of_le, not-suc-le-zero, le_of_suc-le-suc}
use borrow.Author.Tests.{eqb-true, eq-eqb, ltb-true, ltb-false, leb-true, le-leb}
use lib.IntN.{ℤ, pos}
use lib.Dec.{eqb, ltb, leb}
use lib.ListN.{length, get_or, take, replicate, length-append, length-replicate, get_or-replicate}
use Rattle.laws.specs.Lists.{tab, concat}
use Rattle.laws.proofs.Booleans.{bool_cases, cond_both}
use Rattle.laws.proofs.Lists.{get_or_tab, get_or_tab_past, tab_same, tab_snoc, take_tab, concat_append, concat_at}
use Rattle.plan.specs.declared.Interval.{Interval}
use Rattle.plan.specs.Operations.{PARAM}
use Rattle.plan.specs.Types.{between, holds}
use Rattle.plan.specs.Words.{node_at, if_param, over_params}
use Rattle.plan.specs.Answers.{Refusal, Outcome, accepted, refused, in_turn}
use Rattle.plan.proofs.Outcomes.{need_accepted, turn_last, turn_more, turn_stays, turn_refused, turn_same, turn_all, turn_prefix}
use Rattle.bounds.proofs.Sound.{held}
use Rattle.rules.specs.Rules.{Derived, no_source}
use Rattle.verifier.specs.Check.{count_of}
use Rattle.cells.specs.Cells.{known, gap}
use Rattle.cells.proofs.Sound.{Bounded}
use Rattle.runner.specs.Inputs.{input_start, input_total, declared, node_limits, input_limits, input_cell, input_cells, test_input, test_at, test_inputs}

-- ---- positions

module _ (t : List ℤ) (ds : List Derived) where
  abbrev size : ℕ → ℕ
  size i = count_of (get_or ds i no_source)

  part_length : (n : ℕ) → length (node_limits t ds n) ≡ if_param t n (count_of (get_or ds n no_source))
  part_length n =
      bool_cases (eqb (node_at t n).op PARAM) (λ e. rw e (length-replicate (count_of (get_or ds n no_source)) (declared t n))) (λ e. rw e refl)

  before_length : (n : ℕ) → length (concat (tab n (λ (i : ℕ). node_limits t ds i))) ≡ input_start t ds n
  unfolding tab concat over_params
  before_length zero = refl
  before_length (suc n) =
      ap (λ (l : List (List Interval)). length (concat l)) (tab_snoc n (λ (i : ℕ). node_limits t ds i))
      ∙ ap length (concat_append (tab n (λ (i : ℕ). node_limits t ds i)) (node_limits t ds n ∷ []))
      ∙ length-append (concat (tab n (λ (i : ℕ). node_limits t ds i))) (node_limits t ds n ++ [])
      ∙ rw (before_length n, append-nil, part_length n) refl

  -- one limit for each position
  pub limits_length : length (input_limits t ds) ≡ input_total t ds
  unfolding input_limits
  limits_length = before_length (length ds)

  -- PARAM n's limits are at its own positions
  pub limits_at_lem : (n e : ℕ) (d : Interval) → n < length ds → (node_at t n).op ≡ PARAM → e < count_of (get_or ds n no_source)
      → get_or (input_limits t ds) (input_start t ds n + e) d ≡ declared t n
  unfolding input_limits
  limits_at_lem n e d h q l =
      let parts = tab (length ds) (λ (i : ℕ). node_limits t ds i) in
      let here : get_or parts n [] ≡ replicate (count_of (get_or ds n no_source)) (declared t n) = get_or_tab (length ds) (λ (i : ℕ). node_limits t ds i) n [] h ∙ rw (eq-eqb (node_at t n).op PARAM q) refl in
      let front : length (concat (take n parts)) ≡ input_start t ds n = ap (λ (l : List (List Interval)). length (concat l)) (take_tab n (length ds) (λ (i : ℕ). node_limits t ds i) (omega arith)) ∙ before_length n in
      let inside : e < length (get_or parts n []) = rw (here, length-replicate) l in
      rw (← front) (concat_at parts n e d inside ∙ rw here (get_or-replicate (count_of (get_or ds n no_source)) e (declared t n) d l))

  -- the positions of PARAM n end before those of the nodes after it
  pub start_more : (i n : ℕ) → i < n → (node_at t i).op ≡ PARAM → input_start t ds i + count_of (get_or ds i no_source) ≤ input_start t ds n
  unfolding over_params
  start_more i zero h q = absurd (not-suc-le-zero h)
  start_more i (suc n) h q =
      ⊎_elim
      (λ (e : i ≡ n). rw (← e, eq-eqb (node_at t i).op PARAM q) (omega arith))
      (λ (l : i < n). omega (arith, start_more i n l q))
      (eq-or-lt_of_le (le_of_suc-le-suc h))

  -- every position is one of a PARAM's
  pub record Position (n p : ℕ) : Type 0 where
    pub param : ℕ
    pub element : ℕ
    pub before : param < n
    pub is_param : (node_at t param).op ≡ PARAM
    pub inside : element < count_of (get_or ds param no_source)
    pub place : p ≡ input_start t ds param + element

  pub position_in : (n p : ℕ) → p < input_start t ds n → Position n p
  unfolding over_params
  position_in zero p h = absurd (not-suc-le-zero h)
  position_in (suc n) p h =
      bool_cases (ltb p (input_start t ds n))
      (λ l.
      let w = position_in n p (ltb-true _ _ l) in
      record { param = w.param; element = w.element; before = omega (arith, w.before); is_param = w.is_param; inside = w.inside; place = w.place })
      (λ l. last (ltb-false _ _ l))
    where
      last : input_start t ds n ≤ p → Position (suc n) p
      last l =
          bool_cases (eqb (node_at t n).op PARAM)
          (λ e.
          let h' : p < input_start t ds n + count_of (get_or ds n no_source) = rw e at h in
          record { param = n; element = p - input_start t ds n; before = omega arith; is_param = eqb-true _ _ e; inside = omega arith; place = omega arith })
          (λ e. let h' : p < input_start t ds n + 0 = rw e at h in absurd (omega arith))

-- ---- 15 and 16

-- what 15 and 16 ask at a position
pub record Passes (limits : Interval) (value : ℤ) (flag : ℕ) : Type 0 where
  pub flag_right : flag ≤ 1
  pub in_limits : flag ≡ 1 → holds limits value ≡ true

module _ (limits : Interval) (value : ℤ) (flag p : ℕ) where
  test_passes : test_input limits value flag p ≡ accepted tt → Passes limits value flag
  unfolding test_input
  test_passes e =
      let a = need_accepted (leb flag 1) 15 p _ e in
      let b = need_accepted (not (eqb flag 1) || holds limits value) 16 p (accepted tt) a.1 in
      record { flag_right = leb-true flag 1 a.0; in_limits = λ q. rw (eq-eqb flag 1 q) at b.0 }

  passes_test : Passes limits value flag → test_input limits value flag p ≡ accepted tt
  unfolding test_input
  passes_test w =
      rw (le-leb flag 1 w.flag_right)
      (bool_cases (eqb flag 1) (λ e. rw (e, w.in_limits (eqb-true flag 1 e)) refl) (λ e. rw e refl))

module _ (limits : List Interval) (values : List ℤ) (flags : List ℕ) where
  abbrev limits_at : ℕ → Interval
  limits_at p = get_or limits p (between (pos 0) (pos 0))

  -- the positions before n are not refused, exactly when each passes
  abbrev step : ℕ → Unit {0} → Outcome Unit
  step p passed = test_at limits values flags p

  pub turns_passed : (n : ℕ) → in_turn (λ (p : ℕ) (passed : Unit). test_at limits values flags p) tt n ≡ accepted tt → (p : ℕ) → p < n
      → Passes (get_or limits p (between (pos 0) (pos 0))) (get_or values p (pos 0)) (get_or flags p 0)
  turns_passed n e p h =
      let before = turn_prefix step tt (suc p) n h e in
      test_passes (limits_at p) (get_or values p (pos 0)) (get_or flags p 0) p (turn_last step tt p before.1).2

  pub passed_turns : (n : ℕ) → ((p : ℕ) → p < n → Passes (get_or limits p (between (pos 0) (pos 0))) (get_or values p (pos 0)) (get_or flags p 0))
      → in_turn (λ (p : ℕ) (passed : Unit). test_at limits values flags p) tt n ≡ accepted tt
  passed_turns n h = turn_all step tt n (λ p q. passes_test (limits_at p) (get_or values p (pos 0)) (get_or flags p 0) p (h p q))

  -- none is refused 15 or 16, exactly when every position passes
  pub tests_passed : test_inputs limits values flags ≡ accepted tt → (p : ℕ) → p < length limits → Passes (get_or limits p (between (pos 0) (pos 0))) (get_or values p (pos 0)) (get_or flags p 0)
  unfolding test_inputs
  tests_passed e = turns_passed (length limits) e

  pub passed_tests : ((p : ℕ) → p < length limits → Passes (get_or limits p (between (pos 0) (pos 0))) (get_or values p (pos 0)) (get_or flags p 0)) → test_inputs limits values flags ≡ accepted tt
  unfolding test_inputs
  passed_tests h = passed_turns (length limits) h

  -- the first position that does not pass, and what is wrong there
  pub record Stops (r : Refusal) : Type 0 where
    pub at : ℕ
    pub inside : at < length limits
    pub before : (q : ℕ) → q < at → Passes (get_or limits q (between (pos 0) (pos 0))) (get_or values q (pos 0)) (get_or flags q 0)
    pub refuses : test_at limits values flags at ≡ refused r

  pub tests_stop : {r : Refusal} → test_inputs limits values flags ≡ refused r → Stops r
  unfolding test_inputs
  tests_stop e =
      let w = turn_refused step tt (length limits) e in
      record { at = w.0; inside = w.2; before = turns_passed w.0 w.3; refuses = w.4 }

  pub stop_tests : {r : Refusal} → Stops r → test_inputs limits values flags ≡ refused r
  unfolding test_inputs
  stop_tests s = turn_stays step tt (suc s.at) (length limits) s.inside (turn_more step tt s.at (passed_turns s.at s.before) ∙ s.refuses)

  -- a number under a gap is not looked at
  pub tests_same : (others : List ℤ) → ((p : ℕ) → get_or flags p 0 ≡ 1 → get_or values p (pos 0) ≡ get_or others p (pos 0)) → test_inputs limits values flags ≡ test_inputs limits others flags
  unfolding test_inputs test_input
  tests_same others h =
      turn_same (λ (p : ℕ) (passed : Unit). test_at limits values flags p) (λ (p : ℕ) (passed : Unit). test_at limits others flags p) tt (length limits)
      (λ p a q. bool_cases (eqb (get_or flags p 0) 1) (λ e. rw (e, h p (eqb-true _ _ e)) refl) (λ e. rw e refl))

-- ---- the input's cells

pub cells_same : (values others : List ℤ) (flags : List ℕ) → length values ≡ length others
    → ((p : ℕ) → get_or flags p 0 ≡ 1 → get_or values p (pos 0) ≡ get_or others p (pos 0)) → input_cells values flags ≡ input_cells others flags
unfolding input_cells input_cell
cells_same values others flags l h =
    ap (λ (n : ℕ). tab n (λ (p : ℕ). cond (eqb (get_or flags p 0) 1) (known (get_or values p (pos 0))) gap)) l
    ∙ tab_same (length others) (λ (p : ℕ). cond (eqb (get_or flags p 0) 1) (known (get_or values p (pos 0))) gap) (λ (p : ℕ). cond (eqb (get_or flags p 0) 1) (known (get_or others p (pos 0))) gap)
    (λ p q. bool_cases (eqb (get_or flags p 0) 1) (λ e. rw (e, h p (eqb-true _ _ e)) refl) (λ e. rw e refl))

-- a cell of the input lies in an interval, if its number does where its flag is 1
pub cell_bounded : (i : Interval) (values : List ℤ) (flags : List ℕ) (p : ℕ) → (get_or flags p 0 ≡ 1 → holds i (get_or values p (pos 0)) ≡ true)
    → Bounded i (get_or (input_cells values flags) p gap)
unfolding input_cells input_cell
cell_bounded i values flags p h =
    bool_cases (ltb p (length values))
    (λ l. rw (get_or_tab (length values) (λ (p : ℕ). cond (eqb (get_or flags p 0) 1) (known (get_or values p (pos 0))) gap) p gap (ltb-true _ _ l)) here)
    (λ l. rw (get_or_tab_past (length values) (λ (p : ℕ). cond (eqb (get_or flags p 0) 1) (known (get_or values p (pos 0))) gap) p gap (ltb-false _ _ l)) tt)
  where
    here : Bounded i (cond (eqb (get_or flags p 0) 1) (known (get_or values p (pos 0))) gap)
    here = cond_both (Bounded i) (eqb (get_or flags p 0) 1) (known (get_or values p (pos 0))) gap (λ e. held i (get_or values p (pos 0)) (h (eqb-true _ _ e))) (λ e. tt)
