-- What an outcome says of the steps that made it.
use Prim.Native.Nat.{ℕ, zero, suc, ◌≤◌, ◌<◌}
use mathlib.Core.Path.{◌≡◌, refl, ap, sym, ◌∙◌}
use mathlib.Core.Bool.{Bool, true, false, false≢true, true≢false}
use mathlib.Core.Logic.{◌⊎◌, inl, inr, ⊎_elim}
use mathlib.Core.List.{List, [], ◌∷◌, ◌++◌}
use native.Mathlib.Omega.{arith}
use native.Mathlib.Nat.{eq-or-lt_of_le, not-suc-le-zero, le_of_suc-le-suc}
use lib.ListN.{length}
use Rattle.plan.specs.Answers.{Refusal, Outcome, accepted, refused, refuse, need, and_then, in_turn, Rule, rule, in_order, AllHold, FirstFailing, here, later}

-- ---- one outcome is not two

abbrev is_accepted : {A : Type 0} → Outcome A → Bool
is_accepted (accepted a) = true
is_accepted (refused r) = false

pub never_both : {A G : Type 0} {a : A} {r : Refusal} → accepted a ≡ refused r → G
never_both e = absurd (true≢false (ap is_accepted e))

never_refused : {A G : Type 0} {a : A} {r : Refusal} → refused r ≡ accepted a → G
never_refused e = absurd (false≢true (ap is_accepted e))

abbrev found : {A : Type 0} → A → Outcome A → A
found d (accepted a) = a
found d (refused r) = d

pub accepted_same : {A : Type 0} {a b : A} → accepted a ≡ accepted b → a ≡ b
accepted_same {a = a} e = ap (found a) e

abbrev refusal_or : {A : Type 0} → Refusal → Outcome A → Refusal
refusal_or d (accepted a) = d
refusal_or d (refused r) = r

pub refused_same : {A : Type 0} {r s : Refusal} → ◌≡◌ {A = Outcome A} (refused r) (refused s) → r ≡ s
refused_same {A} {r = r} e = ap (λ (o : Outcome A). refusal_or r o) e

-- ---- a test, and what follows it

module _ {A : Type 0} {a : A} where
  pub need_accepted : (test : Bool) (number place : ℕ) (next : Outcome A) → need test number place next ≡ accepted a → (test ≡ true) × (next ≡ accepted a)
  need_accepted true number place next e = (refl, e)
  need_accepted false number place next e = never_refused e

module _ {A B : Type 0} {b : B} where
  pub then_accepted : (o : Outcome A) (next : A → Outcome B) → and_then o next ≡ accepted b → (a : A) × (o ≡ accepted a) × (next a ≡ accepted b)
  then_accepted (accepted a) next e = (a, refl, e)
  then_accepted (refused r) next e = never_refused e

-- ---- steps in turn

module _ {A : Type 0} (step : ℕ → A → Outcome A) (start : A) where
  -- the last step, and those before it
  pub turn_last : {b : A} (n : ℕ) → in_turn step start (suc n) ≡ accepted b → (a : A) × (in_turn step start n ≡ accepted a) × (step n a ≡ accepted b)
  unfolding in_turn
  turn_last n e = then_accepted (in_turn step start n) (step n) e

  -- one step more
  pub turn_more : {a : A} (n : ℕ) → in_turn step start n ≡ accepted a → in_turn step start (suc n) ≡ step n a
  unfolding in_turn
  turn_more n e = rw e refl

  -- a refusal stays
  pub turn_stays : {r : Refusal} (n m : ℕ) → n ≤ m → in_turn step start n ≡ refused r → in_turn step start m ≡ refused r
  unfolding in_turn
  turn_stays zero zero h e = e
  turn_stays (suc n) zero h e = absurd (not-suc-le-zero h)
  turn_stays {r} n (suc m) h e =
      ⊎_elim
      (λ (q : n ≡ suc m). rw q at e)
      (λ (q : n < suc m). rw (turn_stays n m (le_of_suc-le-suc q) e) refl)
      (eq-or-lt_of_le h)

  -- where all steps are accepted, so are the first of them
  pub turn_prefix : {b : A} (n m : ℕ) → n ≤ m → in_turn step start m ≡ accepted b → (a : A) × (in_turn step start n ≡ accepted a)
  turn_prefix {b} n m h e = by (in_turn step start n) refl
    where
      by : (o : Outcome A) → in_turn step start n ≡ o → (a : A) × (in_turn step start n ≡ accepted a)
      by (accepted a) q = (a, q)
      by (refused r) q = never_refused (sym (turn_stays n m h q) ∙ e)

  -- a refusal comes from the first step that refuses
  pub turn_refused : {r : Refusal} (m : ℕ) → in_turn step start m ≡ refused r
      → (n : ℕ) × (a : A) × (n < m) × (in_turn step start n ≡ accepted a) × (step n a ≡ refused r)
  unfolding in_turn
  turn_refused zero e = never_both e
  turn_refused {r} (suc m) e = by (in_turn step start m) refl e (λ q. turn_refused m q)
    where
      by : (o : Outcome A) → in_turn step start m ≡ o → and_then o (step m) ≡ refused r
          → (in_turn step start m ≡ refused r → (n : ℕ) × (a : A) × (n < m) × (in_turn step start n ≡ accepted a) × (step n a ≡ refused r))
          → (n : ℕ) × (a : A) × (n < suc m) × (in_turn step start n ≡ accepted a) × (step n a ≡ refused r)
      by (accepted a) q e before = (m, a, omega arith, q, e)
      by (refused s) q e before = let w = before (q ∙ e) in (w.0, w.1, omega (arith, w.2), w.3, w.4)

  -- steps that each leave what they found
  pub turn_all : (m : ℕ) → ((n : ℕ) → n < m → step n start ≡ accepted start) → in_turn step start m ≡ accepted start
  unfolding in_turn
  turn_all zero h = refl
  turn_all (suc m) h = rw (turn_all m (λ n q. h n (omega arith))) (h m (omega arith))

-- steps that agree
pub turn_same : {A : Type 0} (step other : ℕ → A → Outcome A) (start : A) (m : ℕ) → ((n : ℕ) (a : A) → n < m → step n a ≡ other n a)
    → in_turn step start m ≡ in_turn other start m
unfolding in_turn
turn_same step other start zero h = refl
turn_same {A} step other start (suc m) h =
    by (in_turn other start m) (turn_same step other start m (λ n a q. h n a (omega arith)))
  where
    by : (o : Outcome A) → in_turn step start m ≡ o → and_then (in_turn step start m) (step m) ≡ and_then o (other m)
    by (accepted a) e = rw e (h m a (omega arith))
    by (refused r) e = rw e refl

-- ---- rules in order

-- the first rule fails, or it holds and a later one is the first that fails; there is such a one
pub fails_here : {number : ℕ} {rules : List Rule} (test : Bool) → test ≡ false → FirstFailing (rule number test ∷ rules) number
fails_here test e = rw e here

pub holds_then : {number failing : ℕ} {rules : List Rule} (test : Bool) → test ≡ true → FirstFailing rules failing → FirstFailing (rule number test ∷ rules) failing
holds_then test e f = rw e (later f)

pub some_rule : (rules : List Rule) {k : ℕ} → FirstFailing rules k → 0 < length rules
some_rule (rule number false ∷ rules) here = omega arith
some_rule (rule number true ∷ rules) (later w) = omega arith
some_rule [] {k = k} w = elim w [ ]

pub fails_cases : (number : ℕ) (test : Bool) (rules : List Rule) (k : ℕ) → FirstFailing (rule number test ∷ rules) k → ((test ≡ false) × (k ≡ number)) ⊎ ((test ≡ true) × FirstFailing rules k)
fails_cases number false rules k here = inl (refl, refl)
fails_cases number true rules k (later w) = inr (refl, w)

-- rules after rules
pub first_front : {failing : ℕ} {rules : List Rule} (more : List Rule) → FirstFailing rules failing → FirstFailing (rules ++ more) failing
first_front more here = here
first_front more (later f) = later (first_front more f)

pub first_back : {failing : ℕ} (rules : List Rule) {more : List Rule} → AllHold rules → FirstFailing more failing → FirstFailing (rules ++ more) failing
first_back [] h f = f
first_back (rule number test ∷ rules) h f = holds_then test h.0 (first_back rules h.1 f)

pub all_both : (rules more : List Rule) → AllHold rules → AllHold more → AllHold (rules ++ more)
all_both [] more h k = k
all_both (rule number test ∷ rules) more h k = (h.0, all_both rules more h.1 k)

module _ {A : Type 0} where
  pub order_accepted : {a : A} (rules : List Rule) (place : ℕ) (next : Outcome A) → in_order rules place next ≡ accepted a → AllHold rules × (next ≡ accepted a)
  order_accepted [] place next e = (tt, e)
  order_accepted (rule number test ∷ rules) place next e =
      let this = need_accepted test number place (in_order rules place next) e in
      let rest = order_accepted rules place next this.1 in
      ((this.0, rest.0), rest.1)

  pub order_holds : (rules : List Rule) (place : ℕ) (next : Outcome A) → AllHold rules → in_order rules place next ≡ next
  order_holds [] place next h = refl
  order_holds (rule number test ∷ rules) place next h = rw h.0 (order_holds rules place next h.1)

  pub order_refused : {r : Refusal} (rules : List Rule) (place : ℕ) (a : A) → in_order rules place (accepted a) ≡ refused r
      → FirstFailing rules r.number × (r.place ≡ place)
  order_refused [] place a e = never_both e
  order_refused {r} (rule number true ∷ rules) place a e = let rest = order_refused rules place a e in (later rest.0, rest.1)
  order_refused {r} (rule number false ∷ rules) place a e =
      let q = refused_same e in
      (rw (← q) here, ap (λ (x : Refusal). x.place) (sym q))

  pub order_fails : {failing : ℕ} (rules : List Rule) (place : ℕ) (next : Outcome A) → FirstFailing rules failing
      → in_order rules place next ≡ refuse failing place
  order_fails (rule number false ∷ rules) place next here = refl
  order_fails (rule number true ∷ rules) place next (later h) = order_fails rules place next h
  order_fails {failing = failing} [] place next w = elim w [ ]
