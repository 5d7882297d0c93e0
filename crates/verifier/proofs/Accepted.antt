-- Acceptance, at every prefix of a plan: the first n nodes are accepted with records ds exactly when each meets the rules.
use Prim.Native.Nat.{ℕ, zero, suc, ◌<◌}
use mathlib.Core.Path.{◌≡◌, refl, ap, sym, ◌∙◌, subst}
use mathlib.Core.Bool.{Bool, true, false, cond}
use mathlib.Core.Logic.{⊎_elim}
use mathlib.Core.List.{List, [], ◌∷◌, ◌++◌}
use native.Mathlib.Omega.{arith}
use native.Mathlib.Nat.{eq-or-lt_of_le, not-suc-le-zero, le_of_suc-le-suc}
use borrow.Author.Tests.{leb-true, leb-false, le-leb, lt-leb}
use lib.IntN.{ℤ}
use lib.Dec.{leb}
use lib.ListN.{length, get_or, take}
use lib.Seq.{take-take, take-suc, take-append_seam, get_or-append_seam, get_or-take, length-take-le}
use Rattle.laws.proofs.Lists.{length_snoc, take_whole}
use Rattle.plan.specs.Words.{node_count, length_right}
use Rattle.plan.specs.Answers.{Refusal, Outcome, accepted, refused, refuse, need, and_then, in_turn, AllHold}
use Rattle.plan.proofs.Outcomes.{never_both, accepted_same, refused_same, need_accepted, then_accepted, turn_last, turn_more, turn_stays, turn_refused, order_accepted, order_holds, order_refused, order_fails}
use Rattle.rules.specs.Rules.{Derived, no_source}
use Rattle.verifier.specs.Check.{derive_node, node_rules, check_node, check_to, total_of, total_limit, verdict}
use Rattle.verifier.proofs.ByNumber.{all_rules, rules_all, first_rule, rule_first}
use Rattle.verifier.specs.Meets.{NodeMeets, MeetsAt, NodesMeet, PlanMeets, Refuses, bad_length, bad_node, too_many}

-- ---- one node

module _ (t : List ℤ) (n : ℕ) (earlier : List Derived) where
  rules_meet : AllHold (node_rules t n earlier) → NodeMeets t n earlier (derive_node t n earlier)
  unfolding derive_node
  rules_meet h = record { holds = all_rules t n earlier h; derived = refl }

  meets_derived : {d : Derived} → NodeMeets t n earlier d → d ≡ derive_node t n earlier
  unfolding derive_node
  meets_derived m = m.derived

-- ---- the first n nodes

module _ (t : List ℤ) where
  -- what holds at a node holds in every longer list of records
  within : (ds : List Derived) (n i : ℕ) → i < n → MeetsAt t (take n ds) i → MeetsAt t ds i
  within ds n i h m = rw (take-take i n ds (omega arith), get_or-take n ds i no_source h) at m

  shorter : (ds : List Derived) (n i : ℕ) → i < n → MeetsAt t ds i → MeetsAt t (take n ds) i
  shorter ds n i h m = rw (take-take i n ds (omega arith), get_or-take n ds i no_source h) m

  -- one node more
  module _ (n : ℕ) (earlier : List Derived) (d : Derived) (before : NodesMeet t n earlier) (m : NodeMeets t n earlier d) where
    front : take n (earlier ++ d ∷ []) ≡ earlier
    front = rw (← before.as_many) (take-append_seam earlier (d ∷ []))

    last : get_or (earlier ++ d ∷ []) n no_source ≡ d
    last = rw (← before.as_many) (get_or-append_seam earlier d [] no_source)

    each : (i : ℕ) → i < suc n → MeetsAt t (earlier ++ d ∷ []) i
    each i h =
        ⊎_elim
        (λ (q : i ≡ n). rw (q, front, last) m)
        (λ (q : i < n). within (earlier ++ d ∷ []) n i q (rw front (before.each i q)))
        (eq-or-lt_of_le (le_of_suc-le-suc h))

    meet_more : NodesMeet t (suc n) (earlier ++ d ∷ [])
    meet_more = record { as_many = length_snoc earlier d ∙ ap suc before.as_many; each = each }

  pub checked_meets : (n : ℕ) (ds : List Derived) → check_to t n ≡ accepted ds → NodesMeet t n ds
  unfolding in_turn check_node
  checked_meets zero ds e =
      let q : [] ≡ ds = accepted_same e in
      rw (← q) (record { as_many = refl; each = λ i h. absurd (not-suc-le-zero h) })
  checked_meets (suc n) ds e =
      let step = turn_last (check_node t) [] n e in
      let earlier = step.0 in
      let this = order_accepted (node_rules t n earlier) n (accepted (earlier ++ derive_node t n earlier ∷ [])) step.2 in
      let q : earlier ++ derive_node t n earlier ∷ [] ≡ ds = accepted_same this.1 in
      rw (← q) (meet_more n earlier (derive_node t n earlier) (checked_meets n earlier step.1) (rules_meet t n earlier this.0))

  meets_checked : (n : ℕ) (ds : List Derived) → NodesMeet t n ds → check_to t n ≡ accepted ds
  unfolding in_turn check_node
  meets_checked zero ds m = ap {B = Outcome (List Derived)} accepted (sym (none ds m.as_many))
    where
      none : (ds : List Derived) → length ds ≡ 0 → ds ≡ []
      none [] h = refl
      none (d ∷ ds) h = absurd (omega arith)
  meets_checked (suc n) ds m =
      let h : n < length ds = omega (arith, m.as_many) in
      let l : length (take n ds) ≡ n = length-take-le n ds (omega arith) in
      let before : NodesMeet t n (take n ds) = record { as_many = l; each = λ i q. shorter ds n i q (m.each i (omega arith)) } in
      let this : MeetsAt t ds n = m.each n (omega arith) in
      let d : get_or ds n no_source ≡ derive_node t n (take n ds) = meets_derived t n (take n ds) this in
      let rules : AllHold (node_rules t n (take n ds)) = rules_all t n (take n ds) this.holds in
      let whole : take n ds ++ derive_node t n (take n ds) ∷ [] ≡ ds = rw (← d, ← take-suc ds n no_source h) (take_whole (suc n) ds (omega (arith, m.as_many))) in
      turn_more (check_node t) [] n (meets_checked n (take n ds) before)
      ∙ order_holds (node_rules t n (take n ds)) n (accepted (take n ds ++ derive_node t n (take n ds) ∷ [])) rules
      ∙ ap {B = Outcome (List Derived)} accepted whole

-- ---- the whole plan

module _ (t : List ℤ) (ds : List Derived) where
  pub accepted_meets : verdict t ≡ accepted ds → PlanMeets t ds
  unfolding verdict
  accepted_meets e =
      let a = need_accepted (length_right t) 1 0 _ e in
      let b = then_accepted (check_to t (node_count t)) _ a.1 in
      let c = need_accepted (leb (total_of b.0) total_limit) 12 0 (accepted b.0) b.2 in
      let q : b.0 ≡ ds = accepted_same c.1 in
      let v : check_to t (node_count t) ≡ accepted ds = b.1 ∙ ap {B = Outcome (List Derived)} accepted q in
      record { length_right = a.0; nodes = checked_meets t (node_count t) ds v; total = leb-true (total_of ds) total_limit (rw q at c.0) }

  pub meets_accepted : PlanMeets t ds → verdict t ≡ accepted ds
  unfolding verdict
  meets_accepted m = rw (m.length_right, meets_checked t (node_count t) ds m.nodes, le-leb (total_of ds) total_limit m.total) refl

-- ---- a refusal

refusal_of : {r : Refusal} (number place : ℕ) → number ≡ r.number → place ≡ r.place → record { number = number; place = place } ≡ r
refusal_of number place p q = rw (p, q) refl

pub refused_because : (t : List ℤ) (r : Refusal) → verdict t ≡ refused r → Refuses t r
unfolding verdict check_node
refused_because t r e = go (length_right t) refl e
  where
    -- the first node that fails
    node : length_right t ≡ true → check_to t (node_count t) ≡ refused r → Refuses t r
    node l q =
        let w = turn_refused (check_node t) [] (node_count t) q in
        let f = order_refused (node_rules t w.0 w.1) w.0 (w.1 ++ derive_node t w.0 w.1 ∷ []) w.4 in
        let k = first_rule t w.0 w.1 f.0 in
        subst (Refuses t) (refusal_of r.number w.0 refl (sym f.1))
        (bad_node l w.2 (checked_meets t w.0 w.1 w.3) k.not_below (omega (arith, k.not_above)) k.smaller k.fails)

    total : (ds : List Derived) → length_right t ≡ true → check_to t (node_count t) ≡ accepted ds → (b : Bool) → leb (total_of ds) total_limit ≡ b
        → cond b (accepted ds) (refuse 12 0) ≡ refused r → Refuses t r
    total ds l q true f e = never_both e
    total ds l q false f e = subst (Refuses t) (refused_same e) (too_many l (checked_meets t (node_count t) ds q) (leb-false (total_of ds) total_limit f))

    after : length_right t ≡ true → (o : Outcome (List Derived)) → check_to t (node_count t) ≡ o
        → and_then o (λ ds. need (leb (total_of ds) total_limit) 12 0 (accepted ds)) ≡ refused r → Refuses t r
    after l (accepted ds) q e = total ds l q (leb (total_of ds) total_limit) refl e
    after l (refused s) q e = node l (q ∙ ap {B = Outcome (List Derived)} refused (refused_same e))

    go : (b : Bool) → length_right t ≡ b
        → need b 1 0 (and_then (check_to t (node_count t)) (λ ds. need (leb (total_of ds) total_limit) 12 0 (accepted ds))) ≡ refused r → Refuses t r
    go true l e = after l (check_to t (node_count t)) refl e
    go false l e = subst (Refuses t) (refused_same e) (bad_length l)

pub because_refused : (t : List ℤ) (r : Refusal) → Refuses t r → verdict t ≡ refused r
unfolding verdict check_node
because_refused t r (bad_length l) = rw l refl
because_refused t r (bad_node {n} {k} {ds} l h m low high smaller fails) =
    let f = rule_first t n ds (record { not_below = low; not_above = omega arith; smaller = smaller; fails = fails }) in
    let step : check_node t n ds ≡ refuse k n = order_fails (node_rules t n ds) n (accepted (ds ++ derive_node t n ds ∷ [])) f in
    let at : check_to t (suc n) ≡ refuse k n = turn_more (check_node t) [] n (meets_checked t n ds m) ∙ step in
    rw (l, turn_stays (check_node t) [] (suc n) (node_count t) h at) refl
because_refused t r (too_many {ds} l m h) = rw (l, meets_checked t (node_count t) ds m, lt-leb (total_of ds) total_limit h) refl
