-- The rules of a node by their numbers, and in the order in which the check runs them.
use Prim.Native.Nat.{ℕ, zero, suc, ◌+◌, ◌<◌, ◌≤◌}
use mathlib.Core.Path.{◌≡◌, sym, refl, subst}
use mathlib.Core.Bool.{Bool, true, false}
use mathlib.Core.Logic.{⊎_elim}
use mathlib.Core.List.{List, [], ◌∷◌}
use native.Mathlib.Omega.{arith}
use native.Mathlib.Nat.{eq-or-lt_of_le}
use lib.IntN.{ℤ}
use Rattle.laws.specs.Lists.{among}
use Rattle.plan.specs.Words.{node_at}
use Rattle.plan.specs.Answers.{Rule, rule, AllHold, FirstFailing}
use Rattle.plan.proofs.Outcomes.{some_rule, fails_cases, fails_here, holds_then}
use Rattle.rules.specs.Rules.{Derived}
use Rattle.verifier.specs.Check.{node_rules}
use Rattle.verifier.specs.Meets.{rule_holds}

-- rules `from`, `from` + 1, .., m of them, by a table of tests
unfoldable numbered : (ℕ → Bool) → ℕ → ℕ → List Rule
numbered f from zero = []
numbered f from (suc m) = rule from (f from) ∷ numbered f (suc from) m

module _ (f : ℕ → Bool) where
  all_numbered : (from m : ℕ) → AllHold (numbered f from m) → (k : ℕ) → from ≤ k → k < from + m → f k ≡ true
  unfolding numbered
  all_numbered from zero h k a b = absurd (omega arith)
  all_numbered from (suc m) h k a b =
      ⊎_elim (λ (q : from ≡ k). subst (λ (i : ℕ). f i ≡ true) q h.0) (λ (q : from < k). all_numbered (suc from) m h.1 k q (omega arith)) (eq-or-lt_of_le a)

  numbered_all : (from m : ℕ) → ((k : ℕ) → from ≤ k → k < from + m → f k ≡ true) → AllHold (numbered f from m)
  unfolding numbered
  numbered_all from zero h = tt
  numbered_all from (suc m) h = (h from (omega arith) (omega arith), numbered_all (suc from) m (λ k a b. h k (omega arith) (omega arith)))

  -- the first that fails has the least number among those that fail
  pub record Least (from m k : ℕ) : Type 0 where
    pub not_below : from ≤ k
    pub not_above : k < from + m
    pub smaller : (j : ℕ) → from ≤ j → j < k → f j ≡ true
    pub fails : f k ≡ false

  first_least : (from m k : ℕ) → FirstFailing (numbered f from m) k → Least from m k
  unfolding numbered
  first_least from zero k w = absurd (omega (arith, some_rule [] w))
  first_least from (suc m) k w =
      ⊎_elim
      (λ (q : (f from ≡ false) × (k ≡ from)).
      rw q.1 (record { not_below = omega arith; not_above = omega arith; smaller = λ j a b. absurd (omega arith); fails = q.0 }))
      (λ (q : (f from ≡ true) × FirstFailing (numbered f (suc from) m) k).
      let rest = first_least (suc from) m k q.1 in
      record {
        not_below = omega (arith, rest.not_below);
        not_above = omega (arith, rest.not_above);
        smaller = λ j a b. ⊎_elim (λ (e : from ≡ j). subst (λ (i : ℕ). f i ≡ true) e q.0) (λ (e : from < j). rest.smaller j e b) (eq-or-lt_of_le a);
        fails = rest.fails;
      })
      (fails_cases from (f from) (numbered f (suc from) m) k w)

  least_first : (from m k : ℕ) → Least from m k → FirstFailing (numbered f from m) k
  unfolding numbered
  least_first from zero k w = absurd (omega (arith, w.not_below, w.not_above))
  least_first from (suc m) k w =
      ⊎_elim
      (λ (q : from ≡ k). subst (λ (i : ℕ). FirstFailing (rule from (f from) ∷ numbered f (suc from) m) i) q (fails_here (f from) (subst (λ (i : ℕ). f i ≡ false) (sym q) w.fails)))
      (λ (q : from < k).
      holds_then (f from) (w.smaller from (omega arith) q)
      (least_first (suc from) m k (record { not_below = q; not_above = omega (arith, w.not_above); smaller = λ j a b. w.smaller j (omega arith) b; fails = w.fails })))
      (eq-or-lt_of_le w.not_below)

-- ---- a node's rules

module _ (t : List ℤ) (n : ℕ) (earlier : List Derived) where
  -- "within a node 2 to 11 by number"
  in_order : node_rules t n earlier ≡ numbered (rule_holds t n earlier) 2 10
  unfolding node_rules node_at numbered rule_holds among
  in_order = refl

  pub all_rules : AllHold (node_rules t n earlier) → (k : ℕ) → 2 ≤ k → k ≤ 11 → rule_holds t n earlier k ≡ true
  all_rules h k a b = all_numbered (rule_holds t n earlier) 2 10 (subst AllHold in_order h) k a (omega arith)

  pub rules_all : ((k : ℕ) → 2 ≤ k → k ≤ 11 → rule_holds t n earlier k ≡ true) → AllHold (node_rules t n earlier)
  rules_all h = subst AllHold (sym in_order) (numbered_all (rule_holds t n earlier) 2 10 (λ k a b. h k a (omega arith)))

  pub first_rule : {k : ℕ} → FirstFailing (node_rules t n earlier) k → Least (rule_holds t n earlier) 2 10 k
  first_rule {k} w = first_least (rule_holds t n earlier) 2 10 k (subst (λ (l : List Rule). FirstFailing l k) in_order w)

  pub rule_first : {k : ℕ} → Least (rule_holds t n earlier) 2 10 k → FirstFailing (node_rules t n earlier) k
  rule_first {k} w = subst (λ (l : List Rule). FirstFailing l k) (sym in_order) (least_first (rule_holds t n earlier) 2 10 k w)
