-- What it is for a node to meet the rules.
use Rattle.std.specs.Prelude.{ℕ, ◌<◌, ◌≤◌, ◌≡◌, Bool, true, false, List, [], ◌∷◌, ℤ, length, get_or, take}
use Rattle.plan.specs.Operations.{is_operation, ◌⇒◌, by_operation}
use Rattle.plan.specs.Words.{node_at, words_of, node_count, params_before, length_right, unused_zero}
use Rattle.plan.specs.Answers.{Refusal}
use Rattle.rules.specs.Rules.{Derived, no_source, sources_earlier, type_named, types_agree, rows_right, shape_right, devices_agree, divisor_right, bounds_in_type, derived_of}
use Rattle.verifier.specs.Check.{first, second, third, total_of, total_limit}

-- Whether rule k of 01 holds of node n of table t, after the earlier nodes' records: the test that has this number. The check runs a list of rules in order
-- (rules_of); what it accepts and refuses is said over this table, so that a rule in the wrong place of that list, or under the wrong number, shows.
unfoldable pub rule_holds : List ℤ → ℕ → List Derived → ℕ → Bool
rule_holds t n earlier k =
    let x = node_at t n in
    let a = first x earlier in
    let b = second x earlier in
    let c = third x earlier in
    by_operation k
    ((2 ∷ []) ⇒ is_operation x.op
    ∷ (3 ∷ []) ⇒ unused_zero x.op (words_of t n)
    ∷ (4 ∷ []) ⇒ sources_earlier x n
    ∷ (5 ∷ []) ⇒ type_named x
    ∷ (6 ∷ []) ⇒ types_agree x a.dtype b.dtype c.dtype
    ∷ (7 ∷ []) ⇒ rows_right x (params_before t n) (length a.extents)
    ∷ (8 ∷ []) ⇒ shape_right x a.extents b.extents c.extents
    ∷ (9 ∷ []) ⇒ devices_agree a.device b.device c.device
    ∷ (10 ∷ []) ⇒ divisor_right x.op b.bounds
    ∷ (11 ∷ []) ⇒ bounds_in_type (derived_of x a b c)
    ∷ [])
    true

-- Node n of table t meets rules 2 to 11 after the earlier nodes' records, with its PARAM turn, and d is what they derive of it.
pub record NodeMeets (t : List ℤ) (n : ℕ) (earlier : List Derived) (d : Derived) : Type 0 where
  pub holds : (k : ℕ) → 2 ≤ k → k ≤ 11 → rule_holds t n earlier k ≡ true
  pub derived : d ≡ derived_of (node_at t n) (first (node_at t n) earlier) (second (node_at t n) earlier) (third (node_at t n) earlier)

-- node n of a plan with these records, its sources among the records before it
abbrev pub MeetsAt : List ℤ → List Derived → ℕ → Type 0
MeetsAt t ds n = NodeMeets t n (take n ds) (get_or ds n no_source)

-- the first n nodes meet the rules, and ds are their records
pub record NodesMeet (t : List ℤ) (n : ℕ) (ds : List Derived) : Type 0 where
  pub as_many : length ds ≡ n
  pub each : (i : ℕ) → i < n → MeetsAt t ds i

-- a plan that meets 1 to 12, with these records
pub record PlanMeets (t : List ℤ) (ds : List Derived) : Type 0 where
  pub length_right : length_right t ≡ true
  pub nodes : NodesMeet t (node_count t) ds
  pub total : total_of ds ≤ total_limit

-- the refusals of a plan: 1; at the first node that breaks a rule, the least number of a rule that it breaks; 12
pub data Refuses (t : List ℤ) : Refusal → Type 0 where
  bad_length : length_right t ≡ false → Refuses t (record { number = 1; place = 0 })
  bad_node : {n k : ℕ} {ds : List Derived} → length_right t ≡ true → n < node_count t → NodesMeet t n ds → 2 ≤ k → k ≤ 11
      → ((j : ℕ) → 2 ≤ j → j < k → rule_holds t n ds j ≡ true) → rule_holds t n ds k ≡ false → Refuses t (record { number = k; place = n })
  too_many : {ds : List Derived} → length_right t ≡ true → NodesMeet t (node_count t) ds → total_limit < total_of ds → Refuses t (record { number = 12; place = 0 })
