-- Demand 2: "a plan is accepted exactly when it meets the .. rules .. of document 01", both ways, and so for every refusal with its number and place. What each
-- of the rules 2 to 11 says stands in Rules.antt.
use Rattle.std.specs.Prelude.{ℕ, ◌*◌, ◌<◌, ◌≤◌, ◌≡◌, true, false, List, ℤ, length}
use Rattle.plan.specs.Answers.{Refusal, accepted, refused}
use Rattle.rules.specs.Rules.{Derived}
use Rattle.verifier.specs.Check.{total_of, verdict}
use Rattle.verifier.specs.Meets.{rule_holds, NodesMeet}
use Rattle.guarantees.specs.Rules.{Exactly}

-- "a table of 1 to 256 nodes, each of 17 .. words": m nodes
pub record Nodes (t : List ℤ) (m : ℕ) : Type 0 where
  pub words : length t ≡ 17 * m
  pub some : 1 ≤ m
  pub few : m ≤ 256

-- each of its nodes meets 2 to 11 after the records of those before it, ds are the records derived of them, and all nodes together have at most 4194304 elements
pub record Accepts (t : List ℤ) (ds : List Derived) : Type 0 where
  pub nodes : Nodes t (length ds)
  pub each : NodesMeet t (length ds) ds
  pub total : total_of ds ≤ 4194304

-- "Order: 1; nodes in turn, within a node 2 to 11 by number; 12"
pub data Refuses (t : List ℤ) : Refusal → Type 0 where
  -- "1: length no multiple of 17, or not 1..256 nodes"
  bad_length : ((m : ℕ) → Nodes t m → ⊥) → Refuses t (record { number = 1; place = 0 })
  -- the nodes before n meet all rules, and k is the least number of a rule that n does not meet
  bad_node : {m n k : ℕ} {ds : List Derived} → Nodes t m → n < m → NodesMeet t n ds → 2 ≤ k → k ≤ 11 → ((j : ℕ) → 2 ≤ j → j < k → rule_holds t n ds j ≡ true) → rule_holds t n ds k ≡ false
      → Refuses t (record { number = k; place = n })
  -- "12: all nodes together over 4194304 elements"
  too_many : {ds : List Derived} → Nodes t (length ds) → NodesMeet t (length ds) ds → 4194304 < total_of ds → Refuses t (record { number = 12; place = 0 })

pub record Acceptance : Type 0 where
  pub accepted_when : (t : List ℤ) (ds : List Derived) → Exactly (verdict t ≡ accepted ds) (Accepts t ds)
  pub refused_when : (t : List ℤ) (r : Refusal) → Exactly (verdict t ≡ refused r) (Refuses t r)
