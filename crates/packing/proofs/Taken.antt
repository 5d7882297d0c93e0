-- "It takes exactly the tables that meet rules 1, 2 and 3 and whose used words lie in −17179869184..17179869183."
use Prim.Native.Nat.{ℕ, zero, suc, ◌<◌, ◌≤◌}
use mathlib.Core.Path.{◌≡◌, refl, ◌∙◌}
use mathlib.Core.Bool.{true}
use mathlib.Core.List.{List, ◌++◌}
use mathlib.Core.Logic.{⊎_elim}
use native.Mathlib.Nat.{eq-or-lt_of_le, le_of_suc-le-suc}
use native.Mathlib.Omega.{arith}
use borrow.Author.Tests.{leb-true, le-leb, lt-leb}
use lib.Dec.{leb}
use lib.IntN.{ℤ}
use lib.ListN.{length}
use Rattle.plan.specs.Words.{words_of, node_count, length_right}
use Rattle.plan.specs.Answers.{accepted, refuse, in_turn, AllHold}
use Rattle.plan.proofs.Outcomes.{accepted_same, need_accepted, then_accepted, turn_last, turn_more, order_accepted, order_holds}
use Rattle.packing.specs.Packing.{pack_rules, node_bytes, opening_bytes, pack_node, pack}

-- rules 1, 2, 3 and 25
pub record Packable (t : List ℤ) : Type 0 where
  pub length_right : length_right t ≡ true
  pub nodes : (n : ℕ) → n < node_count t → AllHold (pack_rules (words_of t n))

-- with room for its bytes exactly the packable tables are taken, with less 14 is given
pub record Takes : Type 0 where
  pub only : (t : List ℤ) (room : ℕ) (b : List ℕ) → pack t room ≡ accepted b → Packable t × (length b ≤ room)
  pub all : (t : List ℤ) → Packable t
      → (b : List ℕ) × ((room : ℕ) → length b ≤ room → pack t room ≡ accepted b) × ((room : ℕ) → room < length b → pack t room ≡ refuse 14 0)

pub turns_hold : (t : List ℤ) (start : List ℕ) (n : ℕ) {b : List ℕ} → in_turn (pack_node t) start n ≡ accepted b → (i : ℕ) → i < n → AllHold (pack_rules (words_of t i))
unfolding in_turn pack_node
turns_hold t start zero e i l = absurd (omega arith)
turns_hold t start (suc n) e i l =
    let last = turn_last (pack_node t) start n e in
    let rules = order_accepted (pack_rules (words_of t n)) n (accepted (last.0 ++ node_bytes (words_of t n))) last.2 in
    ⊎_elim (λ (q : i ≡ n). rw q rules.0) (λ (q : i < n). turns_hold t start n last.1 i q) (eq-or-lt_of_le (le_of_suc-le-suc l))

pub turns_taken : (t : List ℤ) (start : List ℕ) (n : ℕ) → ((i : ℕ) → i < n → AllHold (pack_rules (words_of t i))) → (b : List ℕ) × (in_turn (pack_node t) start n ≡ accepted b)
unfolding in_turn pack_node
turns_taken t start zero h = (start, refl)
turns_taken t start (suc n) h =
    let before = turns_taken t start n (λ i l. h i (omega arith)) in (
      before.0 ++ node_bytes (words_of t n),
      turn_more (pack_node t) start n before.1 ∙ order_holds (pack_rules (words_of t n)) n (accepted (before.0 ++ node_bytes (words_of t n))) (h n (omega arith)),
    )

takes_only : (t : List ℤ) (room : ℕ) (b : List ℕ) → pack t room ≡ accepted b → Packable t × (length b ≤ room)
unfolding pack
takes_only t room b e =
    let outer = need_accepted (length_right t) 1 0 _ e in
    let inner = then_accepted (in_turn (pack_node t) (opening_bytes t) (node_count t)) _ outer.1 in
    let q = need_accepted (leb (length inner.0) room) 14 0 _ inner.2 in
    let is : inner.0 ≡ b = accepted_same q.1 in
    (record { length_right = outer.0; nodes = turns_hold t (opening_bytes t) (node_count t) inner.1 }, rw (← is) (leb-true (length inner.0) room q.0))

pub with_room : (t : List ℤ) (b : List ℕ) → length_right t ≡ true → in_turn (pack_node t) (opening_bytes t) (node_count t) ≡ accepted b → (room : ℕ) → length b ≤ room
    → pack t room ≡ accepted b
unfolding pack
with_room t b l e room h = rw (l, e, le-leb (length b) room h) refl

takes_all : (t : List ℤ) → Packable t → (b : List ℕ) × ((room : ℕ) → length b ≤ room → pack t room ≡ accepted b) × ((room : ℕ) → room < length b → pack t room ≡ refuse 14 0)
unfolding pack
takes_all t p =
    let turns = turns_taken t (opening_bytes t) (node_count t) p.nodes in (
      turns.0,
      with_room t turns.0 p.length_right turns.1,
      λ room h. rw (p.length_right, turns.1, lt-leb (length turns.0) room h) refl,
    )

pub takes : Takes
takes = record { only = takes_only; all = takes_all }
