-- The nodes of a table as they are written, one after another.
use Prim.Native.Nat.{ℕ, suc, ◌+◌, ◌*◌, ◌/◌, ◌%◌, ◌<◌, ◌≤◌}
use mathlib.Core.Path.{◌≡◌, refl, sym, ap, ◌∙◌}
use mathlib.Core.Bool.{true, false, cond}
use mathlib.Core.List.{List, ◌++◌}
use native.Mathlib.Numerals.{add-one}
use native.Mathlib.Omega.{arith}
use borrow.Author.Tests.{le-leb, lt-leb, leb-true, ne_eqb}
use lib.Dec.{leb, eqb}
use lib.IntN.{ℤ}
use lib.ListN.{length, take, drop, length-append}
use lib.Seq.{sets-eq, take_at, length-take-le}
use Rattle.laws.proofs.Booleans.{and_true}
use Rattle.plan.specs.Words.{words_of, node_count, length_right}
use Rattle.plan.specs.Answers.{Refusal, Outcome, accepted, refused, refuse, in_turn, answer_of, written, AllHold, FirstFailing}
use Rattle.plan.proofs.Outcomes.{never_both, refused_same, turn_more, turn_stays, order_holds, order_fails}
use Rattle.std.specs.Prelude.{Result, Ok, Err, IsErrAnd}
use Rattle.plan.specs.declared.faults.Refusal.{Refusal as Refused}
use Rattle.plan.specs.Coded.{fault_number, refusal_of, outcome_of}
use Rattle.codec.proofs.Storing.{refusal_is}
use Rattle.codec.specs.Plans.{header_of, none_new, edition_of}
use Rattle.packing.specs.Bytes.{groups_of, bytes_of}
use Rattle.packing.specs.Packing.{pack_rules, node_bytes, pack_node, pack, pack_answer, bytes_after}
use Rattle.laws.specs.Pieces.{Writes}
use Rattle.packing.specs.Writing.{Ended, length_in}
use Rattle.laws.proofs.Pieces.{then, within, said, same_room}
use Rattle.packing.proofs.Putting.{groups_enough}

-- the bytes up to the end of a piece
pub taken : {ws before after : List ℕ} {most at next : ℕ} → Writes ws most before at after next → at + most ≤ length before → take next after ≡ take at before ++ ws
taken {ws} {before} {at = at} w h =
    let room : at + length ws ≤ length before = omega (arith, w.short) in
    let long : length (take at before ++ ws) ≡ at + length ws = length-append (take at before) ws ∙ omega (arith, length-take-le at before (omega arith)) in
    rw (w.stands, w.is_next, sets-eq ws before at room) (take_at (take at before ++ ws) _ (at + length ws) long)

-- the first n nodes are written: the bytes up to `at`
pub record Sofar (t : List ℤ) (before : List ℕ) (start : ℕ) (now : List ℕ) (at n : ℕ) : Type 0 where
  pub turns : in_turn (pack_node t) (take start before) n ≡ accepted (take at now)
  pub inside : at ≤ start + 46 * n
  pub long : length now ≡ length before

module _ (t : List ℤ) (before : List ℕ) (start : ℕ) where
  pub sofar_first : Sofar t before start before start 0
  unfolding in_turn
  sofar_first = record { turns = refl; inside = omega arith; long = refl }

  module _ {now : List ℕ} {at n : ℕ} (s : Sofar t before start now at n) {w : List ℤ} (is : w ≡ words_of t n) where
    pub sofar_next : {after : List ℕ} {next : ℕ} → AllHold (pack_rules w) → at + 46 ≤ length now → Writes (node_bytes w) 46 now at after next → Sofar t before start after next (n + 1)
    unfolding pack_node
    sofar_next {after} {next} holds h v =
        record {
          turns = rw add-one (turn_more (pack_node t) (take start before) n s.turns
              ∙ order_holds (pack_rules (words_of t n)) n (accepted (take at now ++ node_bytes (words_of t n))) (rw is at holds)
              ∙ ap accepted (sym (taken v h ∙ rw is refl)));
          inside = omega (arith, s.inside, v.is_next, v.short);
          long = same_room v ∙ s.long;
        }

    pub sofar_stop : (count : ℕ) (x : Refused) (r : Result ℕ Refused) (after : List ℕ) → n < count → (x.place ≡ n) × FirstFailing (pack_rules w) (fault_number x.fault) → IsErrAnd r (λ y. y ≡ x)
        → Ended (in_turn (pack_node t) (take start before) count) after r
    unfolding pack_node Ended
    sofar_stop count x r after l f i =
        let here : in_turn (pack_node t) (take start before) (suc n) ≡ refused (refusal_of x) =
        turn_more (pack_node t) (take start before) n s.turns ∙ order_fails (pack_rules (words_of t n)) n (accepted (take at now ++ node_bytes (words_of t n))) (rw is at f.1) ∙ rw f.0 refl in
        rw (turn_stays (pack_node t) (take start before) (suc n) count l here) (refusal_is (λ n. n) x r i)

  pub sofar_done : {now : List ℕ} {at count : ℕ} → Sofar t before start now at count → at ≤ length now → Ended (in_turn (pack_node t) (take start before) count) now (Ok at)
  unfolding Ended
  sofar_done {now} {at} s room =
      let long : length (take at now) ≡ at = length-take-le at now room in
      rw (s.turns, long) (refl, refl, room)

-- ---- the whole

-- the edition and the count, and then the nodes
module _ (t : List ℤ) (count : ℕ) (is : node_count t ≡ count) (few : count ≤ 256) {own : ℕ} (e : own ≡ cond (none_new t count) 1 2) where
  own_is : edition_of t ≡ own
  unfolding edition_of
  own_is = rw is (sym e)

  number : groups_of 2 count ≡ bytes_of count
  unfolding bytes_of
  number = sym (groups_enough 2 5 count (omega arith) (omega arith) (omega arith))

  pub opens_second : {before one two after : List ℕ} {a b next : ℕ} → own ≡ 2 → Writes (groups_of 1 0) 1 before 0 one a → Writes (groups_of 1 2) 1 one a two b → Writes (groups_of 2 count) 2 two b after next
      → Writes (header_of (edition_of t) ++ bytes_of count) 4 before 0 after next
  unfolding groups_of
  opens_second q u v w = rw (own_is, q) (then (then u v) (said number w))

  pub opens_first : {before after : List ℕ} {next : ℕ} → (own ≡ 2 → ⊥) → Writes (groups_of 2 count) 2 before 0 after next → Writes (header_of (edition_of t) ++ bytes_of count) 4 before 0 after next
  opens_first n w = rw (own_is, ne_eqb own 2 n) (within 4 (said number w) (omega arith))

pub first_is : {ws local after : List ℕ} {next : ℕ} → Writes ws 4 local 0 after next → 4 ≤ length local → take next after ≡ ws
first_is w l = taken w l

module _ (t : List ℤ) (buffer : List ℕ) where
  pub wrong_length : length_right t ≡ false → pack t (length buffer) ≡ refuse 1 0
  unfolding pack
  wrong_length e = rw e refl

-- the outcome behind an answer
pub stop_is : (x : Refused) (o : Outcome (List ℕ)) (after : List ℕ) → Ended o after (Err x) → o ≡ refused (refusal_of x)
unfolding Ended
stop_is x (refused r) after e = ap refused (sym (refused_same e))
stop_is x (accepted bs) after e = let z : ◌≡◌ {A = ℕ} 0 1 = cc e.0 in absurd (omega arith)

pub record Written (o : Outcome (List ℕ)) (after : List ℕ) (end : ℕ) : Type 0 where
  pub bytes : List ℕ
  pub is : o ≡ accepted bytes
  pub long : length bytes ≡ end
  pub stand : take end after ≡ bytes
  pub inside : end ≤ length after

pub next_is : (o : Outcome (List ℕ)) (after : List ℕ) {end : ℕ} → Ended o after (Ok end) → Written o after end
unfolding Ended
next_is (refused x) after e = never_both e
next_is (accepted bs) after {end = end} e =
    let l : length bs ≡ end = cc e.0 in
    record { bytes = bs; is = refl; long = l; stand = rw (← l) e.1; inside = rw (← l) e.2 }

-- the count of a table of the right length
pub record Counted (t : List ℤ) (count : ℕ) : Type 0 where
  pub is : node_count t ≡ count
  pub fits : 17 * count ≤ length t
  pub few : count ≤ 256

pub counted : (t : List ℤ) → length_right t ≡ true → Counted t (length t / 17)
unfolding length_right node_count
counted t e =
    let a = and_true (eqb (length t % 17) 0) _ e in
    let b = and_true (leb 1 (length t / 17)) _ a.1 in
    record { is = refl; fits = omega arith; few = leb-true (length t / 17) 256 b.1 }

-- room for the nodes after the count
pub nodes_room : (count : ℕ) {ws local after : List ℕ} {next : ℕ} → Writes ws 4 local 0 after next → length local ≡ 11780 → count ≤ 256 → next + 46 * count ≤ length after
nodes_room count w l h = omega (arith, w.is_next, w.short, same_room w, l, h)

module _ (t : List ℤ) (room : ℕ) (right : length_right t ≡ true) {count : ℕ} (d : Counted t count) {first : List ℕ} (is : first ≡ header_of (edition_of t) ++ bytes_of count) where
  pub nodes_refused : {r : Refusal} → in_turn (pack_node t) first count ≡ refused r → pack t room ≡ refused r
  unfolding pack
  nodes_refused e = rw (right, d.is, ← is, e) refl

  module _ {after : List ℕ} {end : ℕ} (w : Written (in_turn (pack_node t) first count) after end) where
    pub no_room : room < end → pack t room ≡ refuse 14 0
    unfolding pack
    no_room h = rw (right, d.is, ← is, w.is, lt-leb (length w.bytes) room (rw w.long h)) refl

    pub packed : end ≤ room → pack t room ≡ accepted w.bytes
    unfolding pack
    packed h = rw (right, d.is, ← is, w.is, le-leb (length w.bytes) room (rw w.long h)) refl

-- the count and the buffer
module _ {o : Outcome (List ℕ)} {r : Refusal} (e : o ≡ refused r) where
  pub none_written : refused r ≡ length_in o
  none_written = rw e refl

  pub bytes_kept : (b : List ℕ) → b ≡ bytes_after o b
  bytes_kept b = rw e refl

module _ {o : Outcome (List ℕ)} {bs : List ℕ} (e : o ≡ accepted bs) {end : ℕ} (l : length bs ≡ end) where
  pub bytes_written : accepted end ≡ length_in o
  bytes_written = rw (e, l) refl

  pub bytes_packed : (buffer : List ℕ) {front : List ℕ} → front ≡ bs → front ++ drop end buffer ≡ bytes_after o buffer
  unfolding written
  bytes_packed buffer q = rw (e, q, ← l) refl

-- the answer to C
pub answered : (o : Outcome (List ℕ)) (r : Result ℕ Refused) → outcome_of (λ n. n) r ≡ length_in o → answer_of (λ n. n) (outcome_of (λ n. n) r) ≡ pack_answer o
answered (accepted bs) r e = rw e refl
answered (refused x) r e = rw e refl
