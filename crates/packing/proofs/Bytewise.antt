-- What is written are bytes: each is below 256.
use Prim.Native.Nat.{ℕ, zero, suc, ◌+◌, ◌/◌, ◌%◌, ◌<◌, ◌≤◌}
use mathlib.Core.Path.{◌≡◌, subst}
use mathlib.Core.Bool.{cond}
use mathlib.Core.List.{List, [], ◌∷◌, ◌++◌}
use native.Mathlib.Omega.{arith}
use borrow.Author.Tests.{ltb-true, ltb-false}
use lib.Dec.{eqb, ltb, leb}
use lib.IntN.{ℤ}
use lib.ListN.{length}
use Rattle.laws.proofs.Booleans.{bool_cases}
use Rattle.plan.specs.Operations.{uses}
use Rattle.plan.specs.Words.{word_at, size_at, words_of, node_count, length_right}
use Rattle.plan.specs.Answers.{accepted, in_turn}
use Rattle.plan.proofs.Outcomes.{accepted_same, need_accepted, then_accepted, turn_last, order_accepted}
use Rattle.codec.specs.Plans.{header_of, edition_of}
use Rattle.packing.specs.Bytes.{groups_of, bytes_of, packed_word}
use Rattle.packing.specs.Packing.{words_to, node_bytes, pack_rules, opening_bytes, pack_node, pack}
use Rattle.packing.proofs.NumbersBack.{AreBytes, one_group, next_group}

none_bytes : AreBytes []
none_bytes i l = absurd (omega arith)

one_byte : (b : ℕ) (bs : List ℕ) → b < 256 → AreBytes bs → AreBytes (b ∷ bs)
one_byte b bs h k zero l = h
one_byte b bs h k (suc i) l = k i (omega arith)

append_bytes : (xs ys : List ℕ) → AreBytes xs → AreBytes ys → AreBytes (xs ++ ys)
append_bytes [] ys h k = k
append_bytes (x ∷ xs) ys h k = one_byte x (xs ++ ys) (h 0 (omega arith)) (append_bytes xs ys (λ i l. h (suc i) (omega arith)) k)

groups_bytes : (k m : ℕ) → AreBytes (groups_of k m)
unfolding groups_of
groups_bytes zero m = none_bytes
groups_bytes (suc k) m =
    bool_cases (ltb m 128)
    (λ e. let small : m < 128 = ltb-true m 128 e in rw (one_group k m small) (one_byte m [] (omega arith) none_bytes))
    (λ e. let large : 128 ≤ m = ltb-false m 128 e in rw (next_group k m large) (one_byte (m % 128 + 128) (groups_of k (m / 128)) (omega arith) (groups_bytes k (m / 128))))

words_bytes : (op : ℕ) (w : List ℤ) (k : ℕ) → AreBytes (words_to op w k)
unfolding words_to bytes_of
words_bytes op w zero = none_bytes
words_bytes op w (suc k) =
    append_bytes (words_to op w k) (cond (uses op (k + 1)) (bytes_of (packed_word (word_at w (k + 1)))) []) (words_bytes op w k)
    (bool_cases (uses op (k + 1)) (λ e. rw e (groups_bytes 5 (packed_word (word_at w (k + 1))))) (λ e. rw e none_bytes))

node_bytes_lem : (w : List ℤ) → AreBytes (node_bytes w)
unfolding node_bytes bytes_of
node_bytes_lem w = append_bytes (groups_of 5 (size_at w 0)) (words_to (size_at w 0) w 16) (groups_bytes 5 (size_at w 0)) (words_bytes (size_at w 0) w 16)

turns_bytes : (t : List ℤ) (start : List ℕ) (n : ℕ) {b : List ℕ} → AreBytes start → in_turn (pack_node t) start n ≡ accepted b → AreBytes b
unfolding in_turn pack_node
turns_bytes t start zero h e = subst AreBytes (accepted_same e) h
turns_bytes t start (suc n) h e =
    let last = turn_last (pack_node t) start n e in
    let w : List ℤ = words_of t n in
    let is = accepted_same (order_accepted (pack_rules w) n (accepted (last.0 ++ node_bytes w)) last.2).1 in
    subst AreBytes is (append_bytes last.0 (node_bytes w) (turns_bytes t start n h last.1) (node_bytes_lem w))

header_bytes : (edition : ℕ) → AreBytes (header_of edition)
header_bytes edition = bool_cases (eqb edition 2) (λ e. rw e second) (λ e. rw e none_bytes)
  where
    second : AreBytes (0 ∷ 2 ∷ [])
    second = one_byte 0 (2 ∷ []) (omega arith) (one_byte 2 [] (omega arith) none_bytes)

pub pack_bytes : (t : List ℤ) (room : ℕ) (b : List ℕ) → pack t room ≡ accepted b → AreBytes b
unfolding pack bytes_of
pack_bytes t room b e =
    let outer = need_accepted (length_right t) 1 0 _ e in
    let inner = then_accepted (in_turn (pack_node t) (opening_bytes t) (node_count t)) _ outer.1 in
    let q = need_accepted (leb (length inner.0) room) 14 0 _ inner.2 in
    subst AreBytes (accepted_same q.1) (turns_bytes t (opening_bytes t) (node_count t) (append_bytes (header_of (edition_of t)) (bytes_of (node_count t)) (header_bytes (edition_of t)) (groups_bytes 5 (node_count t))) inner.1)
