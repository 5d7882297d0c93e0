-- Unpacking as the code does it: one law for each way through a function.
use Prim.Native.Nat.{ℕ, ◌+◌, ◌*◌, ◌/◌, ◌%◌, ◌^◌, ◌≤◌, ◌<◌}
use mathlib.Core.Path.{◌≡◌, refl, sym, ap, ◌∙◌}
use mathlib.Core.Bool.{Bool, true, false, ◌&&◌, cond}
use mathlib.Core.List.{List, [], ◌∷◌, ◌++◌}
use native.Mathlib.Omega.{arith}
use borrow.Author.Tests.{le-leb, lt-leb, eq-eqb, ne_eqb}
use lib.Dec.{leb, eqb}
use lib.ListN.{length, get_or, set, take, drop}
use lib.Seq.{sets, sets-eq, set-set, take_at}
use lib.IntN.{ℤ, pos}
use Rattle.plan.specs.Answers.{Refusal, Outcome, accepted, refused, refuse, need, and_then, in_turn, answer_of, written}
use Rattle.plan.specs.Operations.{uses, masks, in_file}
use Rattle.plan.specs.Words.{node_count}
use Rattle.plan.proofs.Masks.{mask_bit}
use Rattle.std.specs.Prelude.{Result, Ok, Err}
use Rattle.plan.specs.declared.faults.Refusal.{Refusal as Refused}
use Rattle.plan.specs.Coded.{refusal_of, outcome_of}
use Rattle.codec.specs.declared.Number.{Number}
use Rattle.codec.specs.Numbers.{Read, number_at, word_of}
use Rattle.codec.specs.Plans.{Unpacked, read_word, header_of, edition_at, none_new, edition_of, read_node, add_node, unpack, unpack_answer, table_after}
use Rattle.codec.specs.Steps.{read_of, count_in, Stands, Wrote, one_word, node_words, nodes_at, head_at, count_at, Opened, opening_at, all_nodes}
use Rattle.codec.proofs.Storing.{sets_over, appended, SoFar, begun, next_is, stopped, all_read}
use Rattle.codec.proofs.Bounds.{words_long, nodes_long}
use Rattle.codec.proofs.Editions.{none_same, get_or_front}

-- ---- what a step of each loop adds

pub word_adds : (op : ℕ) (s : List ℕ) (k : ℕ) {used : Bool} → used ≡ uses op (k + 1) → (u : Unpacked) → read_word op s k u ≡ appended u (one_word used s u.next)
unfolding read_word one_word
word_adds op s k {used} e u = rw (← e) (by used (number_at s u.next))
  where
    by : (b : Bool) (o : Outcome Read)
        → cond b (and_then o (λ read. accepted (record { words = u.words ++ word_of read.value ∷ []; next = read.next })))
        (accepted (record { words = u.words ++ pos 0 ∷ []; next = u.next }))
        ≡ appended u
        (cond b (and_then o (λ read. accepted (record { words = word_of read.value ∷ []; next = read.next }))) (accepted (record { words = pos 0 ∷ []; next = u.next })))
    by true (accepted r) = refl
    by true (refused r) = refl
    by false o = refl

pub used_is : {used : Bool} {mask op k : ℕ} → mask ≡ get_or masks op 0 → op < 24 → k < 16 → used ≡ eqb (mask / 2 ^ (k + 1) % 2) 1 → used ≡ uses op (k + 1)
used_is {op = op} {k = k} e h l q = q ∙ rw e (mask_bit op (k + 1) (omega arith) (omega arith))

pub node_adds : (edition : ℕ) (s : List ℕ) (n : ℕ) (u : Unpacked) → add_node edition s n u ≡ appended u (read_node edition s u.next)
unfolding add_node
node_adds edition s n u = refl

-- ---- a word, a node

module _ (s : List ℕ) (at : ℕ) {r : Refusal} (e : refused r ≡ number_at s at) where
  pub word_refused : {used : Bool} → used ≡ true → one_word used s at ≡ refused r
  unfolding one_word
  word_refused b = rw (b, ← e) refl

  pub node_refused : (edition : ℕ) → read_node edition s at ≡ refused r
  unfolding read_node
  node_refused edition = rw (← e) refl

module _ (s : List ℕ) (at to : ℕ) (before : List ℤ) where
  pub word_unused : {used : Bool} → used ≡ false → Wrote (one_word used s at) (Ok at) before to (set before to (pos 0))
  unfolding one_word Stands
  word_unused e = rw e (record { answer = refl; table = refl })

  module _ {n : Number} (e : accepted (read_of n) ≡ number_at s at) where
    pub word_read : {used : Bool} {v : ℤ} → used ≡ true → v ≡ word_of n.value → Wrote (one_word used s at) (Ok n.next) before to (set before to v)
    unfolding one_word Stands
    word_read b h = rw (b, ← e, h) (record { answer = refl; table = refl })

    module _ (edition : ℕ) where
      pub node_unknown : {r : Refused} → in_file edition n.value ≡ false → refusal_of r ≡ record { number = 24; place = at } → Wrote (read_node edition s at) (Err r) before to before
      unfolding read_node
      node_unknown h q = stopped (rw (← e, h) (ap refused (sym q)))

      pub node_read : {op : ℕ} {r : Result ℕ Refused} {after : List ℤ} → op ≡ n.value → in_file edition op ≡ true → Wrote (node_words op s n.next) r before to after → Wrote (read_node edition s at) r before to after
      unfolding read_node node_words
      node_read q h w = rw (← e, ← q, h) w

-- a node's words: the operation, and then a loop over the others
module _ (op : ℕ) (s : List ℕ) (start : ℕ) (before : List ℤ) (to : ℕ) {v : ℤ} (is : v ≡ pos op) where
  pub words_begin : SoFar (in_turn (read_word op s) (record { words = pos op ∷ []; next = start }) 0) start (set before to v) to (set before to v)
  words_begin = begun (read_word op s) (record { words = pos op ∷ []; next = start }) (rw (is, set-set))

  pub words_end : {k at : ℕ} {after : List ℤ} → k ≤ 16 → 16 ≤ k
      → SoFar (in_turn (read_word op s) (record { words = pos op ∷ []; next = start }) k) at (set before to v) to after → Wrote (node_words op s start) (Ok at) before to after
  unfolding node_words
  words_end {k} p q h =
      let e : k ≡ 16 = omega arith in
      let more : 0 < length h.found.words = omega (arith, words_long op s start k h.read) in
      all_read (record { found = h.found; read = rw e at h.read; next = h.next; stands = h.stands ∙ sets_over before to v h.found.words more })

-- ---- the bytes after the nodes

-- a plan's own edition, found in a table that begins with its words
own_edition : (count own : ℕ) (u before after : List ℤ) → after ≡ sets before 0 u → length u ≡ 17 * count → 17 * count ≤ length before → own ≡ cond (none_new after count) 1 2 → edition_of u ≡ own
unfolding edition_of node_count
own_edition count own u before after stands long fits is =
    let nodes : length u / 17 ≡ count = omega arith in
    let same : none_new after count ≡ none_new u count = rw stands (none_same (sets before 0 u) u count (λ i h. get_or_front u before (17 * i) (omega arith) (omega arith))) in
    rw nodes (sym (is ∙ rw same refl))

module _ (edition : ℕ) (s : List ℕ) (at count : ℕ) where
  pub nodes_refused : {r : Refusal} → nodes_at edition count s at ≡ refused r → all_nodes edition count s at ≡ refused r
  unfolding all_nodes
  nodes_refused e = rw e refl

module _ (edition : ℕ) (s : List ℕ) (at count : ℕ) {before after : List ℤ} where
  module _ {end : ℕ} (w : Wrote (nodes_at edition count s at) (Ok end) before 0 after) where
    read : SoFar (nodes_at edition count s at) end before 0 after
    read = next_is (nodes_at edition count s at) w

    pub left_over : {r : Refused} → end < length s → refusal_of r ≡ record { number = 22; place = end } → Wrote (all_nodes edition count s at) (Err r) before 0 after
    unfolding all_nodes
    left_over h q = stopped (rw (read.read, read.next, lt-leb (length s) end h) (ap refused (sym q)))

    module _ {own : ℕ} (h : length s ≤ end) (is : own ≡ cond (none_new after count) 1 2) (fits : 17 * count ≤ length before) where
      own_is : edition_of read.found.words ≡ own
      own_is = own_edition count own read.found.words before after read.stands (nodes_long edition s at count read.read) fits is

      pub other_edition : {r : Refused} → (own ≡ edition → ⊥) → refusal_of r ≡ record { number = 26; place = 0 } → Wrote (all_nodes edition count s at) (Err r) before 0 after
      unfolding all_nodes
      other_edition n q = stopped (rw (read.read, read.next, le-leb (length s) end h, own_is, ne_eqb edition own (λ q. n (sym q))) (ap refused (sym q)))

      pub none_left : own ≡ edition → Wrote (all_nodes edition count s at) (Ok end) before 0 after
      unfolding all_nodes
      none_left q = all_read (record { found = read.found; read = rw (read.read, read.next, le-leb (length s) end h, own_is, eq-eqb edition own (sym q)) refl; next = read.next; stands = read.stands })

-- ---- the whole

-- unpacking is the opening, the room, and all nodes
pub parts : (s : List ℕ) (room : ℕ) → unpack s room ≡ and_then (opening_at s) (λ o. need (leb (17 * o.count) room) 14 0 (all_nodes o.edition o.count s o.next))
unfolding unpack head_at count_at opening_at all_nodes nodes_at
parts s room = first (edition_at s)
  where
    room_then : Opened → Outcome Unpacked
    room_then = λ o. need (leb (17 * o.count) room) 14 0 (all_nodes o.edition o.count s o.next)

    opened : ℕ → Read → Opened
    opened edition count = record { edition = edition; count = count.value; next = count.next }

    tested : (b : Bool) (edition : ℕ) (count : Read)
        → need b 23 0 (room_then (opened edition count)) ≡ and_then (and_then (need b 23 0 (accepted count)) (λ (c : Read). accepted (opened edition c))) room_then
    tested true edition count = refl
    tested false edition count = refl

    by : (edition : ℕ) (o : Outcome Read)
        → and_then o (λ (count : Read). need (leb 1 count.value && leb count.value 256) 23 0 (room_then (opened edition count)))
        ≡ and_then (and_then (and_then o (λ (count : Read). need (leb 1 count.value && leb count.value 256) 23 0 (accepted count))) (λ (c : Read). accepted (opened edition c))) room_then
    by edition (accepted count) = tested (leb 1 count.value && leb count.value 256) edition count
    by edition (refused r) = refl

    first : (o : Outcome ℕ)
        → and_then o (λ (edition : ℕ). and_then (number_at s (length (header_of edition))) (λ (count : Read). need (leb 1 count.value && leb count.value 256) 23 0 (room_then (opened edition count))))
        ≡ and_then (and_then (and_then o (λ (edition : ℕ). accepted (record { value = edition; next = length (header_of edition) }))) (λ (head : Read). and_then (and_then (number_at s head.next) (λ (count : Read). need (leb 1 count.value && leb count.value 256) 23 0 (accepted count))) (λ (count : Read). accepted (opened head.value count)))) room_then
    first (accepted edition) = by edition (number_at s (length (header_of edition)))
    first (refused r) = refl

module _ (s : List ℕ) (room : ℕ) where
  pub no_count : {r : Refusal} → refused r ≡ opening_at s → unpack s room ≡ refused r
  no_count e = parts s room ∙ rw (← e) refl

  module _ {o : Opened} (e : accepted o ≡ opening_at s) where
    pub no_room : room < 17 * o.count → unpack s room ≡ refuse 14 0
    no_room h = parts s room ∙ rw (← e, lt-leb (17 * o.count) room h) refl

    pub after_count : 17 * o.count ≤ room → unpack s room ≡ all_nodes o.edition o.count s o.next
    after_count h = parts s room ∙ rw (← e, le-leb (17 * o.count) room h) refl

-- what is found, by the outcome
module _ {o : Outcome Unpacked} {r : Refusal} (e : o ≡ refused r) where
  pub none_counted : refused r ≡ count_in o
  none_counted = rw e refl

  pub none_stand : (before : List ℤ) (to : ℕ) (after : List ℤ) → Stands o before to after
  unfolding Stands
  none_stand before to after = rw e tt

  pub table_kept : (t : List ℤ) → t ≡ table_after o t
  table_kept t = rw e

module _ (count : ℕ) {o : Outcome Unpacked} {u : Unpacked} (e : o ≡ accepted u) (long : length u.words ≡ 17 * count) where
  pub counted : accepted count ≡ count_in o
  counted = let q : count ≡ length u.words / 17 = omega arith in rw e (ap accepted q)

  pub words_stand : (before : List ℤ) (to : ℕ) {after : List ℤ} → after ≡ sets before to u.words → Stands o before to after
  unfolding Stands
  words_stand before to h = rw e h

  pub table_copied : (local : List ℤ) {full front : List ℤ} (t : List ℤ) → full ≡ sets local 0 u.words → 17 * count ≤ length local
      → front ≡ take (17 * count) full → front ++ drop (17 * count) t ≡ table_after o t
  unfolding written
  table_copied local t h fits q =
      let room : 0 + length u.words ≤ length local = omega arith in
      let words : take (17 * count) (sets local 0 u.words) ≡ u.words = rw (sets-eq u.words local 0 room) (take_at u.words _ (17 * count) long) in
      rw (q, e, h, words, ← long) refl

-- the answer to C
pub answered : (o : Outcome Unpacked) (r : Result ℕ Refused) → outcome_of (λ n. n) r ≡ count_in o → answer_of (λ n. n) (outcome_of (λ n. n) r) ≡ unpack_answer o
answered (accepted u) r e = rw e refl
answered (refused x) r e = rw e refl
