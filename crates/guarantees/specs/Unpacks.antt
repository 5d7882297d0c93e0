-- "Packed plans": where each number of a packed plan begins and what it is; and by that, which bytes unpacking accepts, with which words, and each of its
-- refusals with its place, both ways. Places are counted in bytes from 0.
use Rattle.std.specs.Prelude.{ℕ, zero, suc, ◌+◌, ◌*◌, ◌%◌, ◌^◌, ◌<◌, ◌≤◌, ◌≡◌, true, false, ◌⊎◌, List, ℤ, pos, neg_ℤ, ◌-ℤ◌, ◌*ℤ◌, ◌≤ℤ◌, ◌<ℤ◌, length, get_or, drop}
use Rattle.plan.specs.declared.Answer.{Answer}
use Rattle.plan.specs.Answers.{Refusal, accepted, refused}
use Rattle.codec.specs.Numbers.{Read, number_at}
use Rattle.codec.specs.Plans.{Unpacked, unpack, unpack_answer, table_after}
use Rattle.verifier.specs.Check.{verdict, Checked, unpack_check, code_of}
use Rattle.guarantees.specs.Demand3.{word}
use Rattle.guarantees.specs.Rules.{Exactly, From, uses_word}

-- ---- "Numbers are written in groups of seven bits, lowest first, the high bit of a byte set when more follow, shortest form, at most 5 bytes."

-- "groups of seven bits, lowest first": what the m bytes from place `at` on come to
unfoldable pub grouped : List ℕ → ℕ → ℕ → ℕ
grouped s at zero = 0
grouped s at (suc m) = grouped s at m + 128 ^ m * (get_or s (at + m) 0 % 128)

-- "the high bit of a byte set when more follow": of each of the m bytes from `at` on. A byte is below 256, and one that is not there reads as 0.
abbrev pub MoreFollow : List ℕ → ℕ → ℕ → Type 0
MoreFollow s at m = (i : ℕ) → i < m → 128 ≤ get_or s (at + i) 0

-- the number v begins at place `at`, and `next` is the place after it
pub record Number (s : List ℕ) (at v next : ℕ) : Type 0 where
  -- so many bytes with more to follow, and a last one: "at most 5 bytes"
  pub more : ℕ
  pub few : more ≤ 4
  pub follow : MoreFollow s at more
  pub there : at + more < length s
  pub last : get_or s (at + more) 0 < 128
  -- "shortest form"
  pub shortest : 1 ≤ more → get_or s (at + more) 0 ≡ 0 → ⊥
  pub value : v ≡ grouped s at (suc more)
  pub after : next ≡ at + more + 1

-- what is refused where a number is due at place `at`
pub data NumberRefuses (s : List ℕ) (at : ℕ) : Refusal → Type 0 where
  -- "20: bytes end before or inside a number; its first byte"
  bytes_end : {m : ℕ} → m ≤ 4 → MoreFollow s at m → length s ≤ at + m → NumberRefuses s at (record { number = 20; place = at })
  -- "21: fifth byte has its high bit, or a later last byte is 0; its first byte"
  too_long : MoreFollow s at 5 → NumberRefuses s at (record { number = 21; place = at })
  padded : {m : ℕ} → 1 ≤ m → m ≤ 4 → MoreFollow s at m → at + m < length s → get_or s (at + m) 0 ≡ 0 → NumberRefuses s at (record { number = 21; place = at })

-- "other words n are written as 2n, or −2n−1 below zero"
abbrev pub WrittenAs : ℤ → ℕ → Type 0
WrittenAs n v = (pos 0 ≤ℤ n → pos v ≡ (pos 2 *ℤ n)) × (n <ℤ pos 0 → pos v ≡ (neg_ℤ (pos 2 *ℤ n) -ℤ pos 1))

-- ---- editions

-- 02 §3: "A second edition file starts with bytes 00 02, then count and nodes as before": the edition of a file, and the place of its count
pub data Opens (s : List ℕ) : ℕ → ℕ → Type 0 where
  first_edition : (0 < length s → get_or s 0 0 ≡ 0 → ⊥) → Opens s 1 0
  second_edition : 1 < length s → get_or s 0 0 ≡ 0 → get_or s 1 0 ≡ 2 → Opens s 2 2

-- "24: operation not 0..20"; 02 §3: "First edition readers keep refusing .. 24"; "for second edition files, rule 24 the limit is 23"
abbrev pub OperationIn : ℕ → ℕ → Type 0
OperationIn edition o = (edition ≡ 1 → o ≤ 20) × (edition ≡ 2 → o ≤ 23)

-- node n of table t has a new operation: FILL, KNOWN or STACK
abbrev pub New : List ℤ → ℕ → Type 0
New t n = From (pos 21) (pos 23) (word t n 0)

-- ---- a packed plan: "the node count, then for each node its operation and its used words in rising order"

module _ (s : List ℕ) (edition : ℕ) where
  -- words 0 to k of node n of table t, whose operation is o, take the bytes from place p up to place q
  pub data Words (t : List ℤ) (n p o : ℕ) : ℕ → ℕ → Type 0 where
    -- "Count and operation are plain"
    operation : {q : ℕ} → Number s p o q → OperationIn edition o → word t n 0 ≡ pos o → Words t n p o 0 q
    -- "its used words in rising order": the next word is used, or it is not
    used : {k q v next : ℕ} → Words t n p o k q → k < 16 → uses_word o (suc k) ≡ true → Number s q v next → WrittenAs (word t n (suc k)) v → Words t n p o (suc k) next
    -- "Unpacking makes the 17-word table with zeros elsewhere."
    unused : {k q : ℕ} → Words t n p o k q → k < 16 → uses_word o (suc k) ≡ false → word t n (suc k) ≡ pos 0 → Words t n p o (suc k) q

  module _ (room : ℕ) where
    -- the node count is read, neither 23 nor 14 is due, and place p comes after it
    pub record Counted (count p : ℕ) : Type 0 where
      pub place : ℕ
      pub opens : Opens s edition place
      pub number : Number s place count p
      pub some : 1 ≤ count
      pub few : count ≤ 256
      pub fits : 17 * count ≤ room

    -- node n of table t begins at place p, after the count and the nodes before it; where n is the count, all nodes are read
    pub data Begins (count : ℕ) (t : List ℤ) : ℕ → ℕ → Type 0 where
      first : {p : ℕ} → Counted count p → Begins count t 0 p
      next_node : {n p q o : ℕ} → Begins count t n p → n < count → Words t n p o 16 q → Begins count t (suc n) q

module _ (s : List ℕ) (room : ℕ) where
  -- a number is due at place p: the count, an operation, a used word
  pub data Due : ℕ → Type 0 where
    at_count : {edition p : ℕ} → Opens s edition p → Due p
    at_operation : {edition count n p : ℕ} {t : List ℤ} → Begins s edition room count t n p → n < count → Due p
    at_word : {edition count n k p q o : ℕ} {t : List ℤ} → Begins s edition room count t n p → n < count → Words s edition t n p o k q → k < 16 → uses_word o (suc k) ≡ true → Due q

  -- "Unpacking: count (20, 21, 23), 14 for the table's room, numbers in byte order, 22 last."; 02 §3: "26 .., after 22"
  pub data UnpackRefuses : Refusal → Type 0 where
    -- 02 §3: "a leading 00 not followed by 02 is 23"
    bad_opening : 0 < length s → get_or s 0 0 ≡ 0 → (1 < length s → get_or s 1 0 ≡ 2 → ⊥) → UnpackRefuses (record { number = 23; place = 0 })
    -- 20 and 21
    bad_number : {p : ℕ} {r : Refusal} → Due p → NumberRefuses s p r → UnpackRefuses r
    -- "23: count not 1..256; 0"
    bad_count : {edition at count p : ℕ} → Opens s edition at → Number s at count p → (1 ≤ count → count ≤ 256 → ⊥) → UnpackRefuses (record { number = 23; place = 0 })
    -- "14: a buffer written to is too short; 0"
    no_room : {edition at count p : ℕ} → Opens s edition at → Number s at count p → 1 ≤ count → count ≤ 256 → room < 17 * count → UnpackRefuses (record { number = 14; place = 0 })
    -- "24: operation not 0..20; its byte", or not 0..23
    bad_operation : {edition count n o p q : ℕ} {t : List ℤ} → Begins s edition room count t n p → n < count → Number s p o q → (OperationIn edition o → ⊥) → UnpackRefuses (record { number = 24; place = p })
    -- "22: bytes left over; first of them"
    left_over : {edition count p : ℕ} {t : List ℤ} → Begins s edition room count t count p → p < length s → UnpackRefuses (record { number = 22; place = p })
    -- 02 §3: "26 for a second edition file with no new operation, after 22"
    none_new : {count : ℕ} {t : List ℤ} → Begins s 2 room count t count (length s) → ((n : ℕ) → n < count → New t n → ⊥) → UnpackRefuses (record { number = 26; place = 0 })

  -- all nodes are read, with the last byte, and these are their words
  pub record Unpacks (u : Unpacked) : Type 0 where
    pub edition : ℕ
    pub count : ℕ
    pub long : length u.words ≡ 17 * count
    pub all : Begins s edition room count u.words count (length s)
    pub end : u.next ≡ length s
    -- 02 §3: "it must hold at least one new operation"
    pub some_new : edition ≡ 2 → (n : ℕ) × (n < count) × New u.words n

-- ---- what unpacking answers and leaves in the table

-- where it accepts: its answer, and the table before and after
pub record Filled (s : List ℕ) (before after : List ℤ) (a : Answer) : Type 0 where
  -- "0 is accepted, place 0 ..; unpacking also answers the node count"
  pub number : a.number ≡ 0
  pub place : a.place ≡ 0
  pub edition : ℕ
  pub all : Begins s edition (length before) a.count after a.count (length s)
  -- every word of every node: the operation, the number that was read, or 0
  pub each : (n k : ℕ) → n < a.count → k ≤ 16 → (p o q : ℕ) × Begins s edition (length before) a.count after n p × Words s edition after n p o k q
  -- "Buffer places past what any call writes stay as they were."
  pub past : drop (17 * a.count) after ≡ drop (17 * a.count) before
  pub long : length after ≡ length before

pub record UnpacksExactly : Type 0 where
  pub number_accepted : (s : List ℕ) (at : ℕ) (r : Read) → Exactly (number_at s at ≡ accepted r) (Number s at r.value r.next)
  pub number_refused : (s : List ℕ) (at : ℕ) (r : Refusal) → Exactly (number_at s at ≡ refused r) (NumberRefuses s at r)
  -- every outcome has its condition, so no other function than unpacking meets these two
  pub accepted_when : (s : List ℕ) (room : ℕ) (u : Unpacked) → Exactly (unpack s room ≡ accepted u) (Unpacks s room u)
  pub refused_when : (s : List ℕ) (room : ℕ) (r : Refusal) → Exactly (unpack s room ≡ refused r) (UnpackRefuses s room r)
  -- that a refusal writes nothing stands in Refusals.antt
  pub fills : (s : List ℕ) (table : List ℤ) (u : Unpacked) → unpack s (length table) ≡ accepted u
      → Filled s table (table_after (unpack s (length table)) table) (unpack_answer (unpack s (length table)))
  -- "hands the packed bytes over, for unpack and check in one call", with room for 256 nodes
  pub call_accepted : (s : List ℕ) (c : Checked)
      → Exactly (unpack_check s ≡ accepted c) (Unpacks s 4352 (record { words = c.table; next = length s }) × (verdict c.table ≡ accepted c.records))
  pub call_refused : (s : List ℕ) (r : Refusal)
      → Exactly (unpack_check s ≡ refused r) (UnpackRefuses s 4352 r ⊎ ((u : Unpacked) × Unpacks s 4352 u × (verdict u.words ≡ refused r)))
  -- "the answer is the node count": the number that the bytes begin with, after those that name the edition
  pub call_answer : (s : List ℕ) (c : Checked) → unpack_check s ≡ accepted c → (edition at p : ℕ) × Opens s edition at × Number s at (code_of (unpack_check s)) p
  -- 26 is of second edition files alone: a first edition file with a new operation is refused by 24
  pub first_never_26 : (s : List ℕ) (room : ℕ) (r : Refusal) → unpack s room ≡ refused r → r.number ≡ 26 → Opens s 2 2
