-- 02 §1: "We want the writer: a table in, packed bytes out." Which tables it takes, with which bytes, and each of its refusals with its place, both ways; and that
-- reading and writing undo each other. What the bytes of a table are is said by the reader's relation (Unpacks.antt).
use Rattle.std.specs.Prelude.{ℕ, ◌+◌, ◌*◌, ◌<◌, ◌≤◌, ◌≡◌, true, List, [], ◌∷◌, ◌++◌, ℤ, pos, negsuc, length, get_or, take, drop}
use Rattle.plan.specs.declared.Answer.{Answer}
use Rattle.plan.specs.Answers.{Refusal, accepted, refused}
use Rattle.codec.specs.Plans.{unpack, unpack_answer, table_after}
use Rattle.packing.specs.Bytes.{bytes_of}
use Rattle.packing.specs.Packing.{pack, pack_answer, bytes_after}
use Rattle.guarantees.specs.Questions.{i16, constant, zeros}
use Rattle.guarantees.specs.Demand3.{word}
use Rattle.guarantees.specs.Acceptance.{Nodes}
use Rattle.guarantees.specs.Rules.{Exactly, From, uses_word, Rule2, Rule3}
use Rattle.guarantees.specs.Unpacks.{Number, Opens, New, Begins}

-- ---- the tables that are taken

-- "whose used words lie in −17179869184..17179869183"; negsuc n is −(n + 1)
abbrev pub Rule25 : List ℤ → ℕ → ℕ → Type 0
Rule25 t n o = (k : ℕ) → 1 ≤ k → k ≤ 16 → uses_word o k ≡ true → From (negsuc 17179869183) (pos 17179869183) (word t n k)

-- node n meets 2, 3 and 25
pub record Packable (t : List ℤ) (n : ℕ) : Type 0 where
  pub operation : ℕ
  pub is_operation : word t n 0 ≡ pos operation
  pub rule_2 : Rule2 t n
  pub rule_3 : Rule3 t n operation
  pub rule_25 : Rule25 t n operation

abbrev pub Before : List ℤ → ℕ → Type 0
Before t n = (i : ℕ) → i < n → Packable t i

-- "exactly the tables that meet rules 1, 2 and 3 and whose used words lie in .."
pub record Takes (t : List ℤ) : Type 0 where
  pub count : ℕ
  pub nodes : Nodes t count
  pub each : Before t count

-- ---- their bytes

abbrev pub AreBytes : List ℕ → Type 0
AreBytes s = (i : ℕ) → i < length s → get_or s i 0 < 256

-- b is the file of table t: read from the first byte to the last, its count and its nodes' words are those of t
pub record File (t : List ℤ) (b : List ℕ) : Type 0 where
  pub count : ℕ
  pub nodes : Nodes t count
  pub are_bytes : AreBytes b
  pub edition : ℕ
  pub all : Begins b edition (length t) count t count (length b)
  -- 02 §3: a second edition file "must hold at least one new operation"
  pub some_new : edition ≡ 2 → (n : ℕ) × (n < count) × New t n

-- ---- "Refusals: 1; nodes in turn, 2, 3, then 25 for a word outside that range (place: node); then 14 for room."

module _ (t : List ℤ) (room : ℕ) where
  pub data PackRefuses : Refusal → Type 0 where
    bad_length : ((m : ℕ) → Nodes t m → ⊥) → PackRefuses (record { number = 1; place = 0 })
    bad_operation : {m n : ℕ} → Nodes t m → n < m → Before t n → (Rule2 t n → ⊥) → PackRefuses (record { number = 2; place = n })
    unused_word : {m n o : ℕ} → Nodes t m → n < m → Before t n → word t n 0 ≡ pos o → Rule2 t n → (Rule3 t n o → ⊥) → PackRefuses (record { number = 3; place = n })
    outside : {m n o : ℕ} → Nodes t m → n < m → Before t n → word t n 0 ≡ pos o → Rule2 t n → Rule3 t n o → (Rule25 t n o → ⊥) → PackRefuses (record { number = 25; place = n })
    no_room : {b : List ℕ} → File t b → room < length b → PackRefuses (record { number = 14; place = 0 })

pub record PacksExactly : Type 0 where
  pub takes : (t : List ℤ) → Exactly (Takes t) ((b : List ℕ) × File t b)
  -- 02 §3: "so each plan still has one file", of either edition
  pub one_file : (t : List ℤ) (b c : List ℕ) → File t b → File t c → b ≡ c
  -- every outcome has its condition, so no other function than packing meets these two
  pub accepted_when : (t : List ℤ) (room : ℕ) (b : List ℕ) → Exactly (pack t room ≡ accepted b) (File t b × (length b ≤ room))
  pub refused_when : (t : List ℤ) (room : ℕ) (r : Refusal) → Exactly (pack t room ≡ refused r) (PackRefuses t room r)
  -- there are files: "01 00 04 0A" is that of a CONST of i16 5
  pub example : File (constant i16 (pos 5)) (1 ∷ 0 ∷ 4 ∷ 10 ∷ [])
  -- and 00 02 02 00 04 0A 16 00 that of the same with KNOWN after it
  pub second_example : File (constant i16 (pos 5) ++ pos 22 ∷ zeros 16) (0 ∷ 2 ∷ 2 ∷ 0 ∷ 4 ∷ 10 ∷ 22 ∷ 0 ∷ [])
  -- 02 §3: "The writer picks the edition.": the second for a table with a new operation, the first for any other
  pub picks_second : (t : List ℤ) (b : List ℕ) (m n : ℕ) → File t b → Nodes t m → n < m → New t n → Opens b 2 2
  pub picks_first : (t : List ℤ) (b : List ℕ) (m : ℕ) → File t b → Nodes t m → ((n : ℕ) → n < m → New t n → ⊥) → Opens b 1 0
  -- "256 nodes take at most 11778": with so much room every table that is taken is written
  pub short : (t : List ℤ) (b : List ℕ) → File t b → length b ≤ 11778

-- ---- a number has one packed form: "shortest form, at most 5 bytes"

pub record OneForm : Type 0 where
  -- every number below 128^5 has one, which is read as that number
  pub number_read : (v : ℕ) → v < 34359738368 → Number (bytes_of v) 0 v (length (bytes_of v))
  -- and where a number is read there stands no other
  pub number_stands : (s : List ℕ) → AreBytes s → (at v next : ℕ) → Number s at v next
      → (v < 34359738368) × (next ≡ at + length (bytes_of v)) × ((i : ℕ) → i < length (bytes_of v) → get_or s (at + i) 0 ≡ get_or (bytes_of v) i 0)

-- ---- through the calls: what a caller sees is the answer and the buffers

abbrev pub accepts : ℕ → Answer
accepts count = record { number = 0; place = 0; count = count }

pub record RoundTrips : Type 0 where
  -- "The answer carries the length written": the file stands at the buffer's start, and the rest of the buffer stays
  pub fills : (t : List ℤ) (buffer b : List ℕ) → File t b → length b ≤ length buffer
      → (pack_answer (pack t (length buffer)) ≡ accepts (length b)) × (bytes_after (pack t (length buffer)) buffer ≡ b ++ drop (length b) buffer)
  -- "Reading what it wrote gives the table back"
  pub read_back : (t : List ℤ) (buffer : List ℕ) (table : List ℤ) → (pack_answer (pack t (length buffer))).number ≡ 0 → length t ≤ length table
      → (m : ℕ) × Nodes t m
      × (unpack_answer (unpack (take (pack_answer (pack t (length buffer))).count (bytes_after (pack t (length buffer)) buffer)) (length table)) ≡ accepts m)
      × (table_after (unpack (take (pack_answer (pack t (length buffer))).count (bytes_after (pack t (length buffer)) buffer)) (length table)) table ≡ t ++ drop (length t) table)
  -- "writing what was read gives the same bytes"
  pub written_back : (s : List ℕ) → AreBytes s → (table : List ℤ) (buffer : List ℕ) → (unpack_answer (unpack s (length table))).number ≡ 0 → length s ≤ length buffer
      → (pack_answer (pack (take (17 * (unpack_answer (unpack s (length table))).count) (table_after (unpack s (length table)) table)) (length buffer)) ≡ accepts (length s))
      × (bytes_after (pack (take (17 * (unpack_answer (unpack s (length table))).count) (table_after (unpack s (length table)) table)) (length buffer)) buffer ≡ s ++ drop (length s) buffer)
