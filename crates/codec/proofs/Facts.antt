-- What the paper says of packed numbers and packed plans in single cases. One computation shows all of them.
use Prim.Native.Nat.{ℕ}
use mathlib.Core.Path.{◌≡◌, refl}
use mathlib.Core.List.{List, [], ◌∷◌, ◌++◌, map}
use lib.IntN.{ℤ, pos, negsuc}
use lib.ListN.{replicate}
use Rattle.plan.specs.declared.Answer.{Answer}
use Rattle.plan.specs.Answers.{Outcome, accepted, refuse}
use Rattle.codec.specs.Numbers.{Read, number_at, word_of}
use Rattle.codec.specs.Plans.{Unpacked, unpack, unpack_answer, table_after}

pub data Value : Type 0 where
  number : Outcome Read → Value
  word : ℤ → Value
  plan : Outcome Unpacked → Value
  answer : Answer → Value
  buffer : List ℤ → Value

pub data Fact : Type 0 where
  ◌is◌ : Value → Value → Fact

infix 68 ◌is◌
abbrev asked : Fact → Value
asked (a is b) = a

abbrev said : Fact → Value
said (a is b) = b

-- the number v, with n the position after it
abbrev read : ℕ → ℕ → Value
read v n = number (accepted (record { value = v; next = n }))

-- a table, with n the position after its bytes
abbrev table : List ℤ → ℕ → Value
table w n = plan (accepted (record { words = w; next = n }))

abbrev zeros : ℕ → List ℤ
zeros n = replicate n (pos 0)

-- CONST of i16
abbrev constant : ℤ → List ℤ
constant v = zeros 4 ++ pos 2 ∷ v ∷ zeros 11

abbrev facts : List Fact
facts =
    -- "groups of seven bits, lowest first, the high bit of a byte set when more follow"; "300 as a word is D8 04": 600 is written
    number (number_at (0xd8 ∷ 0x04 ∷ []) 0) is read 600 2
    -- "at most 5 bytes"
    ∷ number (number_at (128 ∷ 128 ∷ 128 ∷ 128 ∷ 127 ∷ []) 0) is read 34091302912 5
    -- "20: bytes end before or inside a number; its first byte"
    ∷ number (number_at (9 ∷ []) 1) is number (refuse 20 1)
    ∷ number (number_at (9 ∷ 128 ∷ 128 ∷ 128 ∷ 128 ∷ []) 1) is number (refuse 20 1)
    -- "21: fifth byte has its high bit; its first byte", also where the bytes end there
    ∷ number (number_at (9 ∷ 128 ∷ 128 ∷ 128 ∷ 128 ∷ 128 ∷ []) 1) is number (refuse 21 1)
    -- "or a later last byte is 0"; a first byte may be 0
    ∷ number (number_at (9 ∷ 129 ∷ 0 ∷ []) 1) is number (refuse 21 1)
    ∷ number (number_at (9 ∷ 0 ∷ []) 1) is read 0 2
    -- (02) "a number whose first byte is below 128": 127 is one, at the end of the bytes and before it; a first byte of 128 is not
    ∷ number (number_at (9 ∷ 127 ∷ []) 1) is read 127 2
    ∷ number (number_at (127 ∷ 127 ∷ []) 0) is read 127 1
    ∷ number (number_at (9 ∷ 128 ∷ []) 1) is number (refuse 20 1)
    ∷ number (number_at (9 ∷ 128 ∷ 0 ∷ []) 1) is number (refuse 21 1)
    ∷ number (number_at (9 ∷ 128 ∷ 1 ∷ 9 ∷ []) 1) is read 128 3
    ∷ number (number_at (255 ∷ 127 ∷ 9 ∷ []) 0) is read 16383 2
    ∷ number (number_at (9 ∷ 255 ∷ 255 ∷ 255 ∷ 255 ∷ 15 ∷ []) 1) is read 4294967295 6
    ∷ number (number_at (9 ∷ 255 ∷ 255 ∷ 255 ∷ 255 ∷ 127 ∷ 9 ∷ []) 1) is read 34359738367 6
    -- "other words n are written as 2n, or −2n−1 below zero"
    ∷ word (word_of 600) is word (pos 300)
    ∷ word (word_of 1) is word (negsuc 0)
    ∷ word (word_of 5) is word (negsuc 2)
    -- "Unpacking makes the 17-word table with zeros elsewhere", of 01 00 04 0A
    ∷ plan (unpack (1 ∷ 0 ∷ 4 ∷ 10 ∷ []) 17) is table (constant (pos 5)) 4
    -- "its used words in rising order": LOAD of node 0 to device 3
    ∷ plan (unpack (2 ∷ 0 ∷ 4 ∷ 10 ∷ 20 ∷ 0 ∷ 6 ∷ []) 34)
    is table (constant (pos 5) ++ pos 20 ∷ zeros 5 ++ pos 3 ∷ zeros 10) 7
    -- "Unpacking: count (20, 21, 23)"; "Empty bytes: refused 20 at 0"
    ∷ plan (unpack [] 17) is plan (refuse 20 0)
    ∷ plan (unpack (129 ∷ 0 ∷ []) 17) is plan (refuse 21 0)
    -- "23: count not 1..256": 0 and 257, "14 for the table's room" being later
    ∷ plan (unpack (0 ∷ []) 17) is plan (refuse 23 0)
    ∷ plan (unpack (129 ∷ 2 ∷ []) 4352) is plan (refuse 23 0)
    -- 256 nodes want 4352 words
    ∷ plan (unpack (128 ∷ 2 ∷ []) 4351) is plan (refuse 14 0)
    ∷ plan (unpack (128 ∷ 2 ∷ []) 4352) is plan (refuse 20 2)
    -- "24: operation not 0..20; its byte", also of a number of two bytes; "numbers in byte order, 22 last"
    ∷ plan (unpack (1 ∷ 21 ∷ 9 ∷ []) 17) is plan (refuse 24 1)
    ∷ plan (unpack (1 ∷ 149 ∷ 1 ∷ 9 ∷ []) 17) is plan (refuse 24 1)
    ∷ plan (unpack (1 ∷ 149 ∷ 0 ∷ 9 ∷ []) 17) is plan (refuse 21 1)
    -- "22: bytes left over; first of them"
    ∷ plan (unpack (1 ∷ 0 ∷ 4 ∷ 10 ∷ 9 ∷ 9 ∷ []) 17) is plan (refuse 22 4)
    -- "A second edition file starts with bytes 00 02, then count and nodes as before": KNOWN of node 0
    ∷ plan (unpack (0 ∷ 2 ∷ 2 ∷ 0 ∷ 4 ∷ 10 ∷ 22 ∷ 0 ∷ []) 34) is table (constant (pos 5) ++ pos 22 ∷ zeros 16) 8
    -- "for second edition files, rule 24 the limit is 23"; "First edition readers keep refusing 23 and 24"
    ∷ plan (unpack (0 ∷ 2 ∷ 1 ∷ 24 ∷ []) 17) is plan (refuse 24 3)
    ∷ plan (unpack (2 ∷ 0 ∷ 4 ∷ 10 ∷ 22 ∷ 0 ∷ []) 34) is plan (refuse 24 4)
    -- "a leading 00 not followed by 02 is 23"; 20 and 23 of a second edition file's count
    ∷ plan (unpack (0 ∷ 130 ∷ 0 ∷ []) 17) is plan (refuse 23 0)
    ∷ plan (unpack (0 ∷ 2 ∷ []) 17) is plan (refuse 20 2)
    ∷ plan (unpack (0 ∷ 2 ∷ 0 ∷ []) 17) is plan (refuse 23 0)
    -- "26 for a second edition file with no new operation, after 22"
    ∷ plan (unpack (0 ∷ 2 ∷ 1 ∷ 0 ∷ 4 ∷ 10 ∷ []) 17) is plan (refuse 26 0)
    ∷ plan (unpack (0 ∷ 2 ∷ 1 ∷ 0 ∷ 4 ∷ 10 ∷ 9 ∷ []) 17) is plan (refuse 22 6)
    -- "unpacking also answers the node count"
    ∷ answer (unpack_answer (unpack (2 ∷ 0 ∷ 4 ∷ 10 ∷ 0 ∷ 4 ∷ 10 ∷ []) 34)) is answer (record { number = 0; place = 0; count = 2 })
    -- "Buffer places past what any call writes stay as they were."
    ∷ buffer (table_after (unpack (1 ∷ 0 ∷ 4 ∷ 10 ∷ []) 18) (replicate 18 (pos 9))) is buffer (constant (pos 5) ++ pos 9 ∷ [])
    ∷ []

pub facts_hold : map asked facts ≡ map said facts
unfolding Rattle.laws.specs.Lists.among Rattle.plan.specs.Answers.in_turn Rattle.plan.specs.Answers.written Rattle.plan.specs.Operations.uses Rattle.codec.specs.Numbers.groups_at Rattle.codec.specs.Numbers.number_at Rattle.codec.specs.Numbers.word_of Rattle.codec.specs.Plans.read_word Rattle.codec.specs.Plans.read_node Rattle.codec.specs.Plans.add_node Rattle.codec.specs.Plans.unpack Rattle.laws.specs.Lists.all_below Rattle.plan.specs.Operations.is_new Rattle.plan.specs.Operations.is_operation Rattle.plan.specs.Operations.in_file Rattle.plan.specs.Words.size_of Rattle.plan.specs.Words.words_of Rattle.plan.specs.Words.node_count Rattle.codec.specs.Plans.edition_at Rattle.codec.specs.Plans.none_new Rattle.codec.specs.Plans.edition_of
facts_hold = refl
