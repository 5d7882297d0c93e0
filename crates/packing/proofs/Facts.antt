-- What the papers say of packed numbers and of the writer in single cases. One computation shows all of them.
use Prim.Native.Nat.{ℕ}
use mathlib.Core.Path.{◌≡◌, refl}
use mathlib.Core.List.{List, [], ◌∷◌, ◌++◌, map}
use lib.IntN.{ℤ, pos, negsuc}
use lib.ListN.{replicate}
use Rattle.plan.specs.declared.Answer.{Answer}
use Rattle.plan.specs.Answers.{Outcome, accepted, refuse}
use Rattle.packing.specs.Bytes.{bytes_of, packed_word}
use Rattle.packing.specs.Packing.{pack, pack_answer, bytes_after}

pub data Value : Type 0 where
  bytes : List ℕ → Value
  number : ℕ → Value
  packed : Outcome (List ℕ) → Value
  answer : Answer → Value

pub data Fact : Type 0 where
  ◌is◌ : Value → Value → Fact

infix 68 ◌is◌
abbrev asked : Fact → Value
asked (a is b) = a

abbrev said : Fact → Value
said (a is b) = b

abbrev zeros : ℕ → List ℤ
zeros n = replicate n (pos 0)

-- CONST of i16, and LOAD of node 0 to device 3
abbrev constant : ℤ → List ℤ
constant v = zeros 4 ++ pos 2 ∷ v ∷ zeros 11

abbrev load : List ℤ
load = pos 20 ∷ zeros 5 ++ pos 3 ∷ zeros 10

-- a word that CONST does not use is 1
abbrev spoilt : ℤ → List ℤ
spoilt v = zeros 4 ++ pos 2 ∷ v ∷ pos 1 ∷ zeros 10

abbrev facts : List Fact
facts =
    -- "other words n are written as 2n, or −2n−1 below zero"; "300 as a word is D8 04"
    number (packed_word (pos 300)) is number 600
    ∷ number (packed_word (negsuc 2)) is number 5
    ∷ bytes (bytes_of 600) is bytes (0xd8 ∷ 0x04 ∷ [])
    -- "shortest form, at most 5 bytes"
    ∷ bytes (bytes_of 0) is bytes (0 ∷ [])
    ∷ bytes (bytes_of 127) is bytes (127 ∷ [])
    ∷ bytes (bytes_of 128) is bytes (128 ∷ 1 ∷ [])
    ∷ bytes (bytes_of 34359738367) is bytes (255 ∷ 255 ∷ 255 ∷ 255 ∷ 127 ∷ [])
    -- 01 00 04 0A, and "its used words in rising order"
    ∷ packed (pack (constant (pos 5)) 4) is packed (accepted (1 ∷ 0 ∷ 4 ∷ 10 ∷ []))
    ∷ packed (pack (constant (pos 5) ++ load) 7) is packed (accepted (2 ∷ 0 ∷ 4 ∷ 10 ∷ 20 ∷ 0 ∷ 6 ∷ []))
    -- "−17179869184..17179869183": the ends, which take five bytes, and one more each way
    ∷ packed (pack (constant (pos 17179869183)) 8) is packed (accepted (1 ∷ 0 ∷ 4 ∷ 254 ∷ 255 ∷ 255 ∷ 255 ∷ 127 ∷ []))
    ∷ packed (pack (constant (negsuc 17179869183)) 8) is packed (accepted (1 ∷ 0 ∷ 4 ∷ 255 ∷ 255 ∷ 255 ∷ 255 ∷ 127 ∷ []))
    ∷ packed (pack (constant (pos 17179869184)) 99) is packed (refuse 25 0)
    ∷ packed (pack (constant (negsuc 17179869184)) 99) is packed (refuse 25 0)
    -- "Refusals: 1"
    ∷ packed (pack [] 99) is packed (refuse 1 0)
    ∷ packed (pack (zeros 18) 99) is packed (refuse 1 0)
    -- "nodes in turn, 2, 3, then 25 ..; (place: node)"
    ∷ packed (pack (constant (pos 5) ++ pos 24 ∷ zeros 16) 99) is packed (refuse 2 1)
    ∷ packed (pack (negsuc 0 ∷ zeros 16) 99) is packed (refuse 2 0)
    ∷ packed (pack (spoilt (pos 17179869184)) 99) is packed (refuse 3 0)
    ∷ packed (pack (constant (pos 17179869184) ++ pos 24 ∷ zeros 16) 99) is packed (refuse 25 0)
    -- "A second edition file starts with bytes 00 02, then count and nodes as before"; "The writer picks the edition.": FILL, KNOWN and STACK of two, each of node 0
    ∷ packed (pack (constant (pos 5) ++ pos 21 ∷ zeros 16) 9) is packed (accepted (0 ∷ 2 ∷ 2 ∷ 0 ∷ 4 ∷ 10 ∷ 21 ∷ 0 ∷ 0 ∷ []))
    ∷ packed (pack (constant (pos 5) ++ pos 22 ∷ zeros 16) 8) is packed (accepted (0 ∷ 2 ∷ 2 ∷ 0 ∷ 4 ∷ 10 ∷ 22 ∷ 0 ∷ []))
    ∷ packed (pack (constant (pos 5) ++ pos 23 ∷ zeros 4 ++ pos 2 ∷ zeros 11) 11) is packed (accepted (0 ∷ 2 ∷ 2 ∷ 0 ∷ 4 ∷ 10 ∷ 23 ∷ 0 ∷ 0 ∷ 0 ∷ 4 ∷ []))
    -- "then 14 for room": of a second edition file with its first two bytes
    ∷ packed (pack (constant (pos 5) ++ pos 22 ∷ zeros 16) 7) is packed (refuse 14 0)
    ∷ packed (pack (constant (pos 5)) 3) is packed (refuse 14 0)
    ∷ packed (pack (constant (pos 17179869184)) 0) is packed (refuse 25 0)
    -- it takes what the check refuses: a CONST of 40000 is no i16
    ∷ packed (pack (constant (pos 40000)) 6) is packed (accepted (1 ∷ 0 ∷ 4 ∷ 128 ∷ 241 ∷ 4 ∷ []))
    -- "The answer carries the length written."
    ∷ answer (pack_answer (pack (constant (pos 5)) 9)) is answer (record { number = 0; place = 0; count = 4 })
    -- "Buffer places past what any call writes stay as they were."
    ∷ bytes (bytes_after (pack (constant (pos 5)) 6) (replicate 6 9)) is bytes (1 ∷ 0 ∷ 4 ∷ 10 ∷ 9 ∷ 9 ∷ [])
    ∷ bytes (bytes_after (pack (constant (pos 5)) 3) (replicate 3 9)) is bytes (9 ∷ 9 ∷ 9 ∷ [])
    ∷ []

pub facts_hold : map asked facts ≡ map said facts
unfolding Rattle.laws.specs.Lists.among Rattle.laws.specs.Lists.all_below Rattle.plan.specs.Answers.in_turn Rattle.plan.specs.Answers.written Rattle.plan.specs.Operations.uses Rattle.plan.specs.Operations.is_new Rattle.plan.specs.Operations.is_operation Rattle.plan.specs.Types.holds Rattle.plan.specs.Words.size_of Rattle.plan.specs.Words.words_of Rattle.plan.specs.Words.node_count Rattle.plan.specs.Words.length_right Rattle.plan.specs.Words.unused_zero Rattle.codec.specs.Plans.none_new Rattle.codec.specs.Plans.edition_of Rattle.packing.specs.Bytes.groups_of Rattle.packing.specs.Bytes.bytes_of Rattle.packing.specs.Bytes.packed_word Rattle.packing.specs.Packing.used_in_range Rattle.packing.specs.Packing.words_to Rattle.packing.specs.Packing.node_bytes Rattle.packing.specs.Packing.pack_node Rattle.packing.specs.Packing.pack
facts_hold = refl
