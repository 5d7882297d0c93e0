-- Packed plans.
use Rattle.std.specs.Prelude.{ℕ, ◌+◌, ◌*◌, ◌/◌, Bool, ◌&&◌, not, cond, List, [], ◌∷◌, ◌++◌, length, get_or, leb, ltb, eqb, ℤ, pos}
use Rattle.plan.specs.declared.Answer.{Answer}
use Rattle.laws.specs.Lists.{all_below}
use Rattle.plan.specs.Operations.{uses, is_new, in_file}
use Rattle.plan.specs.Words.{words_per_node, node_limit, size_at, words_of, node_count}
use Rattle.plan.specs.Answers.{Outcome, accepted, need, and_then, in_turn, answer_of, buffer_after}
use Rattle.codec.specs.Numbers.{number_at, word_of}

-- table words that were read, and the position after them
pub record Unpacked : Type 0 where
  pub words : List ℤ
  pub next : ℕ

-- these words, and then one more
abbrev pub with_word : Unpacked → ℤ → ℕ → Unpacked
with_word u w next = record { words = u.words ++ w ∷ []; next = next }

-- "its used words in rising order"; "Unpacking makes the 17-word table with zeros elsewhere": word k + 1 of a node
unfoldable pub read_word : ℕ → List ℕ → ℕ → Unpacked → Outcome Unpacked
read_word op s k u =
    cond (uses op (k + 1))
    (and_then (number_at s u.next) (λ read. accepted (with_word u (word_of read.value) read.next)))
    (accepted (with_word u (pos 0) u.next))

-- "A second edition file starts with bytes 00 02, then count and nodes as before"
abbrev pub header_of : ℕ → List ℕ
header_of edition = cond (eqb edition 2) (0 ∷ 2 ∷ []) []

-- "a leading 00 not followed by 02 is 23". No first edition file starts with 00, for its count is not 0.
unfoldable pub edition_at : List ℕ → Outcome ℕ
edition_at s =
    cond (ltb 0 (length s) && eqb (get_or s 0 0) 0)
    (need (ltb 1 (length s) && eqb (get_or s 1 0) 2) 23 0 (accepted 2))
    (accepted 1)

-- no new operation is among the first n nodes
unfoldable pub none_new : List ℤ → ℕ → Bool
none_new t n = all_below n (λ (i : ℕ). not (is_new (size_at (words_of t i) 0)))

-- "it must hold at least one new operation, so each plan still has one file. The writer picks the edition."
unfoldable pub edition_of : List ℤ → ℕ
edition_of t = cond (none_new t (node_count t)) 1 2

-- "for each node its operation and its used words"; "Count and operation are plain"
-- "24: operation not 0..20; its byte"; "for second edition files, rule 24 the limit is 23"
unfoldable pub read_node : ℕ → List ℕ → ℕ → Outcome Unpacked
read_node edition s at =
    and_then (number_at s at) (λ op.
    need (in_file edition op.value) 24 at
    (in_turn (read_word op.value s) (record { words = pos op.value ∷ []; next = op.next }) 16))

-- one node more
unfoldable pub add_node : ℕ → List ℕ → ℕ → Unpacked → Outcome Unpacked
add_node edition s n u = and_then (read_node edition s u.next) (λ more. accepted (record { words = u.words ++ more.words; next = more.next }))

-- "A packed plan is the node count, then for each node .."
-- "Unpacking: count (20, 21, 23), 14 for the table's room, numbers in byte order, 22 last."
-- "26 for a second edition file with no new operation, after 22": a first edition file has none, by 24
unfoldable pub unpack : List ℕ → ℕ → Outcome Unpacked
unpack s room =
    and_then (edition_at s) (λ edition.
    and_then (number_at s (length (header_of edition))) (λ count.
    need (leb 1 count.value && leb count.value node_limit) 23 0
    (need (leb (words_per_node * count.value) room) 14 0
    (and_then (in_turn (add_node edition s) (record { words = []; next = count.next }) count.value) (λ u.
    need (leb (length s) u.next) 22 u.next
    (need (eqb edition (edition_of u.words)) 26 0 (accepted u)))))))

-- "unpacking also answers the node count"
abbrev pub unpack_answer : Outcome Unpacked → Answer
unpack_answer = answer_of (λ (u : Unpacked). length u.words / words_per_node)

-- the table's buffer after unpacking
abbrev pub table_after : Outcome Unpacked → List ℤ → List ℤ
table_after = buffer_after (λ (u : Unpacked). u.words)
