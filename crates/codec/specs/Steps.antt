-- How the code holds what the reader finds, and the parts of unpacking that each of its functions does.
use Rattle.std.specs.Prelude.{ℕ, ◌/◌, ◌≡◌, Bool, ◌&&◌, cond, List, [], ◌∷◌, length, leb, eqb, ℤ, pos, Result}
use Rattle.std.proofs.lemmas.List.Edits.{sets}
use Rattle.plan.specs.declared.faults.Refusal.{Refusal as Refused}
use Rattle.plan.specs.Answers.{Outcome, accepted, refused, need, and_then, in_turn}
use Rattle.plan.specs.Coded.{outcome_of}
use Rattle.plan.specs.Words.{words_per_node, node_limit}
use Rattle.codec.specs.declared.Number.{Number}
use Rattle.codec.specs.declared.Opening.{Opening}
use Rattle.codec.specs.declared.Edition.{Edition}
use Rattle.codec.specs.declared.Edition.TheVariants.{First, Second}
use Rattle.codec.specs.Numbers.{Read, number_at, word_of}
use Rattle.codec.specs.Plans.{Unpacked, read_word, header_of, edition_at, edition_of, add_node}

-- a number that was read
abbrev pub read_of : Number → Read
read_of n = record { value = n.value; next = n.next }

-- the number of an edition
abbrev pub edition_number : Edition → ℕ
edition_number First = 1
edition_number Second = 2

-- the position after the words that were read
abbrev pub position_in : Outcome Unpacked → Outcome ℕ
position_in o = and_then o (λ u. accepted u.next)

-- how many nodes they are
abbrev pub count_in : Outcome Unpacked → Outcome ℕ
count_in o = and_then o (λ u. accepted (length u.words / words_per_node))

-- words that were read stand in the table from place `to` on, and nothing else of it changed
unfoldable pub Stands : Outcome Unpacked → List ℤ → ℕ → List ℤ → Type 0
Stands (accepted u) before to after = after ≡ sets before to u.words
Stands (refused r) before to after = Unit

-- what a reader answers, and what it leaves in its table
pub record Wrote (o : Outcome Unpacked) (r : Result ℕ Refused) (before : List ℤ) (to : ℕ) (after : List ℤ) : Type 0 where
  pub answer : outcome_of (λ n. n) r ≡ position_in o
  pub table : Stands o before to after

-- one word of a node by itself
unfoldable pub one_word : Bool → List ℕ → ℕ → Outcome Unpacked
one_word used s at =
    cond used
    (and_then (number_at s at) (λ read. accepted (record { words = word_of read.value ∷ []; next = read.next })))
    (accepted (record { words = pos 0 ∷ []; next = at }))

-- a node from its operation on, whose number is read
unfoldable pub node_words : ℕ → List ℕ → ℕ → Outcome Unpacked
node_words op s at = in_turn (read_word op s) (record { words = pos op ∷ []; next = at }) 16

-- the first so many nodes of a file of that edition
unfoldable pub nodes_at : ℕ → ℕ → List ℕ → ℕ → Outcome Unpacked
nodes_at edition count s at = in_turn (add_node edition s) (record { words = []; next = at }) count

-- the edition, and the position after what names it
unfoldable pub head_at : List ℕ → Outcome Read
head_at s = and_then (edition_at s) (λ edition. accepted (record { value = edition; next = length (header_of edition) }))

-- the node count
unfoldable pub count_at : List ℕ → ℕ → Outcome Read
count_at s at = and_then (number_at s at) (λ count. need (leb 1 count.value && leb count.value node_limit) 23 0 (accepted count))

-- what a file begins with: its edition and its count, and the position after them
pub record Opened : Type 0 where
  pub edition : ℕ
  pub count : ℕ
  pub next : ℕ

abbrev pub opened_of : Opening → Opened
opened_of o = record { edition = edition_number o.edition; count = o.count; next = o.next }

unfoldable pub opening_at : List ℕ → Outcome Opened
opening_at s = and_then (head_at s) (λ head. and_then (count_at s head.next) (λ count. accepted (record { edition = head.value; count = count.value; next = count.next })))

-- all nodes, with no byte left over, of the plan's own edition
unfoldable pub all_nodes : ℕ → ℕ → List ℕ → ℕ → Outcome Unpacked
all_nodes edition count s at =
    and_then (nodes_at edition count s at) (λ u. need (leb (length s) u.next) 22 u.next (need (eqb edition (edition_of u.words)) 26 0 (accepted u)))
