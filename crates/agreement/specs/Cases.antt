-- Cases of an independent model, tests/model/model.py: a call with its inputs, and what the model says that it answers and leaves in its buffers.
use Rattle.std.specs.Prelude.{ℕ, zero, suc, ◌+◌, ◌-◌, ◌/◌, ◌%◌, ◌≡◌, cond, List, [], ◌∷◌, ◌++◌, map, ℤ, pos, negsuc, eqb, length, replicate}
use Rattle.plan.specs.declared.Answer.{Answer}
use Rattle.plan.specs.Words.{node, element}
use Rattle.plan.specs.Answers.{Outcome}
use Rattle.codec.specs.Plans.{Unpacked, unpack, unpack_answer, table_after}
use Rattle.packing.specs.Packing.{pack, pack_answer, bytes_after}
use Rattle.rules.specs.Rules.{Derived}
use Rattle.verifier.specs.Check.{check, check_answer, derived_after, unpack_check, code_of}
use Rattle.verifier.specs.Listing.{listing}
use Rattle.cells.specs.Cells.{Field}
use Rattle.runner.specs.Run.{run, run_answer, values_after, flags_after}
use Rattle.lookup.specs.declared.Found.{Found}
use Rattle.lookup.specs.Following.{lookup, lookup_answer, found_kind, found_node, found_element}

-- ---- how a table writes lists; nothing here is taken from the definitions that it tries

-- a whole number as one numeral: 2n from 0 on, −2n−1 below
abbrev pub integer : ℕ → ℤ
integer m = cond (eqb (m % 2) 0) (pos (m / 2)) (negsuc (m / 2))

abbrev pub words : List ℕ → List ℤ
words = map integer

-- the words of a node: those given, then zeros up to 17
abbrev pub node_words : List ℕ → List ℤ
node_words ms = words ms ++ replicate (17 - length ms) (pos 0)

abbrev pub nodes : List (List ℕ) → List ℤ
nodes [] = []
nodes (ms ∷ more) = node_words ms ++ nodes more

-- a list n times, end to end
abbrev pub times : {A : Type 0} → ℕ → List A → List A
times zero xs = []
times (suc n) xs = xs ++ times n xs

-- a buffer before a call: place k holds 1000 + k, of flags and of bytes 2 + k % 200; here the n places from k on
abbrev pub fresh_from : ℕ → ℕ → List ℤ
fresh_from k zero = []
fresh_from k (suc n) = pos (1000 + k) ∷ fresh_from (suc k) n

abbrev pub flags_from : ℕ → ℕ → List ℕ
flags_from k zero = []
flags_from k (suc n) = (2 + k % 200) ∷ flags_from (suc k) n

-- ---- a call, and what it gives

pub data Call : Type 0 where
  -- bytes, and the table's room
  to_unpack : List ℕ → ℕ → Call
  -- a table, and the room for bytes
  to_pack : List ℤ → ℕ → Call
  -- a table, and the room for derived words
  to_check : List ℤ → ℕ → Call
  -- bytes, for the C call that unpacks and checks
  to_unpack_check : List ℕ → Call
  -- a table, values and flags, and the room for values and for flags
  to_run : List ℤ → List ℤ → List ℕ → ℕ → ℕ → Call
  -- a table, a node and an element
  to_lookup : List ℤ → ℕ → ℕ → Call
  -- bytes
  to_list : List ℕ → Call

pub data Result : Type 0 where
  -- the answer, and the whole buffer of words after the call
  leaves : Answer → List ℤ → Result
  -- the answer, and the whole buffer of bytes after the call
  leaves_bytes : Answer → List ℕ → Result
  -- the answer, and both whole buffers after the run
  leaves_both : Answer → List ℤ → List ℕ → Result
  -- the answer; 0 nothing, 1 a place, 2 a gap; the place's node and element
  finds : Answer → ℕ → ℕ → ℕ → Result
  -- the C call's number
  number : ℕ → Result
  -- the bytes of the listing
  text : List ℕ → Result

abbrev pub answer : ℕ → ℕ → ℕ → Answer
answer n place count = record { number = n; place = place; count = count }

-- ---- what the definitions give

abbrev pub unpacked : Outcome Unpacked → ℕ → Result
unpacked o room = leaves (unpack_answer o) (table_after o (fresh_from 0 room))

abbrev pub packed : Outcome (List ℕ) → ℕ → Result
packed o room = leaves_bytes (pack_answer o) (bytes_after o (flags_from 0 room))

abbrev pub checked : Outcome (List Derived) → ℕ → Result
checked o room = leaves (check_answer o) (derived_after o (fresh_from 0 room))

abbrev pub ran : Outcome (List Field) → ℕ → ℕ → Result
ran o valueRoom flagRoom = leaves_both (run_answer o) (values_after o (fresh_from 0 valueRoom)) (flags_after o (flags_from 0 flagRoom))

abbrev pub found : Outcome Found → Result
found o = finds (lookup_answer o) (found_kind o) (found_node o) (found_element o)

abbrev pub given : Call → Result
given (to_unpack s room) = unpacked (unpack s room) room
given (to_pack t room) = packed (pack t room) room
given (to_check t room) = checked (check t room) room
given (to_unpack_check s) = number (code_of (unpack_check s))
given (to_run t values flags valueRoom flagRoom) = ran (run t values flags valueRoom flagRoom) valueRoom flagRoom
given (to_lookup t n e) = found (lookup t (node n) (element e))
given (to_list s) = text (listing s)

-- ---- a table's statement

-- a call, and what the model says of it
pub record Case : Type 0 where
  pub call : Call
  pub model : Result

abbrev pub ◌gives◌ : Call → Result → Case
c gives r = record { call = c; model = r }

infix 68 ◌gives◌
abbrev pub Agree : List Case → Type 0
Agree cases = map (λ (c : Case). given c.call) cases ≡ map (λ (c : Case). c.model) cases
