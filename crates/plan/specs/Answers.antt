-- What a call answers and what it leaves in a buffer.
use Rattle.std.specs.Prelude.{ℕ, zero, suc, ◌≡◌, Bool, true, false, cond, List, [], ◌∷◌, ◌++◌, length, drop}
use Rattle.plan.specs.declared.Answer.{Answer}

-- a refusal's number and its place
pub record Refusal : Type 0 where
  pub number : ℕ
  pub place : ℕ

-- what every call ends with: what it found, or a refusal
pub data Outcome (A : Type 0) : Type 0 where
  accepted : A → Outcome A
  refused : Refusal → Outcome A

abbrev pub refuse : {A : Type 0} → ℕ → ℕ → Outcome A
refuse number place = refused (record { number = number; place = place })

-- the refusal with this number, at this place, where the test fails
abbrev pub need : {A : Type 0} → Bool → ℕ → ℕ → Outcome A → Outcome A
need test number place next = cond test next (refuse number place)

abbrev pub and_then : {A B : Type 0} → Outcome A → (A → Outcome B) → Outcome B
and_then (accepted a) next = next a
and_then (refused r) next = refused r

-- steps 0, .., n − 1 in turn, each after what the one before it found; the first refusal ends them
unfoldable pub in_turn : {A : Type 0} → (ℕ → A → Outcome A) → A → ℕ → Outcome A
in_turn step start zero = accepted start
in_turn step start (suc n) = and_then (in_turn step start n) (step n)

-- a rule's number, and whether it holds
pub data Rule : Type 0 where
  rule : ℕ → Bool → Rule

-- the first rule that fails refuses, at this place
abbrev pub in_order : {A : Type 0} → List Rule → ℕ → Outcome A → Outcome A
in_order [] place next = next
in_order (rule number test ∷ rules) place next = need test number place (in_order rules place next)

-- every rule holds
abbrev pub AllHold : List Rule → Type 0
AllHold [] = Unit
AllHold (rule number test ∷ rules) = (test ≡ true) × AllHold rules

-- the rules before it hold, and the one with this number fails
pub data FirstFailing : List Rule → ℕ → Type 0 where
  here : {number : ℕ} {rules : List Rule} → FirstFailing (rule number false ∷ rules) number
  later : {number failing : ℕ} {rules : List Rule} → FirstFailing rules failing → FirstFailing (rule number true ∷ rules) failing

-- "0 is accepted, place 0"; "Every refusal gives its number, a place (0 where none is named) and 0 for every count".
-- What a call counts is its own: unpack its nodes, a run the gaps of its output, the others nothing.
abbrev pub answer_of : {A : Type 0} → (A → ℕ) → Outcome A → Answer
answer_of counted (accepted a) = record { number = 0; place = 0; count = counted a }
answer_of counted (refused r) = record { number = r.number; place = r.place; count = 0 }

-- "Buffer places past what any call writes stay as they were."
unfoldable pub written : {A : Type 0} → List A → List A → List A
written words before = words ++ drop (length words) before

-- a buffer after a call that writes these words where it accepts; a refusal "writes nothing"
abbrev pub buffer_after : {A B : Type 0} → (A → List B) → Outcome A → List B → List B
buffer_after words (accepted a) before = written (words a) before
buffer_after words (refused r) before = before
