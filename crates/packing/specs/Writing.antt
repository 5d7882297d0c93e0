-- How the writer's functions are said to write.
use Rattle.std.specs.Prelude.{ℕ, ◌≤◌, ◌≡◌, Bool, cond, List, [], ℤ, length, take, Result, Ok, MatchResult}
use Rattle.laws.specs.Lists.{all_below}
use Rattle.plan.specs.declared.operations.Operation.{Operation}
use Rattle.plan.specs.declared.faults.Refusal.{Refusal as Refused}
use Rattle.plan.specs.Coded.{number_of, fault_number, outcome_of}
use Rattle.plan.specs.Types.{holds}
use Rattle.plan.specs.Words.{words_per_node, word_at, size_at}
use Rattle.plan.specs.Answers.{Outcome, accepted, refused, and_then, AllHold, FirstFailing}
use Rattle.packing.specs.Bytes.{bytes_of, packed_word}
use Rattle.packing.specs.Packing.{word_range, pack_rules}

-- the bytes of a word, none where it is not used
abbrev pub word_bytes : Bool → ℤ → List ℕ
word_bytes used w = cond used (bytes_of (packed_word w)) []

-- all words can be packed, whether they are used or not
abbrev pub all_in_range : List ℤ → Bool
all_in_range w = all_below words_per_node (λ (k : ℕ). holds word_range (word_at w k))

-- the operation of the words of node n, or the first of 2, 3 and 25 that they break, at that node
abbrev pub Judged : List ℤ → ℕ → Result Operation Refused → Type 0
Judged w n r = MatchResult r (λ op. (number_of op ≡ size_at w 0) × AllHold (pack_rules w)) (λ e. (e.place ≡ n) × FirstFailing (pack_rules w) (fault_number e.fault))

-- what writing nodes ends with: the place after the bytes, which stand in the buffer from its start, or the refusal
unfoldable pub Ended : Outcome (List ℕ) → List ℕ → Result ℕ Refused → Type 0
Ended (accepted bs) after r = (r ≡ Ok (length bs)) × (take (length bs) after ≡ bs) × (length bs ≤ length after)
Ended (refused x) after r = outcome_of (λ n. n) r ≡ refused x

-- how many bytes were written
abbrev pub length_in : Outcome (List ℕ) → Outcome ℕ
length_in o = and_then o (λ bytes. accepted (length bytes))
