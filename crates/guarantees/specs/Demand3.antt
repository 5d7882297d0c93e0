-- Demand 3, "as one statement", "stated over demand 2's definition": `verdict`, `run` and `fields_of`. Words in quotation marks are the
-- request's and the paper's.
use Rattle.std.specs.Prelude.{ℕ, zero, suc, ◌+◌, ◌-◌, ◌*◌, ◌<◌, ◌≤◌, ◌≡◌, ◌⊎◌, List, [], ◌∷◌, ℤ, pos, negsuc, ◌≤ℤ◌, length, get_or, take, drop}
use Rattle.laws.specs.Lists.{occurrences}
use Rattle.plan.specs.declared.Answer.{Answer}
use Rattle.plan.specs.declared.ElementNumber.{ElementNumber}
use Rattle.plan.specs.Operations.{PARAM, IDIV, MOD}
use Rattle.plan.specs.Types.{range_of}
use Rattle.plan.specs.Words.{element}
use Rattle.plan.specs.Answers.{Outcome, accepted}
use Rattle.rules.specs.Rules.{Derived, no_source}
use Rattle.verifier.specs.Check.{verdict, count_of, total_of}
use Rattle.cells.specs.Cells.{Cell, known, gap, Field, cell_at}
use Rattle.runner.specs.Inputs.{input_start, input_total}
use Rattle.runner.specs.Run.{no_field, fields_of, run, run_answer, values_after, flags_after}

-- ---- a run

-- what a run is lent: the input's values and flags, and the two result buffers as they are before it
pub record Lent : Type 0 where
  pub values : List ℤ
  pub flags : List ℕ
  pub value_buffer : List ℤ
  pub flag_buffer : List ℕ

-- the run of plan t; its answer; the two result buffers after it
abbrev pub ran : List ℤ → Lent → Outcome (List Field)
ran t x = run t x.values x.flags (length x.value_buffer) (length x.flag_buffer)

abbrev pub answer : List ℤ → Lent → Answer
answer t x = run_answer (ran t x)

abbrev pub values_then : List ℤ → Lent → List ℤ
values_then t x = values_after (ran t x) x.value_buffer

abbrev pub flags_then : List ℤ → Lent → List ℕ
flags_then t x = flags_after (ran t x) x.flag_buffer

-- ---- a node

-- "each of 17 signed 64-bit words": word k of node n
abbrev pub word : List ℤ → ℕ → ℕ → ℤ
word t n k = get_or t (17 * n + k) (pos 0)

-- a word as a count: itself, and 2^64 − 1 for a negative one, more than the paper lets any count be
abbrev pub as_count : ℤ → ℕ
as_count (pos z) = z
as_count (negsuc z) = 18446744073709551615

-- "9 to 12 row A; 13 to 16 row B": the row of node n that begins with word k
abbrev pub row_from : List ℤ → ℕ → ℕ → List ℕ
row_from t n k = as_count (word t n k) ∷ as_count (word t n (k + 1)) ∷ as_count (word t n (k + 2)) ∷ as_count (word t n (k + 3)) ∷ []

-- the number of elements of node n, and of the nodes before it
abbrev pub elements : List Derived → ℕ → ℕ
elements ds n = count_of (get_or ds n no_source)

abbrev pub elements_before : List Derived → ℕ → ℕ
elements_before ds n = total_of (take n ds)

-- what demand 2 gives for node n and for its element e
abbrev pub field_at : List ℤ → List Derived → Lent → ℕ → Field
field_at t ds x n = get_or (fields_of t ds x.values x.flags) n no_field

abbrev pub result_at : List ℤ → List Derived → Lent → ℕ → ElementNumber → Cell
result_at t ds x n e = cell_at (field_at t ds x n) e

-- "The last node is the output."
abbrev pub output : List Derived → ℕ
output ds = length ds - 1

-- how many of the first k elements of a field are gaps
abbrev pub one_if_gap : Cell → ℕ
one_if_gap (known z) = 0
one_if_gap gap = 1

unfoldable pub gaps_below : Field → ℕ → ℕ
gaps_below f zero = 0
gaps_below f (suc k) = gaps_below f k + one_if_gap (cell_at f (element k))

-- ---- the premises

-- "Take an accepted plan and any run of it on inputs of the required length, with room enough, every flag 0 or 1 and each known number in
-- its declared limits." ds are the records of the accepted plan.
pub record Proper (t : List ℤ) (ds : List Derived) (x : Lent) : Type 0 where
  -- "a plan is accepted where none of 1 to 12 is due"
  pub accepts : verdict t ≡ accepted ds
  -- "Inputs have the required length where both lengths are the PARAM total."
  pub values_length : length x.values ≡ input_total t ds
  pub flags_length : length x.flags ≡ input_total t ds
  -- "There is room enough where each result buffer has a place for every element of all nodes."
  pub value_room : total_of ds ≤ length x.value_buffer
  pub flag_room : total_of ds ≤ length x.flag_buffer
  -- "every flag 0 or 1"
  pub zero_or_one : (p : ℕ) → p < length x.flags → (get_or x.flags p 0 ≡ 0) ⊎ (get_or x.flags p 0 ≡ 1)
  -- "Declared limits are the PARAM's low and high. A known number is an input value whose flag is 1; the other values lie under gaps."
  pub in_limits : (n : ℕ) (e : ElementNumber) → n < length ds → word t n 0 ≡ pos PARAM → e.0 < elements ds n → get_or x.flags (input_start t ds n + e.0) 0 ≡ 1
      → (word t n 7 ≤ℤ get_or x.values (input_start t ds n + e.0) (pos 0)) × (get_or x.values (input_start t ds n + e.0) (pos 0) ≤ℤ word t n 8)

-- ---- what is promised of one run

-- "A run completes when it answers 0, place 0 and the output's gap count, and has written every element of all nodes as demand 2 says."
pub record Completes (t : List ℤ) (ds : List Derived) (x : Lent) : Type 0 where
  pub number : (answer t x).number ≡ 0
  pub place : (answer t x).place ≡ 0
  -- the output's gaps; and "by counting the output's flags"
  pub gaps : (answer t x).count ≡ gaps_below (field_at t ds x (output ds)) (elements ds (output ds))
  pub zero_flags : (answer t x).count ≡ occurrences 0 (take (elements ds (output ds)) (drop (elements_before ds (output ds)) (flags_then t x)))
  -- "every element of all nodes": every node has its record and its field, and every field its elements (as_many of Safe)
  pub every_node : 17 * length ds ≡ length t
  pub as_many : length (fields_of t ds x.values x.flags) ≡ length ds
  pub output_there : output ds < length ds
  -- "writes all nodes' elements end to end into two result buffers"
  pub known_written : (n : ℕ) (e : ElementNumber) (z : ℤ) → n < length ds → e.0 < elements ds n → result_at t ds x n e ≡ known z
      → (get_or (values_then t x) (elements_before ds n + e.0) (pos 0) ≡ z) × (get_or (flags_then t x) (elements_before ds n + e.0) 0 ≡ 1)
  -- "A gap is written as value 0, flag 0."
  pub gap_written : (n : ℕ) (e : ElementNumber) → n < length ds → e.0 < elements ds n → result_at t ds x n e ≡ gap
      → (get_or (values_then t x) (elements_before ds n + e.0) (pos 0) ≡ pos 0) × (get_or (flags_then t x) (elements_before ds n + e.0) 0 ≡ 0)
  -- "Buffer places past what any call writes stay as they were."
  pub values_past : drop (total_of ds) (values_then t x) ≡ drop (total_of ds) x.value_buffer
  pub flags_past : drop (total_of ds) (flags_then t x) ≡ drop (total_of ds) x.flag_buffer
  pub values_length : length (values_then t x) ≡ length x.value_buffer
  pub flags_length : length (flags_then t x) ≡ length x.flag_buffer

-- "A divisor is any element of an IDIV's or MOD's second source." None is known to be 0, whether it is read or not.
pub record SafeDivisors (t : List ℤ) (ds : List Derived) (x : Lent) (n : ℕ) : Type 0 where
  pub second : ℕ
  pub is_second : word t n 2 ≡ pos second
  pub earlier : second < n
  pub not_zero : (e : ElementNumber) → result_at t ds x second e ≡ known (pos 0) → ⊥

-- "At every node, no known divisor is zero, no known result leaves its type and every known element lies in that node's derived bounds."
pub record Safe (t : List ℤ) (ds : List Derived) (x : Lent) (n : ℕ) : Type 0 where
  pub as_many : length (field_at t ds x n).cells ≡ elements ds n
  pub divisors : (word t n 0 ≡ pos IDIV) ⊎ (word t n 0 ≡ pos MOD) → SafeDivisors t ds x n
  -- "A result is the whole number that the rules give for an element, before it is stored."
  pub in_type : (e : ElementNumber) (z : ℤ) → result_at t ds x n e ≡ known z
      → ((range_of (get_or ds n no_source).dtype).low ≤ℤ z) × (z ≤ℤ (range_of (get_or ds n no_source).dtype).high)
  pub in_bounds : (e : ElementNumber) (z : ℤ) → result_at t ds x n e ≡ known z
      → ((get_or ds n no_source).bounds.low ≤ℤ z) × (z ≤ℤ (get_or ds n no_source).bounds.high)

-- ---- what is promised of two runs

-- "with equal input flags, equal known numbers and result buffers that are equal before the runs"
pub record SameKnown (x y : Lent) : Type 0 where
  pub flags : x.flags ≡ y.flags
  pub known_numbers : (p : ℕ) → p < length x.flags → get_or x.flags p 0 ≡ 1 → get_or x.values p (pos 0) ≡ get_or y.values p (pos 0)
  pub value_buffers : x.value_buffer ≡ y.value_buffer
  pub flag_buffers : x.flag_buffer ≡ y.flag_buffer

-- "the first ends with the same answer and the same result buffers as the second"; "Answers are the same when number, place and gap count
-- are."
pub record SameEnd (t : List ℤ) (x y : Lent) : Type 0 where
  pub numbers : (answer t x).number ≡ (answer t y).number
  pub places : (answer t x).place ≡ (answer t y).place
  pub gap_counts : (answer t x).count ≡ (answer t y).count
  pub value_buffers : values_then t x ≡ values_then t y
  pub flag_buffers : flags_then t x ≡ flags_then t y

-- ---- demand 3

pub record Demand3 : Type 0 where
  -- "Whatever numbers lie under the gaps, the run completes."
  pub completes : (t : List ℤ) (ds : List Derived) (x : Lent) → Proper t ds x → Completes t ds x
  -- "At every node"
  pub safe : (t : List ℤ) (ds : List Derived) (x : Lent) → Proper t ds x → (n : ℕ) → n < length ds → Safe t ds x n
  -- "Now take two such runs of one plan .. Whatever numbers lie under the gaps of either"
  pub blind : (t : List ℤ) (ds : List Derived) (x y : Lent) → Proper t ds x → Proper t ds y → SameKnown x y → SameEnd t x y
