-- Demand 1, of a run: "Bad input is refused with a number and a place fixed by the paper", and no other is. With demand 3: a run is accepted exactly when its
-- plan is and its input is proper.
use Rattle.std.specs.Prelude.{ℕ, ◌+◌, ◌<◌, ◌≤◌, ◌≡◌, ◌⊎◌, List, ℤ, pos, ◌≤ℤ◌, length, get_or}
use Rattle.plan.specs.Answers.{Refusal, accepted, refused}
use Rattle.rules.specs.Rules.{Derived}
use Rattle.verifier.specs.Check.{verdict, total_of}
use Rattle.cells.specs.Cells.{Field}
use Rattle.runner.specs.Inputs.{input_start, input_total}
use Rattle.runner.specs.Run.{fields_of}
use Rattle.guarantees.specs.Demand3.{Lent, ran, word, elements, Proper}

module _ (t : List ℤ) (ds : List Derived) (x : Lent) where
  -- "values .. and flags .. of all PARAMs end to end in node order": position p of the input is element e of PARAM n
  pub record Belongs (p n e : ℕ) : Type 0 where
    pub there : n < length ds
    pub param : word t n 0 ≡ pos 1
    pub inside : e < elements ds n
    pub place : p ≡ input_start t ds n + e

  -- the value at position p lies between words 7 and 8 of its PARAM
  abbrev pub WithinLimits : ℕ → Type 0
  WithinLimits p = (n e : ℕ) → Belongs p n e → (word t n 7 ≤ℤ get_or x.values p (pos 0)) × (get_or x.values p (pos 0) ≤ℤ word t n 8)

  -- neither 15 nor 16 is due at position p; a number whose flag is not 1 is never looked at
  abbrev pub Good : ℕ → Type 0
  Good p = ((get_or x.flags p 0 ≡ 0) ⊎ (get_or x.flags p 0 ≡ 1)) × (get_or x.flags p 0 ≡ 1 → WithinLimits p)

  -- "both lengths are the PARAM total"; "each result buffer has a place for every element of all nodes"
  abbrev pub RightLengths : Type 0
  RightLengths = (length x.values ≡ input_total t ds) × (length x.flags ≡ input_total t ds)

  abbrev pub Room : Type 0
  Room = (total_of ds ≤ length x.value_buffer) × (total_of ds ≤ length x.flag_buffer)

  -- "then 13, 14; then 15 and 16 at the first bad position, 15 before 16", of a plan that is accepted with records ds
  pub data RunRefuses : Refusal → Type 0 where
    -- "13: either input length is not the PARAM total"
    wrong_length : (RightLengths → ⊥) → RunRefuses (record { number = 13; place = 0 })
    -- "14: a buffer written to is too short"
    no_room : RightLengths → (Room → ⊥) → RunRefuses (record { number = 14; place = 0 })
    -- "15: flag neither 0 nor 1; position"
    bad_flag : {p : ℕ} → RightLengths → Room → p < input_total t ds → ((q : ℕ) → q < p → Good q) → (get_or x.flags p 0 ≡ 0 → ⊥) → (get_or x.flags p 0 ≡ 1 → ⊥)
        → RunRefuses (record { number = 15; place = p })
    -- "16: known number outside limits; position"
    bad_number : {p : ℕ} → RightLengths → Room → p < input_total t ds → ((q : ℕ) → q < p → Good q) → get_or x.flags p 0 ≡ 1 → (WithinLimits p → ⊥)
        → RunRefuses (record { number = 16; place = p })

pub record RunsExactly : Type 0 where
  -- the check's refusals come first
  pub check_first : (t : List ℤ) (x : Lent) (r : Refusal) → verdict t ≡ refused r → ran t x ≡ refused r
  -- then those of 13 to 16 that are due, and no others
  pub refused_when : (t : List ℤ) (ds : List Derived) (x : Lent) (r : Refusal) → verdict t ≡ accepted ds → (ran t x ≡ refused r → RunRefuses t ds x r) × (RunRefuses t ds x r → ran t x ≡ refused r)
  -- accepted exactly when the input is proper
  pub accepted_when : (t : List ℤ) (ds : List Derived) (x : Lent) → verdict t ≡ accepted ds
      → ((fs : List Field) → ran t x ≡ accepted fs → Proper t ds x) × (Proper t ds x → ran t x ≡ accepted (fields_of t ds x.values x.flags))
