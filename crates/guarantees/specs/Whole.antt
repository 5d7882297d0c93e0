-- From packed bytes to the field, in one statement: what the four calls do one after another, on bytes that the C call accepts.
use Rattle.std.specs.Prelude.{ℕ, ◌*◌, ◌<◌, ◌≤◌, ◌≡◌, List, ℤ, length, take}
use Rattle.codec.specs.Plans.{unpack, unpack_answer, table_after}
use Rattle.rules.specs.Rules.{Derived}
use Rattle.verifier.specs.Check.{check, check_answer, derived_after, unpack_check, code_of}
use Rattle.guarantees.specs.Demand3.{Lent, Proper, Completes, Safe, SameKnown, SameEnd}
use Rattle.guarantees.specs.Checks.{CheckWrites}
use Rattle.guarantees.specs.Acceptance.{Accepts}

-- the number that the C call answers for bytes s
abbrev pub code : List ℕ → ℕ
code s = code_of (unpack_check s)

-- bytes s, unpacked into the buffer `table` and checked into the buffer `derived`
pub record Whole (s : List ℕ) (table derived : List ℤ) : Type 0 where
  -- the plan that the bytes are, and its records
  pub plan : List ℤ
  pub records : List Derived
  pub meets : Accepts plan records
  pub counted : length records ≡ code s
  -- unpacking answers the node count and gives the plan
  pub unpacked : unpack_answer (unpack s (length table)) ≡ record { number = 0; place = 0; count = code s }
  pub table_is : take (17 * code s) (table_after (unpack s (length table)) table) ≡ plan
  -- the check accepts it and gives the records
  pub checked : check_answer (check plan (length derived)) ≡ record { number = 0; place = 0; count = 0 }
  pub derived_are : CheckWrites records derived (derived_after (check plan (length derived)) derived)
  -- "Whatever numbers lie under the gaps, the run completes", and nothing leaves its bounds
  pub runs : (x : Lent) → Proper plan records x → Completes plan records x × ((n : ℕ) → n < length records → Safe plan records x n)
  -- a second run that differs only under the gaps ends the same
  pub same : (x y : Lent) → Proper plan records x → Proper plan records y → SameKnown x y → SameEnd plan x y

-- for all bytes that the C call answers with a node count, and buffers with room for so many nodes
abbrev pub FromBytes : Type 0
FromBytes = (s : List ℕ) (table derived : List ℤ) → code s ≤ 256 → 17 * code s ≤ length table → 8 * code s ≤ length derived → Whole s table derived
