-- "Packed plans": how long one is, which bytes decide the answer, and that the C call's number says what happened.
use Rattle.std.specs.Prelude.{ℕ, ◌/◌, ◌%◌, ◌≤◌, ◌<◌, ◌≡◌, List, length, take}
use Rattle.plan.specs.Answers.{Refusal, accepted, refused}
use Rattle.codec.specs.Plans.{Unpacked, unpack}
use Rattle.verifier.specs.Check.{Checked, unpack_check, code_of}
use Rattle.verifier.specs.Listing.{text_of, read_limit, listing}

-- "256 nodes take at most 11778"
abbrev pub PlansAreShort : Type 0
PlansAreShort = (s : List ℕ) (room : ℕ) (u : Unpacked) → unpack s room ≡ accepted u → length s ≤ 11778

-- "reads up to 12288 bytes on standard input and lists; .. so later bytes can't alter the answer"
pub record FirstBytesDecide : Type 0 where
  pub of_check : (s : List ℕ) → unpack_check (take read_limit s) ≡ unpack_check s
  pub of_listing : (s : List ℕ) → listing s ≡ text_of (unpack_check s)

-- "the answer is the node count or, refused, 65536 times the number plus the place": a count is 1..256, so below any refusal's answer, and
-- a refusal's number and place are read back by division
pub record ToldApart : Type 0 where
  pub of_accepted : (s : List ℕ) (p : Checked) → unpack_check s ≡ accepted p → (1 ≤ code_of (unpack_check s)) × (code_of (unpack_check s) ≤ 256)
  pub of_refused : (s : List ℕ) (r : Refusal) → unpack_check s ≡ refused r
      → (r.place < 65536) × (1 ≤ r.number) × (code_of (unpack_check s) / 65536 ≡ r.number) × (code_of (unpack_check s) % 65536 ≡ r.place)
