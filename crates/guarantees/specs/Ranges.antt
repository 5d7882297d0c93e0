-- 02 §2: "The range of i16 becomes −32767..32767, wherever a type's range is asked for." Two places ask for it. Rule 11 asks it of both ends of a node's bounds, so
-- of a CONST's number, a PARAM's limits, CAST and every result; Rules says that in numbers, both ways (Rule11). Demand 3 asks it of every known result (Demand3:
-- Safe); that is said in numbers here.
use Rattle.std.specs.Prelude.{ℕ, ◌<◌, ◌≤◌, ◌≡◌, List, ℤ, pos, negsuc, length, get_or}
use Rattle.plan.specs.declared.ElementNumber.{ElementNumber}
use Rattle.plan.specs.Types.{range_of}
use Rattle.plan.specs.Answers.{accepted, refused}
use Rattle.rules.specs.Rules.{Derived, no_source}
use Rattle.verifier.specs.Check.{verdict}
use Rattle.cells.specs.Cells.{known}
use Rattle.guarantees.specs.Demand3.{Lent, ran, word, result_at, Proper}
use Rattle.guarantees.specs.Rules.{Exactly, From, InType}
use Rattle.guarantees.specs.Runs.{Belongs, Good, RightLengths, Room}
use Rattle.guarantees.specs.Witnesses.{division, lend}

pub record RangesSay : Type 0 where
  -- the range that both ask for
  pub range : (dtype : ℕ) (z : ℤ) → dtype ≤ 3 → Exactly (From (range_of dtype).low (range_of dtype).high z) (InType dtype z)
  -- "no known result leaves its type"
  pub results : (t : List ℤ) (ds : List Derived) (x : Lent) → Proper t ds x → (n : ℕ) (e : ElementNumber) (z : ℤ) → n < length ds → result_at t ds x n e ≡ known z
      → InType (get_or ds n no_source).dtype z
  -- the run asks a known number for its PARAM's limits, which lie in the type: outside the type it is 16, where no position before it is bad
  pub outside : (t : List ℤ) (ds : List Derived) (x : Lent) → verdict t ≡ accepted ds → RightLengths t ds x → Room t ds x
      → (p n e dtype : ℕ) → Belongs t ds x p n e → word t n 4 ≡ pos dtype → ((q : ℕ) → q < p → Good t ds x q)
      → get_or x.flags p 0 ≡ 1 → (InType dtype (get_or x.values p (pos 0)) → ⊥) → ran t x ≡ refused (record { number = 16; place = p })
  -- "The buoys use −32768 for “no reading”.": it is no number of i16. Under a gap it is not bad (Runs: Good) and has no effect (Demand3: SameEnd).
  pub no_reading : InType 2 (negsuc 32767) → ⊥
  -- a run for which this is so: −32768, known, at an i16 PARAM
  pub example : ran division (lend (negsuc 32767) (pos 1) 1 1) ≡ refused (record { number = 16; place = 0 })
