-- How the code holds the check of a plan.
use Rattle.std.specs.Prelude.{ℕ, ◌+◌, ◌*◌, ◌≤◌, ◌≡◌, List, map, ℤ, length, take, Result, Ok, Err, MatchResult}
use Rattle.plan.specs.declared.faults.Refusal.{Refusal as Refused}
use Rattle.plan.specs.Answers.{Outcome, accepted, refused}
use Rattle.plan.specs.Coded.{fault_number, refusal_of}
use Rattle.rules.specs.Rules.{Derived}
use Rattle.rules.specs.Code.{view_of}
use Rattle.verifier.specs.declared.Derivation.{Derivation}
use Rattle.verifier.specs.Check.{check_to, total_of, verdict}

-- what the code derived of the nodes
abbrev pub records_of : Derivation → List Derived
records_of d = map view_of (take d.count d.records)

-- d has the records that o accepts, at most so many, with the total of their elements
pub record Accepts (o : Outcome (List Derived)) (most : ℕ) (d : Derivation) : Type 0 where
  pub is_check : o ≡ accepted (records_of d)
  pub is_total : d.total ≡ total_of (records_of d)
  pub few : d.count ≤ most
  pub long : length d.records ≡ 256

-- e is the refusal that o is; its numbers are small
pub record Breaks (o : Outcome (List Derived)) (most : ℕ) (e : Refused) : Type 0 where
  pub is_check : o ≡ refused (refusal_of e)
  pub small : (fault_number e.fault ≤ 12) × (e.place ≤ most)

-- r is what the check of the first `count` nodes gives, and the total of their elements
abbrev pub Derives : List ℤ → ℕ → Result Derivation Refused → Type 0
Derives t count r = MatchResult r (Accepts (check_to t count) count) (Breaks (check_to t count) count)

-- r is the check of the plan, with the total of its elements; its numbers are small
abbrev pub Ends : List ℤ → Result Derivation Refused → Type 0
Ends t r = MatchResult r (Accepts (verdict t) 256) (Breaks (verdict t) 256)

-- "the node count or, refused, 65536 times the number plus the place"
abbrev pub code_in : Result Derivation Refused → ℕ
code_in (Ok d) = d.count
code_in (Err e) = 65536 * fault_number e.fault + e.place
