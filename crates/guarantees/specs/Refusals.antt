-- Demand 1: "Bad input is refused with a number and a place .., and a refusal leaves the lent memory as it stood", for each call. "Every refusal gives its
-- number, a place (0 where none is named) and 0 for every count, and writes nothing."
use Rattle.std.specs.Prelude.{ℕ, ◌≡◌, List, ℤ, length}
use Rattle.plan.specs.declared.Answer.{Answer}
use Rattle.plan.specs.declared.NodeNumber.{NodeNumber}
use Rattle.plan.specs.declared.ElementNumber.{ElementNumber}
use Rattle.plan.specs.Answers.{Refusal, refused}
use Rattle.codec.specs.Plans.{unpack, unpack_answer, table_after}
use Rattle.packing.specs.Packing.{pack, pack_answer, bytes_after}
use Rattle.verifier.specs.Check.{check, check_answer, derived_after}
use Rattle.runner.specs.Run.{run, run_answer, values_after, flags_after}
use Rattle.lookup.specs.declared.Reply.{Reply}
use Rattle.lookup.specs.Following.{lookup, reply_of}

-- an answer that is a refusal: its number, its place, and 0 for its count
pub record Tells (r : Refusal) (a : Answer) : Type 0 where
  pub number : a.number ≡ r.number
  pub place : a.place ≡ r.place
  pub count : a.count ≡ 0

-- the same of a lookup's reply, which finds nothing
pub record TellsNothing (r : Refusal) (a : Reply) : Type 0 where
  pub number : a.number ≡ r.number
  pub place : a.place ≡ r.place
  pub found : a.found ≡ 0
  pub node : a.node ≡ 0
  pub element : a.element ≡ 0

pub record RefusalsKeep : Type 0 where
  pub of_unpack : (s : List ℕ) (table : List ℤ) (r : Refusal) → unpack s (length table) ≡ refused r
      → Tells r (unpack_answer (unpack s (length table))) × (table_after (unpack s (length table)) table ≡ table)
  pub of_pack : (t : List ℤ) (bytes : List ℕ) (r : Refusal) → pack t (length bytes) ≡ refused r
      → Tells r (pack_answer (pack t (length bytes))) × (bytes_after (pack t (length bytes)) bytes ≡ bytes)
  pub of_check : (t derived : List ℤ) (r : Refusal) → check t (length derived) ≡ refused r
      → Tells r (check_answer (check t (length derived))) × (derived_after (check t (length derived)) derived ≡ derived)
  pub of_run : (t values : List ℤ) (flags : List ℕ) (v : List ℤ) (f : List ℕ) (r : Refusal) → run t values flags (length v) (length f) ≡ refused r
      → Tells r (run_answer (run t values flags (length v) (length f)))
      × (values_after (run t values flags (length v) (length f)) v ≡ v) × (flags_after (run t values flags (length v) (length f)) f ≡ f)
  pub of_lookup : (t : List ℤ) (n : NodeNumber) (e : ElementNumber) (r : Refusal) → lookup t n e ≡ refused r → TellsNothing r (reply_of (lookup t n e))
