-- Packed plans are short, their first bytes decide, and the C call's numbers can be told apart.
use Prim.Native.Nat.{ℕ, ◌≤◌, ◌<◌}
use mathlib.Core.Path.{◌≡◌, refl, subst}
use mathlib.Core.List.{List}
use native.Mathlib.Omega.{arith}
use borrow.Author.Tests.{ltb-true, ltb-false}
use lib.IntN.{ℤ}
use lib.Dec.{ltb}
use lib.ListN.{length, take}
use lib.Seq.{get_or-take, length-take-le, take_all}
use Rattle.laws.proofs.Booleans.{bool_cases}
use Rattle.plan.specs.Answers.{Outcome, accepted, refused}
use Rattle.codec.specs.Plans.{unpack}
use Rattle.codec.proofs.Bounds.{Holds, holds_then}
use Rattle.codec.proofs.Prefix.{PlacedTo, Whole, plan_limit, place_limit, plan_ends, plan_same}
use Rattle.rules.specs.Rules.{Derived}
use Rattle.verifier.specs.Check.{verdict, Checked, unpack_check}
use Rattle.verifier.specs.Listing.{text_of, read_limit, listing}
use Rattle.verifier.proofs.Accepted.{accepted_meets, refused_because}
use Rattle.verifier.proofs.Numbers.{Several, few_nodes, refusal_numbered}
use Rattle.guarantees.specs.Packed.{PlansAreShort, FirstBytesDecide, ToldApart}

pub plans_are_short : PlansAreShort
plans_are_short s room u e =
    let h = subst (Holds (Whole s plan_limit) (PlacedTo place_limit)) e (plan_ends s room) in
    omega (arith, h.0, h.1)

-- ---- the first bytes

-- more bytes than are read: the same first ones; no more: all of them
first_bytes : (s : List ℕ) (room : ℕ) → unpack (take read_limit s) room ≡ unpack s room
first_bytes s room =
    bool_cases (ltb read_limit (length s))
    (λ b.
    let more : read_limit < length s = ltb-true read_limit (length s) b in
    let long : length (take read_limit s) ≡ read_limit = length-take-le read_limit s (omega arith) in
    plan_same (record { first = omega arith; second = omega arith; same = λ i h. get_or-take read_limit s i 0 (omega arith) }) room)
    (λ b. let all : length s ≤ read_limit = ltb-false read_limit (length s) b in rw (take_all read_limit s all) refl)

first_check : (s : List ℕ) → unpack_check (take read_limit s) ≡ unpack_check s
unfolding unpack_check
first_check s = rw (first_bytes s 4352) refl

first_listing : (s : List ℕ) → listing s ≡ text_of (unpack_check s)
unfolding listing
first_listing s = rw (first_check s) refl

pub first_bytes_decide : FirstBytesDecide
first_bytes_decide = record { of_check = first_check; of_listing = first_listing }

-- ---- the answer

-- the records of 1 to 256 nodes
abbrev Records : List Derived → Type 0
Records ds = Several (length ds)

check_placed : (t : List ℤ) → Holds Records (PlacedTo place_limit) (verdict t)
check_placed t = by (verdict t) refl
  where
    by : (o : Outcome (List Derived)) → verdict t ≡ o → Holds Records (PlacedTo place_limit) o
    by (accepted ds) e = let m = accepted_meets t ds e in rw m.nodes.as_many (few_nodes t m.length_right)
    by (refused r) e = let q = refusal_numbered t r (refused_because t r e) in (q.0.0, omega (arith, q.1))

-- such records, or a refusal with a number and a place
abbrev Answered : Outcome Checked → Type 0
Answered = Holds (λ (p : Checked). Records p.records) (PlacedTo place_limit)

answered : (s : List ℕ) → Answered (unpack_check s)
unfolding unpack_check
answered s =
    let P : Checked → Type 0 = λ p. Records p.records in
    holds_then (Whole s plan_limit) P (PlacedTo place_limit) (unpack s 4352) _ (plan_ends s 4352)
    (λ u _. holds_then Records P (PlacedTo place_limit) (verdict u.words) (λ ds. accepted (record { table = u.words; records = ds })) (check_placed u.words) (λ ds h. h))

pub told_apart : ToldApart
told_apart =
    record {
      of_accepted = λ s p e. rw e (subst Answered e (answered s));
      of_refused = λ s r e. let h = subst Answered e (answered s) in rw e (omega (arith, h.1), h.0, omega (arith, h.1), omega (arith, h.1));
    }
