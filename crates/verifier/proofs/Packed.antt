-- A packed plan, unpacked and checked.
use Prim.Native.Nat.{ℕ, ◌+◌, ◌*◌, ◌-◌, ◌/◌, ◌≤◌}
use mathlib.Core.Path.{◌≡◌, refl, sym, ap, ◌∙◌}
use mathlib.Core.List.{List, []}
use Rattle.std.specs.Prelude.{Result, Ok, Err}
use native.Mathlib.Omega.{arith}
use lib.IntN.{ℤ}
use lib.ListN.{length, take}
use lib.Seq.{sets, sets-eq, length-sets, take_at}
use Rattle.plan.specs.Answers.{Refusal, Outcome, accepted, refused, and_then}
use Rattle.plan.proofs.Outcomes.{never_both, accepted_same, refused_same}
use Rattle.plan.specs.declared.faults.Refusal.{Refusal as Refused}
use Rattle.codec.specs.Plans.{Unpacked, unpack}
use Rattle.codec.specs.Steps.{count_in, Stands}
use Rattle.codec.proofs.Limits.{unpack_count, unpack_place}
use Rattle.verifier.specs.declared.Derivation.{Derivation}
use Rattle.verifier.specs.Check.{verdict, unpack_check, code_of}
use Rattle.verifier.specs.Verdicts.{Ends, code_in}
use Rattle.verifier.proofs.Ending.{counted}

-- the outcome behind the reader's answer
stopped : (o : Outcome Unpacked) {x : Refusal} → refused x ≡ count_in o → o ≡ refused x
stopped (refused s) e = ap refused (sym (refused_same e))
stopped (accepted u) e = never_both (sym e)

found : (o : Outcome Unpacked) {v : ℕ} → accepted v ≡ count_in o → (u : Unpacked) × (o ≡ accepted u) × (length u.words / 17 ≡ v)
found (accepted u) e = (u, refl, sym (accepted_same e))
found (refused s) e = never_both e

-- the check of a table that was read
module _ (t : List ℤ) where
  code_is : (w : Result Derivation Refused) → Ends t w → code_of (and_then (verdict t) (λ ds. accepted (record { table = t; records = ds }))) ≡ code_in w
  code_is (Ok d) a = rw a.is_check (counted t [] a)
  code_is (Err e) b = rw b.is_check refl

module _ (s : List ℕ) where
  module _ {x : Refusal} (q : refused x ≡ count_in (unpack s 4352)) where
    pub stop_is : unpack s 4352 ≡ refused x
    stop_is = stopped (unpack s 4352) q

    pub stop_place : x.place ≤ length s
    stop_place = (unpack_place s 4352 stop_is).1

    pub stop_code : 65536 * x.number + x.place ≡ code_of (unpack_check s)
    unfolding unpack_check
    stop_code = rw stop_is refl

  module _ {v : ℕ} (q : accepted v ≡ count_in (unpack s 4352)) where
    pub few_nodes : v ≤ 256
    few_nodes = let f = found (unpack s 4352) q in let k = unpack_count s 4352 f.1 in omega (arith, f.2, k.nodes, k.high)

    module _ (before table : List ℤ) (long : length before ≡ 4352) (h : Stands (unpack s 4352) before 0 table) where
      pub words_are : (u : Unpacked) × (unpack s 4352 ≡ accepted u) × (take (17 * v) table ≡ u.words)
      unfolding Stands
      words_are =
          let f = found (unpack s 4352) q in
          let u = f.0 in
          let k = unpack_count s 4352 f.1 in
          let stands : table ≡ sets before 0 u.words = rw f.1 at h in
          let count : length u.words ≡ 17 * v = omega (arith, f.2, k.nodes, k.long) in
          (u, f.1, rw (stands, sets-eq u.words before 0 (omega (arith, count, long, few_nodes))) (take_at u.words _ (17 * v) count))

      pub room : 17 * v ≤ length table
      unfolding Stands
      room =
          let f = found (unpack s 4352) q in
          let stands : table ≡ sets before 0 f.0.words = rw f.1 at h in
          let same : length table ≡ length before = ap length stands ∙ length-sets before 0 f.0.words in
          omega (arith, same, long, few_nodes)

      -- the part of the table that is checked, as the code takes it
      pub nodes_code : (w : Result Derivation Refused) {c : ℕ} → Ends (take (17 * v - 0) table) w → c ≡ code_in w → c ≡ code_of (unpack_check s)
      unfolding unpack_check
      nodes_code w {c} d ec =
          let k = words_are in
          let all : 17 * v - 0 ≡ 17 * v = omega arith in
          let plan : Ends k.0.words w = rw (all, k.2) at d in
          ec ∙ sym (code_is k.0.words w plan) ∙ rw k.1 refl
