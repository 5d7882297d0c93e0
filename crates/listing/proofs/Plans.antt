-- The text of a whole plan.
use Prim.Native.Nat.{ℕ, ◌*◌, ◌-◌, ◌≤◌, ◌<◌}
use mathlib.Core.Path.{◌≡◌, refl, ap, ◌∙◌}
use mathlib.Core.List.{List, [], map}
use native.Mathlib.Omega.{arith}
use borrow.Author.Tests.{le-leb, lt-leb}
use lib.IntN.{ℤ}
use lib.ListN.{length, take}
use lib.Seq.{sets, length-take-le}
use Rattle.plan.specs.Words.{node_count}
use Rattle.plan.specs.declared.faults.Refusal.{Refusal as Refused}
use Rattle.plan.specs.Answers.{Refusal, accepted, refused, refuse}
use Rattle.plan.specs.Coded.{fault_number}
use Rattle.codec.specs.Plans.{unpack}
use Rattle.codec.specs.Steps.{count_in, Stands}
use Rattle.rules.specs.declared.Record.{Record}
use Rattle.rules.specs.Code.{view_of}
use Rattle.verifier.specs.declared.Derivation.{Derivation}
use Rattle.verifier.specs.Check.{verdict, unpack_check}
use Rattle.verifier.specs.Verdicts.{records_of, Accepts, Breaks}
use Rattle.verifier.specs.Listing.{text_of, listing}
use Rattle.verifier.proofs.Accepted.{accepted_meets}
use Rattle.verifier.proofs.Ending.{counted}
use Rattle.verifier.proofs.Packed.{stop_is, words_are}
use Rattle.laws.specs.Pieces.{Writes}
use Rattle.listing.specs.Text.{checked_of, text_with}

-- a table that is refused, and one that is accepted
module _ (t : List ℤ) where
  pub refused_text : {e : Refused} → Breaks (verdict t) 256 e → text_of (refuse (fault_number e.fault) e.place) ≡ text_of (checked_of t)
  refused_text b = rw b.is_check refl

  module _ {d : Derivation} (a : Accepts (verdict t) 256 d) {rs : List Record} (e : rs ≡ take d.count d.records) where
    pub as_many : length rs ≡ d.count
    as_many = ap (λ (l : List Record). length l) e ∙ length-take-le d.count d.records (omega (arith, a.few, a.long))

    pub accepted_text : text_of (accepted (record { table = t; records = map view_of rs })) ≡ text_of (checked_of t)
    accepted_text = rw (e, a.is_check) refl

    pub in_table : 17 * length rs ≤ length t
    unfolding node_count
    in_table = omega (arith, as_many, counted t [] a, (accepted_meets t (records_of d) a.is_check).nodes.as_many)

-- a plan that cannot be read, and one that was read into a table
module _ (s : List ℕ) where
  pub stop_text : {x : Refusal} → refused x ≡ count_in (unpack s 4352) → text_of (refused x) ≡ text_of (unpack_check s)
  unfolding unpack_check
  stop_text q = rw (stop_is s q) refl

  pub nodes_text : {v : ℕ} → accepted v ≡ count_in (unpack s 4352) → (before table : List ℤ) → length before ≡ 4352 → Stands (unpack s 4352) before 0 table
      → text_of (checked_of (take (17 * v - 0) table)) ≡ text_of (unpack_check s)
  unfolding unpack_check
  nodes_text {v} q before table long h =
      let k = words_are s q before table long h in
      let all : 17 * v - 0 ≡ 17 * v = omega arith in
      rw (all, k.2, k.1) refl

-- the listing, without room for it and with it
module _ (s : List ℕ) (before : List ℕ) where
  abbrev pub Listed : List ℕ → ℕ → Type 0
  Listed after r = (r ≡ length (text_with s (length before))) × (after ≡ sets before 0 (text_with s (length before))) × (r ≤ 65536)

  pub no_room : length before < 65536 → Listed before 0
  unfolding text_with
  no_room h = rw (lt-leb 65536 (length before) h) (refl, refl, omega arith)

  pub with_room : (part : List ℕ) {after : List ℕ} {next : ℕ} → 65536 ≤ length before → part ≡ take 12288 s
      → Writes (text_of (unpack_check part)) 65536 before 0 after next → Listed after next
  unfolding text_with listing
  with_room part h e w =
      rw (le-leb 65536 (length before) h, ← e) (omega (arith, w.is_next), w.stands, omega (arith, w.is_next, w.short))
