-- Words that stand in a table, one piece after another.
use Prim.Native.Nat.{ℕ, suc, ◌+◌, ◌<◌}
use mathlib.Core.Path.{◌≡◌, refl, sym, ap, ◌∙◌}
use mathlib.Core.List.{List, [], ◌∷◌, ◌++◌}
use native.Mathlib.Nat.{not-suc-le-zero}
use native.Mathlib.Numerals.{add-one}
use lib.ListN.{length, set}
use lib.Seq.{sets, set-set}
use lib.IntN.{ℤ}
use Rattle.laws.proofs.Pieces.{sets_more}
use Rattle.std.specs.Prelude.{Result, Ok, Err, IsErrAnd}
use Rattle.std.proofs.lemmas.Result.{err_from_is_err_and}
use Rattle.plan.specs.declared.faults.Refusal.{Refusal as Refused}
use Rattle.plan.specs.Answers.{Outcome, accepted, refused, and_then, in_turn}
use Rattle.plan.specs.Coded.{refusal_of, outcome_of}
use Rattle.plan.proofs.Outcomes.{never_both, accepted_same, refused_same, turn_more, turn_stays}
use Rattle.codec.specs.Plans.{Unpacked}
use Rattle.codec.specs.Steps.{Stands, Wrote}

-- values over one that was written before
pub sets_over : (l : List ℤ) (i : ℕ) (a : ℤ) (vs : List ℤ) → 0 < length vs → sets (set l i a) i vs ≡ sets l i vs
sets_over l i a [] h = absurd (not-suc-le-zero h)
sets_over l i a (v ∷ vs) h = rw set-set

-- the words of one piece after those of another
abbrev pub appended : Unpacked → Outcome Unpacked → Outcome Unpacked
appended u o = and_then o (λ more. accepted (record { words = u.words ++ more.words; next = more.next }))

-- what was read up to position `at` stands in the table from place `to` on
pub record SoFar (o : Outcome Unpacked) (at : ℕ) (before : List ℤ) (to : ℕ) (after : List ℤ) : Type 0 where
  pub found : Unpacked
  pub read : o ≡ accepted found
  pub next : found.next ≡ at
  pub stands : after ≡ sets before to found.words

pub all_read : {o : Outcome Unpacked} {at to : ℕ} {before after : List ℤ} → SoFar o at before to after → Wrote o (Ok at) before to after
unfolding Stands
all_read h = record { answer = rw (h.read, h.next) refl; table = rw h.read h.stands }

-- a refusal that is handed on
pub refusal_is : {A B : Type 0} (view : B → A) (x : Refused) (r : Result B Refused) → IsErrAnd r (λ y. y ≡ x) → outcome_of view r ≡ refused (refusal_of x)
refusal_is view x r i = let p = err_from_is_err_and r i in rw (p.1, p.2) refl

-- the outcome behind an answer
module _ {to : ℕ} {before after : List ℤ} where
  pub next_is : {at : ℕ} (o : Outcome Unpacked) → Wrote o (Ok at) before to after → SoFar o at before to after
  unfolding Stands
  next_is (accepted u) w = record { found = u; read = refl; next = sym (accepted_same w.answer); stands = w.table }
  next_is (refused r) w = never_both w.answer

  pub stop_is : {r : Refused} (o : Outcome Unpacked) → Wrote o (Err r) before to after → o ≡ refused (refusal_of r)
  stop_is (refused x) w = ap refused (sym (refused_same w.answer))
  stop_is (accepted u) w = never_both (sym w.answer)

  pub stopped : {o : Outcome Unpacked} {r : Refused} → o ≡ refused (refusal_of r) → Wrote o (Err r) before to after
  unfolding Stands
  stopped e = record { answer = rw e refl; table = rw e tt }

  pub handed_on : {o : Outcome Unpacked} (x : Refused) (r : Result ℕ Refused) → IsErrAnd r (λ y. y ≡ x) → o ≡ refused (refusal_of x) → Wrote o r before to after
  unfolding Stands
  handed_on x r i e = record { answer = refusal_is (λ n. n) x r i ∙ rw e refl; table = rw e tt }

-- a loop begins
pub begun : (step : ℕ → Unpacked → Outcome Unpacked) (start : Unpacked) {to : ℕ} {before after : List ℤ} → after ≡ sets before to start.words
    → SoFar (in_turn step start 0) start.next before to after
unfolding in_turn
begun step start e = record { found = start; read = refl; next = refl; stands = e }

-- one turn of a loop, each of whose steps reads a piece f
module _ (step : ℕ → Unpacked → Outcome Unpacked) (start : Unpacked) (k : ℕ) {at to : ℕ} {before mid : List ℤ}
    (h : SoFar (in_turn step start k) at before to mid) (f : ℕ → Outcome Unpacked) (adds : (u : Unpacked) → step k u ≡ appended u (f u.next)) where
  turned : in_turn step start (suc k) ≡ appended h.found (f at)
  turned = turn_more step start k h.read ∙ adds h.found ∙ rw h.next

  pub turn_reads : {place next : ℕ} {after : List ℤ} → Wrote (f at) (Ok next) mid place after → place ≡ to + length h.found.words → SoFar (in_turn step start (k + 1)) next before to after
  turn_reads w q =
      let m = next_is (f at) w in
      record {
        found = record { words = h.found.words ++ m.found.words; next = m.found.next };
        read = rw add-one (turned ∙ ap (appended h.found) m.read);
        next = m.next;
        stands = sets_more before to h.found.words m.found.words h.stands q m.stands;
      }

  pub turn_stops : {place m : ℕ} {r : Refused} {after : List ℤ} → Wrote (f at) (Err r) mid place after → k < m → in_turn step start m ≡ refused (refusal_of r)
  turn_stops {m = m} w l = turn_stays step start (suc k) m l (turned ∙ rw (stop_is (f at) w))
