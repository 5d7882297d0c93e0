-- The check's refusals, and the words that it writes.
use Prim.Native.Nat.{ℕ, zero, suc, ◌+◌, ◌*◌, ◌-◌, ◌<◌, ◌≤◌}
use mathlib.Core.Path.{◌≡◌, refl, ap, sym, ◌∙◌}
use mathlib.Core.List.{List, [], ◌∷◌, map}
use native.Mathlib.Omega.{arith}
use borrow.Author.Tests.{leb-true, leb-false, le-leb, lt-leb}
use lib.IntN.{ℤ, pos}
use lib.Dec.{leb}
use lib.ListN.{length, get_or, take, replicate, length-append, length-map, length-replicate, get_or-replicate, get_or-append}
use lib.Seq.{get_or-append-add}
use Rattle.laws.specs.Lists.{concat}
use Rattle.laws.proofs.Lists.{concat_at, get_or_map}
use Rattle.laws.proofs.Booleans.{bool_cases}
use Rattle.plan.specs.Words.{node_count}
use Rattle.plan.specs.Answers.{Refusal, Outcome, accepted, refused, refuse, written}
use Rattle.plan.proofs.Outcomes.{never_both, accepted_same, need_accepted, then_accepted}
use Rattle.rules.specs.Rules.{Derived, no_source}
use Rattle.verifier.specs.Check.{verdict, derived_words, check, derived_after}
use Rattle.verifier.proofs.Accepted.{accepted_meets}
use Rattle.verifier.proofs.Nodes.{extents_at_lem}
use Rattle.guarantees.specs.Checks.{RecordWords, CheckWrites, ChecksExactly}
use Rattle.guarantees.proofs.Buffers.{written_at, written_past, written_length}

-- ---- the words of one record

four_more : (k : ℕ) → 4 + k ≡ suc (suc (suc (suc k)))
four_more k = omega arith

module _ (d : Derived) (ranked : length d.extents ≤ 4) where
  eight : length (derived_words d) ≡ 8
  unfolding derived_words
  eight = omega (arith, length-append (map pos d.extents) (replicate (4 - length d.extents) (pos 0)), length-map d.extents pos, length-replicate (4 - length d.extents) (pos 0))

  -- word 4 + k
  extent_word : (k : ℕ) → k < length d.extents → get_or (derived_words d) (4 + k) (pos 0) ≡ pos (get_or d.extents k 1)
  unfolding derived_words
  extent_word k h = rw (four_more k)
      (get_or-append (map pos d.extents) (replicate (4 - length d.extents) (pos 0)) (pos 0) k (rw (length-map d.extents pos) h) ∙ get_or_map pos d.extents k (pos 0) 1 h)

  zero_word : (k : ℕ) → length d.extents ≤ k → k < 4 → get_or (derived_words d) (4 + k) (pos 0) ≡ pos 0
  unfolding derived_words
  zero_word k l h =
      let j = k - length d.extents in
      let z : k ≡ length (map pos d.extents) + j = omega (arith, length-map d.extents pos) in
      rw (four_more k, z) (get_or-append-add (map pos d.extents) (replicate (4 - length d.extents) (pos 0)) j (pos 0) ∙ get_or-replicate (4 - length d.extents) j (pos 0) (pos 0) (omega arith))

-- ---- the words of all

abbrev Ranked : List Derived → Type 0
Ranked ds = (n : ℕ) → n < length ds → length (get_or ds n no_source).extents ≤ 4

front_long : (ds : List Derived) → Ranked ds → (n : ℕ) → n ≤ length ds → length (concat (take n (map derived_words ds))) ≡ 8 * n
unfolding concat
front_long ds r zero h = refl
front_long [] r (suc n) h = absurd (omega arith)
front_long (d ∷ ds) r (suc n) h =
    omega (arith, length-append (derived_words d) (concat (take n (map derived_words ds))), eight d (r 0 (omega arith)), front_long ds (λ k l. r (suc k) (omega arith)) n (omega arith))

whole_long : (ds : List Derived) → Ranked ds → length (concat (map derived_words ds)) ≡ 8 * length ds
unfolding concat
whole_long [] r = refl
whole_long (d ∷ ds) r = omega (arith, length-append (derived_words d) (concat (map derived_words ds)), eight d (r 0 (omega arith)), whole_long ds (λ k l. r (suc k) (omega arith)))

module _ (ds : List Derived) (r : Ranked ds) (before : List ℤ) (n : ℕ) (h : n < length ds) where
  -- word k of record n
  at : (k : ℕ) → k < 8 → get_or (concat (map derived_words ds)) (8 * n + k) (pos 0) ≡ get_or (derived_words (get_or ds n no_source)) k (pos 0)
  at k l =
      let here : get_or (map derived_words ds) n [] ≡ derived_words (get_or ds n no_source) = get_or_map derived_words ds n [] no_source h in
      rw (← (front_long ds r n (omega arith))) (concat_at (map derived_words ds) n k (pos 0) (rw here (omega (arith, eight (get_or ds n no_source) (r n h)))) ∙ rw here refl)

  -- as it stands in the buffer
  stands : (k : ℕ) → k < 8 → get_or (written (concat (map derived_words ds)) before) (8 * n + k) (pos 0) ≡ get_or (derived_words (get_or ds n no_source)) k (pos 0)
  stands k l = written_at (concat (map derived_words ds)) before (8 * n + k) (pos 0) (omega (arith, whole_long ds r)) ∙ at k l

  record_words : RecordWords (get_or ds n no_source) (written (concat (map derived_words ds)) before) n
  unfolding derived_words
  record_words =
      let zero : 8 * n ≡ 8 * n + 0 = omega arith in
      record {
        dtype = rw zero (stands 0 (omega arith));
        device = stands 1 (omega arith);
        low = stands 2 (omega arith);
        high = stands 3 (omega arith);
        extents = λ k l. let z : 8 * n + 4 + k ≡ 8 * n + (4 + k) = omega arith in rw z (stands (4 + k) (omega (arith, r n h)) ∙ extent_word (get_or ds n no_source) (r n h) k l);
        zeros = λ k l g. let z : 8 * n + 4 + k ≡ 8 * n + (4 + k) = omega arith in rw z (stands (4 + k) (omega arith) ∙ zero_word (get_or ds n no_source) (r n h) k l g);
      }

-- ---- the call

module _ (t : List ℤ) (ds : List Derived) (room : ℕ) where
  accepted_both : check t room ≡ accepted ds → (verdict t ≡ accepted ds) × (8 * length ds ≤ room)
  unfolding check
  accepted_both e =
      let a = then_accepted (verdict t) _ e in
      let b = need_accepted (leb (8 * length a.0) room) 14 0 (accepted a.0) a.2 in
      let q : a.0 ≡ ds = accepted_same b.1 in
      (a.1 ∙ ap {B = Outcome (List Derived)} accepted q, rw q at (leb-true (8 * length a.0) room b.0))

  both_accepted : (verdict t ≡ accepted ds) × (8 * length ds ≤ room) → check t room ≡ accepted ds
  unfolding check
  both_accepted w = rw (w.0, le-leb (8 * length ds) room w.1) refl

  module _ (v : verdict t ≡ accepted ds) where
    short : room < 8 * length ds → check t room ≡ refuse 14 0
    unfolding check
    short h = rw (v, lt-leb (8 * length ds) room h) refl

    only_short : check t room ≡ refuse 14 0 → room < 8 * length ds
    only_short e = bool_cases (leb (8 * length ds) room) (λ l. never_both (sym (both_accepted (v, leb-true _ room l)) ∙ e)) (λ l. leb-false _ room l)

ranks : (t : List ℤ) (ds : List Derived) → verdict t ≡ accepted ds → Ranked ds
ranks t ds v n h =
    let m = accepted_meets t ds v in
    (extents_at_lem t (node_count t) ds m.nodes n (rw m.nodes.as_many at h)).ranked

leaves : (t derived : List ℤ) (ds : List Derived) → check t (length derived) ≡ accepted ds → CheckWrites ds derived (derived_after (check t (length derived)) derived)
leaves t derived ds e =
    let w = accepted_both t ds (length derived) e in
    let r = ranks t ds w.0 in
    rw e
    (record {
      each = record_words ds r derived;
      past = written_past (concat (map derived_words ds)) derived (8 * length ds) (whole_long ds r);
      as_long = written_length (concat (map derived_words ds)) derived (omega (arith, whole_long ds r, w.1));
    })

refused_first : (t : List ℤ) (room : ℕ) (r : Refusal) → verdict t ≡ refused r → check t room ≡ refused r
unfolding check
refused_first t room r v = rw v refl

pub checks_exactly : ChecksExactly
checks_exactly =
    record {
      refused_when = refused_first;
      no_room = λ t ds room v. (only_short t ds room v, short t ds room v);
      accepted_when = λ t ds room. (accepted_both t ds room, both_accepted t ds room);
      answers = λ t derived ds e. rw e refl;
      writes = leaves;
    }
