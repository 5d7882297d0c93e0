-- The words that a check writes.
use Prim.Native.Nat.{ℕ, zero, suc, ◌+◌, ◌*◌, ◌-◌, ◌≤◌, ◌<◌}
use mathlib.Core.Path.{◌≡◌, refl, sym, ap, ◌∙◌}
use mathlib.Core.Bool.{false, cond}
use mathlib.Core.List.{List, [], ◌∷◌, ◌++◌, map, map-append, append-nil, append_assoc}
use native.Mathlib.Omega.{arith}
use native.Mathlib.Numerals.{add-one}
use borrow.Author.Tests.{ne_eqb}
use mir.Syntax.{w64}
use mir.Val.{to_z}
use mir.Facts.{to_z_pos}
use lib.IntN.{ℤ, pos}
use lib.Dec.{eqb}
use lib.ListN.{length, replicate, get_or, take, drop, length-append}
use lib.Seq.{sets, sets-eq, length-sets, take-suc, drop-drop}
use Rattle.laws.specs.Lists.{concat}
use Rattle.laws.proofs.Lists.{concat_append}
use Rattle.laws.proofs.Machine.{read_back, read_back_is, small_fits}
use Rattle.plan.specs.declared.Interval.{Interval}
use Rattle.plan.specs.Answers.{Outcome, accepted, written}
use Rattle.laws.proofs.Pieces.{sets_more}
use borrow.Rule.Slice.PartMut.{put_mid}
use Rattle.bounds.specs.Narrow.{Held}
use Rattle.shapes.specs.Rows.{extents_of}
use Rattle.rules.specs.declared.Record.{Record}
use Rattle.rules.specs.Rules.{Derived}
use Rattle.verifier.specs.Check.{derived_words, derived_after}
use Rattle.rules.specs.Code.{view_of}

-- a word that is a natural number of 32 bits
pub word_is : {n : ℕ} → n < 4294967296 → to_z w64 n ≡ pos n
word_is h = to_z_pos w64 (omega arith)

-- the ends of an interval as the code reads them
module _ {i j : Interval} (e : i ≡ j) (h : Held i) where
  pub low_is : read_back i.low ≡ j.low
  low_is = read_back_is (small_fits h.low) ∙ ap (λ (k : Interval). k.low) e

  pub high_is : read_back i.high ≡ j.high
  high_is = read_back_is (small_fits h.high) ∙ ap (λ (k : Interval). k.high) e

-- ---- one record

abbrev after : ℕ → ℕ → ℕ
after before n = cond (eqb before 0) 0 n

no : (n : ℕ) → eqb (suc n) 0 ≡ false
no n = ne_eqb (suc n) 0 (λ e. omega arith)

zeros_past : (a b c d : ℕ) → map pos (extents_of (a ∷ b ∷ c ∷ d ∷ [])) ++ replicate (4 - length (extents_of (a ∷ b ∷ c ∷ d ∷ []))) (pos 0)
    ≡ pos a ∷ pos (after a b) ∷ pos (after (after a b) c) ∷ pos (after (after (after a b) c) d) ∷ []
unfolding extents_of
zeros_past zero b c d = refl
zeros_past (suc a) zero c d = rw (no a) refl
zeros_past (suc a) (suc b) zero d = rw (no a, no b) refl
zeros_past (suc a) (suc b) (suc c) zero = rw (no a, no b, no c) refl
zeros_past (suc a) (suc b) (suc c) (suc d) = rw (no a, no b, no c, no d) refl

module _ (r : Record) where
  eight : derived_words (view_of r) ≡ (pos r.dtype ∷ pos r.device ∷ r.bounds.low ∷ r.bounds.high ∷ [])
      ++ pos r.extents.n0 ∷ pos (after r.extents.n0 r.extents.n1) ∷ pos (after (after r.extents.n0 r.extents.n1) r.extents.n2)
      ∷ pos (after (after (after r.extents.n0 r.extents.n1) r.extents.n2) r.extents.n3) ∷ []
  unfolding derived_words
  eight =
      ap (λ (ws : List ℤ). pos r.dtype ∷ pos r.device ∷ r.bounds.low ∷ r.bounds.high ∷ ws)
      (zeros_past r.extents.n0 r.extents.n1 r.extents.n2 r.extents.n3)

  eight_long : length (derived_words (view_of r)) ≡ 8
  eight_long = rw eight refl

  -- the words as the code holds them
  pub eight_words : {a b c d n0 n1 n2 n3 : ℤ} {m1 m2 m3 : ℕ}
      → m1 ≡ after r.extents.n0 r.extents.n1 → m2 ≡ after m1 r.extents.n2 → m3 ≡ after m2 r.extents.n3
      → a ≡ pos r.dtype → b ≡ pos r.device → c ≡ r.bounds.low → d ≡ r.bounds.high
      → n0 ≡ pos r.extents.n0 → n1 ≡ pos m1 → n2 ≡ pos m2 → n3 ≡ pos m3
      → (a ∷ b ∷ c ∷ d ∷ n0 ∷ n1 ∷ n2 ∷ n3 ∷ []) ≡ derived_words (view_of r)
  eight_words f1 f2 f3 ea eb ec ed e0 e1 e2 e3 = rw (eight, ea, eb, ec, ed, e0, e1, e2, e3, f3, f2, f1) refl

-- eight words copied into a part of the buffer
pub part_written : (at : ℕ) (l : List ℤ) {ws new : List ℤ} → new ≡ ws → length ws ≡ 8 → at + 8 ≤ length l → put_mid at (at + 8 - at) l new ≡ sets l at ws
part_written at l {ws} e long room =
    let rest : drop (at + 8 - at) (drop at l) ≡ drop (at + length ws) l = drop-drop (at + 8 - at) at l ∙ ap (λ (n : ℕ). drop n l) (omega (arith, long)) in
    rw (e, rest) (sym (append_assoc (take at l) ws (drop (at + length ws) l)) ∙ sym (sets-eq ws l at (omega (arith, long))))

-- ---- records in turn

abbrev pub words_of_all : List Record → List ℤ
words_of_all rs = concat (map derived_words (map view_of rs))

module _ (rs : List Record) where
  all_snoc : (r : Record) → words_of_all (rs ++ r ∷ []) ≡ words_of_all rs ++ derived_words (view_of r)
  unfolding concat
  all_snoc r =
      rw (map-append view_of rs (r ∷ []), map-append derived_words (map view_of rs) (view_of r ∷ []), concat_append (map derived_words (map view_of rs)) (derived_words (view_of r) ∷ []), append-nil (derived_words (view_of r))) refl

pub all_long : (rs : List Record) → length (words_of_all rs) ≡ 8 * length rs
unfolding concat
all_long [] = refl
all_long (r ∷ rs) = length-append (derived_words (view_of r)) (words_of_all rs) ∙ omega (arith, eight_long r, all_long rs)

-- the words of i records stand in the buffer: at first none, then those of one more
pub none_yet : (l : List ℤ) (rs : List Record) → l ≡ sets l 0 (words_of_all (take 0 rs))
unfolding concat
none_yet l rs = refl

module _ (l : List ℤ) (rs : List Record) (i : ℕ) (few : i < length rs) (d : Record) where
  taken_long : length (take i rs) ≡ i → length (words_of_all (take i rs)) ≡ 8 * i
  taken_long e = all_long (take i rs) ∙ ap (λ (n : ℕ). 8 * n) e

  pub one_more : {mid end : List ℤ} → length (take i rs) ≡ i → mid ≡ sets l 0 (words_of_all (take i rs)) → end ≡ sets mid (8 * i) (derived_words (view_of (get_or rs i d)))
      → end ≡ sets l 0 (words_of_all (take (i + 1) rs))
  one_more e f g =
      let more : words_of_all (take (suc i) rs) ≡ words_of_all (take i rs) ++ derived_words (view_of (get_or rs i d)) = ap words_of_all (take-suc rs i d few) ∙ all_snoc (take i rs) (get_or rs i d) in
      sets_more l 0 (words_of_all (take i rs)) (derived_words (view_of (get_or rs i d))) f (omega (arith, taken_long e)) g ∙ rw (add-one, more) refl

pub kept : (mid : List ℤ) (at : ℕ) (vs : List ℤ) {end : List ℤ} {n : ℕ} → end ≡ sets mid at vs → length mid ≡ n → length end ≡ n
kept mid at vs e l = ap length e ∙ length-sets mid at vs ∙ l

-- what an accepted check leaves
pub leaves : {o : Outcome (List Derived)} (rs : List Record) (before : List ℤ) {end : List ℤ} → o ≡ accepted (map view_of rs) → 8 * length rs ≤ length before
    → end ≡ sets before 0 (words_of_all rs) → end ≡ derived_after o before
unfolding written
leaves rs before e fits h =
    let start : 0 + length (words_of_all rs) ≡ length (words_of_all rs) = omega arith in
    h ∙ sets-eq (words_of_all rs) before 0 (omega (arith, all_long rs)) ∙ rw (e, start) refl
