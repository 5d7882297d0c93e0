-- Numbers and words as they are written: one law for each way through a function.
use Prim.Native.Nat.{ℕ, zero, suc, ◌+◌, ◌*◌, ◌-◌, ◌/◌, ◌%◌, ◌^◌, ◌<◌, ◌≤◌}
use mathlib.Core.Path.{◌≡◌, refl, sym, ap, ◌∙◌}
use mathlib.Core.Bool.{Bool, true, false, cond}
use mathlib.Core.List.{List, [], ◌∷◌, ◌++◌, append_assoc, append-nil}
use native.Mathlib.Nat.{pow-succ', add-zero, add-suc, eq-or-lt_of_le}
use mathlib.Core.Logic.{⊎_elim}
use native.Mathlib.Numerals.{add-one, sub-one}
use native.Mathlib.Omega.{arith}
use borrow.Author.Tests.{ltb-true, ltb-false, leb-true, leb-false}
use Rattle.std.proofs.Math.Nat.{div-lt_iff_lt-mul}
use Rattle.std.proofs.lemmas.Nat.{pow_pos, pow_below}
use lib.Dec.{ltb, leb}
use lib.IntN.{ℤ, pos, negsuc, ◌-ℤ◌, nat_abs}
use lib.ListN.{length, get_or, set, length-append}
use lib.Signed.{mag, lt_z}
use mir.Syntax.{w64}
use mir.Val.{SFits, Fits}
use Rattle.laws.specs.Lists.{all_below}
use Rattle.laws.proofs.Booleans.{bool_cases, all_below_lem}
use Rattle.laws.proofs.Machine.{read_back, read_back_is, read_below, flip_is}
use Rattle.packing.specs.Bytes.{groups_of, bytes_of, packed_word}
use Rattle.laws.specs.Pieces.{Writes}
use Rattle.packing.specs.Writing.{word_bytes}
use Rattle.packing.specs.Packing.{words_to, node_bytes}
use Rattle.plan.specs.Operations.{uses, mask_of, masks, operation_count}
use Rattle.plan.proofs.Masks.{mask_last, mask_low}
use Rattle.plan.specs.Words.{word_at, size_at}
use Rattle.codec.proofs.Prefix.{used, few_used}
use Rattle.packing.proofs.NumbersBack.{one_group, next_group}
use Rattle.laws.proofs.Pieces.{nothing, within, then, said, same_room, room_left}

-- ---- groups

-- some groups of m, of k that may come, stand from place `at` on; `left` more may come, and `rest` is what they are of
pub record Put (k m : ℕ) (before : List ℕ) (at : ℕ) (now : List ℕ) (rest to left : ℕ) : Type 0 where
  pub done : List ℕ
  pub wrote : Writes done (length done) before at now to
  pub so_far : done ++ groups_of left rest ≡ groups_of k m
  pub many : length done + left ≡ k

one_byte : (l : List ℕ) (at v : ℕ) → Writes (v ∷ []) 1 l at (set l at v) (at + 1)
one_byte l at v = record { stands = refl; is_next = refl; short = omega arith }

pub put_none : (k m : ℕ) (before : List ℕ) (at : ℕ) → Put k m before at before m at k
put_none k m before at = record { done = []; wrote = nothing before at; so_far = refl; many = omega arith }

module _ {k m : ℕ} {before now : List ℕ} {at rest to left : ℕ} (p : Put k m before at now rest to left) where
  pub put_last : {v : ℕ} → 0 < left → rest < 128 → v ≡ rest → Writes (groups_of k m) k before at (set now to v) (to + 1)
  put_last {v} some h e = by left some p.so_far p.many
    where
      by : (left : ℕ) → 0 < left → p.done ++ groups_of left rest ≡ groups_of k m → length p.done + left ≡ k → Writes (groups_of k m) k before at (set now to v) (to + 1)
      by zero s q n = absurd (omega arith)
      by (suc j) s q n =
          let is : p.done ++ v ∷ [] ≡ groups_of k m = rw (e, ← one_group j rest h) q in
          said is (within k (then p.wrote (one_byte now to v)) (omega (arith, n)))

  pub put_more : {v : ℕ} → 0 < left → 128 ≤ rest → v ≡ rest % 128 + 128 → Put k m before at (set now to v) (rest / 128) (to + 1) (left - 1)
  put_more {v} some h e = by left some p.so_far p.many
    where
      by : (left : ℕ) → 0 < left → p.done ++ groups_of left rest ≡ groups_of k m → length p.done + left ≡ k → Put k m before at (set now to v) (rest / 128) (to + 1) (left - 1)
      by zero s q n = absurd (omega arith)
      by (suc j) s q n =
          let long : length (p.done ++ v ∷ []) ≡ length p.done + 1 = length-append p.done (v ∷ []) in
          let is : (p.done ++ v ∷ []) ++ groups_of j (rest / 128) ≡ groups_of k m = append_assoc p.done (v ∷ []) (groups_of j (rest / 128)) ∙ rw (e, ← next_group j rest h) q in
          record {
            done = p.done ++ v ∷ [];
            wrote = within (length (p.done ++ v ∷ [])) (then p.wrote (one_byte now to v)) (omega (arith, long));
            so_far = rw sub-one is;
            many = rw sub-one (omega (arith, long, n));
          }

  pub put_all : left ≡ 0 → Writes (groups_of k m) k before at now to
  unfolding groups_of
  put_all z =
      let is : p.done ≡ groups_of k m = sym (append-nil p.done) ∙ (rw z at p.so_far) in
      said is (within k p.wrote (omega (arith, p.many)))

-- as many groups as serve
pub groups_enough : (j k m : ℕ) → 0 < j → j ≤ k → m < 128 ^ j → groups_of k m ≡ groups_of j m
groups_enough zero k m z l h = absurd (omega arith)
groups_enough (suc j) zero m z l h = absurd (omega arith)
groups_enough (suc j) (suc k) m z l h = bool_cases (ltb m 128) last (λ e. more e (λ s q. groups_enough j k (m / 128) s (omega arith) q))
  where
    last : ltb m 128 ≡ true → groups_of (suc k) m ≡ groups_of (suc j) m
    last e = one_group k m (ltb-true m 128 e) ∙ sym (one_group j m (ltb-true m 128 e))

    some : (j : ℕ) → m / 128 < 128 ^ j → 128 ≤ m → 0 < j
    some zero q l = absurd (omega arith)
    some (suc i) q l = omega arith

    more : ltb m 128 ≡ false → (0 < j → m / 128 < 128 ^ j → groups_of k (m / 128) ≡ groups_of j (m / 128)) → groups_of (suc k) m ≡ groups_of (suc j) m
    more e again =
        let large : 128 ≤ m = ltb-false m 128 e in
        let less : m / 128 < 128 ^ j = omega (arith, pow-succ' 128 j) in
        next_group k m large ∙ rw (again (some j less large) less) (sym (next_group j m large))

-- ---- words

below_packed : (z : ℤ) → lt_z z (pos 0) ≡ true → 2 * mag z + 1 ≡ packed_word z
unfolding packed_word
below_packed (pos n) h = absurd (omega (arith, ltb-true n 0 h))
below_packed (negsuc n) h = refl

from_packed : (z : ℤ) → lt_z z (pos 0) ≡ false → 2 * nat_abs z ≡ packed_word z
unfolding packed_word
from_packed (pos n) h = refl
from_packed (negsuc n) h = let e : ◌≡◌ {A = ℕ} 0 1 = cc in absurd (omega arith)

module _ {z : ℤ} (f : SFits w64 z) where
  -- -1 - z of a number below 0, as the code computes it
  module _ (h : lt_z (read_back z) (pos 0) ≡ true) where
    pub flip_twice : Fits w64 (2 * nat_abs (read_back (negsuc 0 -ℤ read_back z)))
    flip_twice = rw (flip_is f h) (record { fits = omega (arith, f.sfits) })

    pub flip_next : Fits w64 (2 * nat_abs (read_back (negsuc 0 -ℤ read_back z)) + 1)
    flip_next = rw (flip_is f h) (record { fits = omega (arith, f.sfits) })

    pub below_is : 2 * nat_abs (read_back (negsuc 0 -ℤ read_back z)) + 1 ≡ packed_word z
    below_is = rw (flip_is f h) (below_packed z (read_below f h))

  module _ (h : lt_z (read_back z) (pos 0) ≡ false) where
    pub plain_twice : Fits w64 (2 * nat_abs (read_back z))
    plain_twice = rw (read_back_is f) (by z (rw (read_back_is f) at h) f.sfits)
      where
        by : (z : ℤ) → lt_z z (pos 0) ≡ false → mag z < 9223372036854775808 → Fits w64 (2 * nat_abs z)
        by (pos n) h l = record { fits = omega (arith, l) }
        by (negsuc n) h l = let e : ◌≡◌ {A = ℕ} 0 1 = cc in absurd (omega arith)

    pub plain_is : 2 * nat_abs (read_back z) ≡ packed_word z
    plain_is = rw (read_back_is f) (from_packed z (rw (read_back_is f) at h))

-- a word that is used, and one that is not
module _ (z : ℤ) {used : Bool} {before after : List ℕ} {at next : ℕ} where
  pub word_written : {m : ℕ} → used ≡ true → m ≡ packed_word z → Writes (groups_of 5 m) 5 before at after next → Writes (word_bytes used z) (5 * cond used 1 0) before at after next
  unfolding bytes_of
  word_written u e w = rw (u, ← e) (within 5 w (omega arith))

pub word_skipped : (z : ℤ) {used : Bool} (before : List ℕ) (at : ℕ) → used ≡ false → Writes (word_bytes used z) (5 * cond used 1 0) before at before at
word_skipped z before at u = rw u (nothing before at)

pub word_room : {used : Bool} (at n : ℕ) → used ≡ true → at + 5 * cond used 1 0 ≤ n → at + 5 ≤ n
word_room at n u h = rw u at h

-- ---- a node's words

-- an operation's mask has a bit, and its highest is that of word 16 or of one before
all_positive : all_below operation_count (λ (op : ℕ). ltb 0 (get_or masks op 0)) ≡ true
unfolding all_below mask_of masks
all_positive = refl

module _ (op : ℕ) (known : op < operation_count) where
  pub mask_positive : 0 < get_or masks op 0
  mask_positive = ltb-true 0 (get_or masks op 0) (all_below_lem operation_count (λ (op : ℕ). ltb 0 (get_or masks op 0)) all_positive op known)

  module _ (last : ℕ) where
    pub last_few : 2 ^ last ≤ get_or masks op 0 → last ≤ 16
    last_few low =
        bool_cases (leb last 16) (leb-true last 16)
        (λ e.
        ⊎_elim
        (λ (q : 17 ≡ last). absurd (omega (arith, rw (← q) at low, mask_low op known)))
        (λ (q : 17 < last). absurd (omega (arith, low, pow_below 17 last q, mask_low op known)))
        (eq-or-lt_of_le (leb-false last 16 e)))

    pub last_bit : get_or masks op 0 < 2 * 2 ^ last → get_or masks op 0 / 2 ^ last ≤ 1
    last_bit high = omega (arith, (div-lt_iff_lt-mul (pow_pos last)).1 high)

-- no word after the last bit is used
words_rest : (w : List ℤ) (op : ℕ) → op < operation_count → (k j : ℕ) → k + j ≤ 16 → get_or masks op 0 / 2 ^ k ≤ 1 → words_to op w (k + j) ≡ words_to op w k
unfolding words_to
words_rest w op known k zero l h = rw (add-zero k) refl
words_rest w op known k (suc j) l h =
    rw (add-suc k j, add-one, mask_last op k (suc (k + j)) known (omega arith) (omega arith) h, append-nil (words_to op w (k + j))) (words_rest w op known k j (omega arith) h)

module _ (w : List ℤ) (op : ℕ) (known : op < operation_count) {before : List ℕ} {at : ℕ} where
  pub words_none : Writes (words_to op w 0) (5 * used op 0) before at before at
  unfolding words_to used
  words_none = nothing before at

  module _ (k : ℕ) (less : k < 16) {bit : Bool} (is : bit ≡ uses op (k + 1)) {mid : List ℕ} {to : ℕ} (so : Writes (words_to op w k) (5 * used op k) before at mid to) where
    pub words_room : at + 45 ≤ length before → to + 5 * cond bit 1 0 ≤ length mid
    unfolding used
    words_room h = room_left (5 * cond bit 1 0) 45 so h (rw is (omega (arith, few_used op (suc k) known (omega arith))))

    pub words_more : {z : ℤ} {after : List ℕ} {next : ℕ} → z ≡ word_at w (k + 1) → Writes (word_bytes bit z) (5 * cond bit 1 0) mid to after next
        → Writes (words_to op w (k + 1)) (5 * used op (k + 1)) before at after next
    unfolding words_to used
    words_more {z} e v =
        let v' : Writes (word_bytes (uses op (k + 1)) (word_at w (k + 1))) (5 * cond (uses op (k + 1)) 1 0) mid to _ _ = rw (is, e) at v in
        rw (add-one) (within (5 * (used op k + cond (uses op (k + 1)) 1 0)) (then so v') (omega arith))

  pub words_done : {k : ℕ} {after : List ℕ} {next : ℕ} → k ≤ 16 → get_or masks op 0 / 2 ^ k ≤ 1 → Writes (words_to op w k) (5 * used op k) before at after next → Writes (words_to op w 16) 45 before at after next
  words_done {k} l h v =
      let all : words_to op w k ≡ words_to op w 16 = sym (words_rest w op known k (16 - k) (omega arith) h) ∙ ap (words_to op w) (omega arith) in
      said all (within 45 v (omega (arith, few_used op k known (omega arith))))

-- the operation, of one byte, and then the words
pub node_written : (w : List ℤ) (op : ℕ) {before mid after : List ℕ} {at place next : ℕ} → op < 128 → size_at w 0 ≡ op → Writes (groups_of 1 op) 1 before at mid place
    → Writes (words_to op w 16) 45 mid place after next → Writes (node_bytes w) 46 before at after next
unfolding node_bytes bytes_of
node_written w op h is v u = rw (is, groups_enough 1 5 op (omega arith) (omega arith) (omega arith)) (then v u)
