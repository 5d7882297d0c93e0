-- Pieces of bytes, one after another.
use Prim.Native.Nat.{ℕ, zero, suc, ◌+◌, ◌≤◌, ◌<◌}
use mathlib.Core.Path.{◌≡◌, refl, ap, ◌∙◌}
use mathlib.Core.List.{List, [], ◌∷◌, ◌++◌}
use native.Mathlib.Nat.{add-zero, add-suc, suc-add}
use native.Mathlib.Numerals.{add-one}
use native.Mathlib.Omega.{arith}
use lib.ListN.{length, get_or, set, take, drop, length-append}
use lib.Seq.{sets, length-sets, take-suc, length-take-le, take_all}
use Rattle.laws.specs.Pieces.{Writes}

-- values after values
sets_append : {A : Type 0} (xs ys l : List A) (i : ℕ) → sets (sets l i xs) (i + length xs) ys ≡ sets l i (xs ++ ys)
sets_append [] ys l i = rw add-zero
sets_append (x ∷ xs) ys l i = rw (add-suc, ← suc-add) (sets_append xs ys (set l i x) (suc i))

pub sets_more : {A : Type 0} (l : List A) {mid after : List A} (i : ℕ) {place : ℕ} (xs ys : List A) → mid ≡ sets l i xs → place ≡ i + length xs → after ≡ sets mid place ys → after ≡ sets l i (xs ++ ys)
sets_more l i xs ys e q h = h ∙ rw (e, q) (sets_append xs ys l i)

-- a store takes the copy of i values over others to the copy of one more
pub copied_more : {A : Type 0} (d : A) (from to : List A) (i : ℕ) → i < length from → i < length to
    → set (take i from ++ drop i to) i (get_or from i d) ≡ take (suc i) from ++ drop (suc i) to
copied_more d [] to i h k = absurd (omega arith)
copied_more d (x ∷ xs) [] i h k = absurd (omega arith)
copied_more d (x ∷ xs) (y ∷ ys) zero h k = refl
copied_more {A} d (x ∷ xs) (y ∷ ys) (suc i) h k = ap (λ (l : List A). x ∷ l) (copied_more d xs ys i (omega arith) (omega arith))

-- a piece after a piece, and a larger bound
pub then : {xs ys : List ℕ} {m n : ℕ} {before mid after : List ℕ} {at place next : ℕ} → Writes xs m before at mid place → Writes ys n mid place after next
    → Writes (xs ++ ys) (m + n) before at after next
then {xs} {ys} {before = before} {at = at} v w =
    record {
      stands = sets_more before at xs ys v.stands v.is_next w.stands;
      is_next = omega (arith, v.is_next, w.is_next, length-append xs ys);
      short = omega (arith, v.short, w.short, length-append xs ys);
    }

pub within : {ws : List ℕ} {m : ℕ} (n : ℕ) {before after : List ℕ} {at next : ℕ} → Writes ws m before at after next → m ≤ n → Writes ws n before at after next
within n w h = record { stands = w.stands; is_next = w.is_next; short = omega (arith, w.short) }

-- the same bytes, said otherwise
pub said : {vs ws : List ℕ} {m : ℕ} {before after : List ℕ} {at next : ℕ} → vs ≡ ws → Writes vs m before at after next → Writes ws m before at after next
said e w = rw (← e) w

-- no byte yet, and the length of the buffer
pub nothing : (l : List ℕ) (at : ℕ) → Writes [] 0 l at l at
nothing l at = record { stands = refl; is_next = omega arith; short = omega arith }

pub same_room : {ws : List ℕ} {m : ℕ} {before after : List ℕ} {at next : ℕ} → Writes ws m before at after next → length after ≡ length before
same_room {ws} {before = before} {at = at} w = ap length w.stands ∙ length-sets before at ws

-- room for k bytes after a piece, of `total` from its start
pub room_left : (k total : ℕ) {ws : List ℕ} {m : ℕ} {before mid : List ℕ} {at place : ℕ} → Writes ws m before at mid place → at + total ≤ length before → m + k ≤ total
    → place + k ≤ length mid
room_left k total w h f = omega (arith, w.is_next, w.short, same_room w, h, f)

-- a word, byte by byte
pub one_more : (l word mid : List ℕ) (at i : ℕ) → i < length word → mid ≡ sets l at (take i word) → set mid (at + i) (get_or word i 0) ≡ sets l at (take (i + 1) word)
one_more l word mid at i h e =
    let n : length (take i word) ≡ i = length-take-le i word (omega arith) in
    sets_more l at (take i word) (get_or word i 0 ∷ []) e (omega (arith, n)) refl ∙ rw (add-one, take-suc word i 0 h) refl

pub whole_word : (l word mid : List ℕ) (at i : ℕ) → i ≡ length word → mid ≡ sets l at (take i word) → Writes word (length word) l at mid (at + i)
whole_word l word mid at i q e =
    record { stands = e ∙ rw (take_all i word (omega arith)) refl; is_next = rw q refl; short = omega arith }
