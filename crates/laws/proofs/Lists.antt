-- Lists made by place, lists end to end, and the place of a number in a list. lib.ListN and lib.Seq have what holds of every list.
use Prim.Native.Nat.{ℕ, zero, suc, ◌+◌, ◌-◌, ◌<◌, ◌≤◌, suc-le-suc}
use native.Mathlib.Nat.{not-suc-le-zero, le_of_suc-le-suc, zero-lt-suc, zero-add, suc-add, add-zero, add_assoc, sub-zero, zero-sub, suc-sub-suc}
use native.Mathlib.Numerals.{add-one}
use native.Mathlib.Omega.{arith}
use mathlib.Core.Path.{◌≡◌, refl, sym, ap, ◌∙◌}
use mathlib.Core.Bool.{true, false≢true}
use mathlib.Core.List.{List, [], ◌∷◌, ◌++◌, map, append_assoc}
use borrow.Author.Tests.{eqb-true, eq-eqb}
use lib.Dec.{eqb}
use lib.ListN.{get_or, length, take, drop, length-append, get_or-append, get_or-eq_default}
use lib.Seq.{get_or-append-add, take_all}
use Rattle.laws.specs.Lists.{tab, among, occurrences, position, sum, concat, last_or}
use Rattle.laws.proofs.Booleans.{bool_cases, or_true}

-- f 0, .., f (n - 1): its length and its elements
pub length_tab : {A : Type 0} (n : ℕ) (f : ℕ → A) → length (tab n f) ≡ n
unfolding tab
length_tab zero f = refl
length_tab (suc n) f = ap suc (length_tab n (λ j. f (suc j)))

pub get_or_tab : {A : Type 0} (n : ℕ) (f : ℕ → A) (k : ℕ) (d : A) → k < n → get_or (tab n f) k d ≡ f k
unfolding tab
get_or_tab zero f k d h = absurd (not-suc-le-zero h)
get_or_tab (suc n) f zero d h = refl
get_or_tab (suc n) f (suc k) d h = get_or_tab n (λ j. f (suc j)) k d (le_of_suc-le-suc h)

pub get_or_tab_past : {A : Type 0} (n : ℕ) (f : ℕ → A) (k : ℕ) (d : A) → n ≤ k → get_or (tab n f) k d ≡ d
get_or_tab_past n f k d h = get_or-eq_default (tab n f) d (omega (arith, length_tab n f))

-- only the values below n matter
pub tab_same : {A : Type 0} (n : ℕ) (f g : ℕ → A) → ((k : ℕ) → k < n → f k ≡ g k) → tab n f ≡ tab n g
unfolding tab
tab_same zero f g h = refl
tab_same (suc n) f g h = rw (h 0 (zero-lt-suc n), tab_same n (λ k. f (suc k)) (λ k. g (suc k)) (λ k q. h (suc k) (suc-le-suc q)))

pub tab_map : {A B : Type 0} (h : A → B) (n : ℕ) (f : ℕ → A) → map h (tab n f) ≡ tab n (λ (k : ℕ). h (f k))
unfolding tab
tab_map h zero f = refl
tab_map h (suc n) f = rw (tab_map h n (λ k. f (suc k)))

-- an element that is there, whatever stands past the end
pub get_or_map : {A B : Type 0} (f : A → B) (xs : List A) (k : ℕ) (d : B) (d' : A) → k < length xs → get_or (map f xs) k d ≡ f (get_or xs k d')
get_or_map f [] k d d' h = absurd (not-suc-le-zero h)
get_or_map f (x ∷ xs) zero d d' h = refl
get_or_map f (x ∷ xs) (suc k) d d' h = get_or_map f xs k d d' (le_of_suc-le-suc h)

-- its parts, and one more
pub take_tab : {A : Type 0} (i n : ℕ) (f : ℕ → A) → i ≤ n → take i (tab n f) ≡ tab i f
unfolding tab
take_tab zero n f h = refl
take_tab (suc i) zero f h = absurd (not-suc-le-zero h)
take_tab (suc i) (suc n) f h = rw (take_tab i n (λ k. f (suc k)) (le_of_suc-le-suc h))

drop_tab : {A : Type 0} (i n : ℕ) (f : ℕ → A) → drop i (tab n f) ≡ tab (n - i) (λ (k : ℕ). f (i + k))
unfolding tab
drop_tab zero n f = rw sub-zero (tab_same n f (λ k. f (0 + k)) (λ k q. rw zero-add))
drop_tab (suc i) zero f = rw zero-sub
drop_tab (suc i) (suc n) f =
    rw suc-sub-suc (drop_tab i n (λ k. f (suc k)) ∙ tab_same (n - i) (λ k. f (suc (i + k))) (λ k. f (suc i + k)) (λ k q. rw suc-add))

pub tab_append : {A : Type 0} (a b : ℕ) (f : ℕ → A) → tab (a + b) f ≡ tab a f ++ tab b (λ (k : ℕ). f (a + k))
unfolding tab
tab_append zero b f = rw zero-add (tab_same b f (λ k. f (0 + k)) (λ k q. rw zero-add))
tab_append (suc a) b f =
    rw (suc-add, tab_append a b (λ k. f (suc k)), tab_same b (λ k. f (suc (a + k))) (λ k. f (suc a + k)) (λ k q. rw suc-add))

pub tab_snoc : {A : Type 0} (n : ℕ) (f : ℕ → A) → tab (suc n) f ≡ tab n f ++ (f n ∷ [])
unfolding tab
tab_snoc n f = ap (λ (m : ℕ). tab m f) (sym (add-one n)) ∙ tab_append n 1 f ∙ rw add-zero

-- any list
pub length_snoc : {A : Type 0} (xs : List A) (x : A) → length (xs ++ (x ∷ [])) ≡ suc (length xs)
length_snoc xs x = length-append xs (x ∷ []) ∙ add-one (length xs)

pub take_whole : {A : Type 0} (n : ℕ) (xs : List A) → length xs ≤ n → take n xs ≡ xs
take_whole n xs h = take_all n xs h

-- the last one
last_at : {A : Type 0} (d x : A) (xs : List A) → last_or x xs ≡ get_or (x ∷ xs) (length xs) d
unfolding last_or
last_at d x [] = refl
last_at d x (y ∷ ys) = last_at d y ys

pub last_is : {A : Type 0} (d : A) (xs : List A) → 0 < length xs → last_or d xs ≡ get_or xs (length xs - 1) d
unfolding last_or
last_is d [] h = absurd (not-suc-le-zero h)
last_is d (x ∷ xs) h = rw (suc-sub-suc, sub-zero) (last_at d x xs)

-- the sum of two lists end to end
pub sum_append : (xs ys : List ℕ) → sum (xs ++ ys) ≡ sum xs + sum ys
unfolding sum
sum_append [] ys = rw zero-add
sum_append (x ∷ xs) ys = omega (arith, sum_append xs ys)

-- many lists end to end, and where an element of one of them stands
pub concat_append : {A : Type 0} (xss yss : List (List A)) → concat (xss ++ yss) ≡ concat xss ++ concat yss
unfolding concat
concat_append [] yss = refl
concat_append (xs ∷ xss) yss = rw (concat_append xss yss, append_assoc)

concat_length : {A : Type 0} (xss : List (List A)) → length (concat xss) ≡ sum (map length xss)
unfolding concat sum
concat_length [] = refl
concat_length (xs ∷ xss) = rw (length-append, concat_length xss)

pub concat_at : {A : Type 0} (xss : List (List A)) (n e : ℕ) (d : A) → e < length (get_or xss n [])
    → get_or (concat xss) (length (concat (take n xss)) + e) d ≡ get_or (get_or xss n []) e d
unfolding concat
concat_at [] n e d h = absurd (not-suc-le-zero h)
concat_at (xs ∷ xss) zero e d h = rw zero-add (get_or-append xs (concat xss) d e h)
concat_at (xs ∷ xss) (suc n) e d h = rw (length-append, add_assoc, get_or-append-add) (concat_at xss n e d h)

-- a number that is in the list
occurs_at : (xs : List ℕ) (i d : ℕ) → i < length xs → 0 < occurrences (get_or xs i d) xs
unfolding occurrences
occurs_at [] i d h = absurd (not-suc-le-zero h)
occurs_at (x ∷ xs) zero d h = rw (eq-eqb x x refl) (omega arith)
occurs_at (x ∷ xs) (suc i) d h = omega (arith, occurs_at xs i d (le_of_suc-le-suc h))

among_occurs : (k : ℕ) (xs : List ℕ) → among k xs ≡ true → 0 < occurrences k xs
unfolding among occurrences
among_occurs k [] e = absurd (false≢true e)
among_occurs k (x ∷ xs) e = or_true (eqb k x) (among k xs) e (λ q. rw q (omega arith)) (λ q. omega (arith, among_occurs k xs q))

occurs_among : (k : ℕ) (xs : List ℕ) → 0 < occurrences k xs → among k xs ≡ true
unfolding among occurrences
occurs_among k [] h = absurd (not-suc-le-zero h)
occurs_among k (x ∷ xs) h = bool_cases (eqb k x) (λ q. rw q) (λ q. rw q (occurs_among k xs (omega (arith, rw q at h))))

-- its first place; the place of a number that is there once is its only place
pub position_lt : (k : ℕ) (xs : List ℕ) → 0 < occurrences k xs → position k xs < length xs
unfolding occurrences position
position_lt k [] h = absurd (not-suc-le-zero h)
position_lt k (x ∷ xs) h =
    bool_cases (eqb k x) (λ q. rw q (omega arith)) (λ q. rw q (suc-le-suc (position_lt k xs (omega (arith, rw q at h)))))

pub position_at : (k : ℕ) (xs : List ℕ) (d : ℕ) → 0 < occurrences k xs → get_or xs (position k xs) d ≡ k
unfolding occurrences position
position_at k [] d h = absurd (not-suc-le-zero h)
position_at k (x ∷ xs) d h =
    bool_cases (eqb k x) (λ q. rw q (sym (eqb-true k x q))) (λ q. rw q (position_at k xs d (omega (arith, rw q at h))))

pub position_of : (xs : List ℕ) (i d : ℕ) → occurrences (get_or xs i d) xs ≡ 1 → i < length xs → position (get_or xs i d) xs ≡ i
unfolding occurrences position
position_of [] i d o h = absurd (not-suc-le-zero h)
position_of (x ∷ xs) zero d o h = rw (eq-eqb x x refl)
position_of (x ∷ xs) (suc i) d o h =
    let l : i < length xs = le_of_suc-le-suc h in
    bool_cases (eqb (get_or xs i d) x) (λ q. absurd (omega (arith, rw q at o, occurs_at xs i d l)))
    (λ q. rw q (ap suc (position_of xs i d (omega (arith, rw q at o)) l)))
