-- Row-major numbering: ravel and coord are each other's inverse; extents of 1 in front change no number.
use Prim.Native.Nat.{ℕ, zero, suc, ◌*◌, ◌%◌, ◌<◌, suc-le-suc}
use native.Mathlib.Nat.{not-suc-le-zero, zero-lt-suc, one-mul, mul_assoc, mul-pos, mod-lt, div-add-mod', div-eq_of_lt, mod-eq_of_lt, div-lt_iff_lt-mul}
use native.Mathlib.Omega.{arith}
use mathlib.Core.Path.{◌≡◌, refl, sym, ◌∙◌}
use mathlib.Core.List.{List, [], ◌∷◌, ◌++◌}
use lib.Arith.{digits_div, digits_mod, digits_lt}
use lib.ListN.{length, get_or, replicate}
use Rattle.laws.specs.Numbering.{count, ravel, coord}

-- the number of elements
pub count_pos : (s : List ℕ) → ((k : ℕ) → k < length s → 0 < get_or s k 1) → 0 < count s
unfolding count
count_pos [] h = omega arith
count_pos (n ∷ ns) h = mul-pos (h 0 (zero-lt-suc (length ns))) (count_pos ns (λ k q. h (suc k) (suc-le-suc q)))

count_append : (s t : List ℕ) → count (s ++ t) ≡ count s * count t
unfolding count
count_append [] t = rw one-mul
count_append (n ∷ ns) t = rw (count_append ns t, mul_assoc)

pub factor_pos : (a b j : ℕ) → j < a * b → 0 < b
factor_pos a zero j h = absurd (omega arith)
factor_pos a (suc b) j h = omega arith

-- the element at the coordinates of element e is e, and a coordinate is below its extent
pub ravel_coord : (s : List ℕ) (e : ℕ) → e < count s → ravel s (coord s e) ≡ e
unfolding count ravel coord
ravel_coord [] e h = omega arith
ravel_coord (n ∷ ns) e h = rw (ravel_coord ns (e % count ns) (mod-lt e (factor_pos n (count ns) e h))) (div-add-mod' e (count ns))

pub coord_lt : (s : List ℕ) (e : ℕ) → e < count s → (k : ℕ) → k < length s → coord s e k < get_or s k 1
unfolding count coord
coord_lt [] e h k q = absurd (not-suc-le-zero q)
coord_lt (n ∷ ns) e h zero q = (div-lt_iff_lt-mul (factor_pos n (count ns) e h)).1 h
coord_lt (n ∷ ns) e h (suc k) q = coord_lt ns (e % count ns) (mod-lt e (factor_pos n (count ns) e h)) k (omega arith)

-- the coordinates of the element at c are c, and it is one of the elements
pub ravel_lt : (s : List ℕ) (c : ℕ → ℕ) → ((k : ℕ) → k < length s → c k < get_or s k 1) → ravel s c < count s
unfolding count ravel
ravel_lt [] c h = omega arith
ravel_lt (n ∷ ns) c h = digits_lt (h 0 (omega arith)) (ravel_lt ns (λ k. c (suc k)) (λ k q. h (suc k) (omega arith)))

pub coord_ravel : (s : List ℕ) (c : ℕ → ℕ) → ((k : ℕ) → k < length s → c k < get_or s k 1) → (k : ℕ) → k < length s → coord s (ravel s c) k ≡ c k
unfolding count ravel coord
coord_ravel [] c h k q = absurd (not-suc-le-zero q)
coord_ravel (n ∷ ns) c h zero q = digits_div (c 0) (ravel_lt ns (λ k. c (suc k)) (λ k q. h (suc k) (omega arith)))
coord_ravel (n ∷ ns) c h (suc k) q =
    rw (digits_mod (c 0) (ravel_lt ns (λ k. c (suc k)) (λ k q. h (suc k) (omega arith))))
    (coord_ravel ns (λ k. c (suc k)) (λ k q. h (suc k) (omega arith)) k (omega arith))

-- only the coordinates below the rank matter
pub ravel_same_below : (s : List ℕ) (c d : ℕ → ℕ) → ((k : ℕ) → k < length s → c k ≡ d k) → ravel s c ≡ ravel s d
unfolding ravel
ravel_same_below [] c d h = refl
ravel_same_below (n ∷ ns) c d h = rw (h 0 (zero-lt-suc (length ns)), ravel_same_below ns (λ k. c (suc k)) (λ k. d (suc k)) (λ k q. h (suc k) (suc-le-suc q)))

pub ravel_same : (s : List ℕ) (c d : ℕ → ℕ) → ((k : ℕ) → c k ≡ d k) → ravel s c ≡ ravel s d
ravel_same s c d h = ravel_same_below s c d (λ k q. h k)

-- o is the element at coordinates c
pub record Stands (s : List ℕ) (c : ℕ → ℕ) (o : ℕ) : Type 0 where
  pub inside : o < count s
  pub coordinate : (k : ℕ) → k < length s → coord s o k ≡ c k

pub ravel_stands : (s : List ℕ) (c : ℕ → ℕ) → ((k : ℕ) → k < length s → c k < get_or s k 1) → Stands s c (ravel s c)
ravel_stands s c h = record { inside = ravel_lt s c h; coordinate = coord_ravel s c h }

-- no two elements have the same coordinates
pub coord_same : (s : List ℕ) (o p : ℕ) → o < count s → p < count s → ((k : ℕ) → k < length s → coord s o k ≡ coord s p k) → o ≡ p
coord_same s o p h g f = sym (ravel_coord s o h) ∙ ravel_same_below s (coord s o) (coord s p) f ∙ ravel_coord s p g

-- an extent of 1 in front: coordinate 0 there, and the others as they were; then any number of them
pub coord_front : (s : List ℕ) (e : ℕ) → e < count s → coord (1 ∷ s) e 0 ≡ 0
unfolding coord
coord_front s e h = div-eq_of_lt h

pub coord_rest : (s : List ℕ) (e : ℕ) → e < count s → (k : ℕ) → coord (1 ∷ s) e (suc k) ≡ coord s e k
unfolding coord
coord_rest s e h k = rw (mod-eq_of_lt h)

pub count_front : (n : ℕ) (s : List ℕ) → count (replicate n 1 ++ s) ≡ count s
unfolding count
count_front zero s = refl
count_front (suc n) s = rw (one-mul, count_front n s)
