-- Tests: what a conjunction, a disjunction, a choice and a test of all numbers below n say.
use Prim.Native.Nat.{ℕ, zero, suc, ◌<◌, suc-le-suc}
use native.Mathlib.Nat.{not-suc-le-zero, le_of_suc-le-suc, zero-lt-suc}
use mathlib.Core.Path.{◌≡◌, refl, sym}
use mathlib.Core.Bool.{Bool, true, false, ◌&&◌, ◌||◌, not, cond, false≢true, true≢false}
use Rattle.laws.specs.Lists.{all_below}

-- by the value of a test
pub bool_cases : {G : Type 0} (b : Bool) → (b ≡ true → G) → (b ≡ false → G) → G
bool_cases true f g = f refl
bool_cases false f g = g refl

-- what holds of both ways of a choice holds of the choice
pub cond_both : {A : Type 0} (P : A → Type 0) (b : Bool) (x y : A) → (b ≡ true → P x) → (b ≡ false → P y) → P (cond b x y)
cond_both P true x y f g = f refl
cond_both P false x y f g = g refl

-- both, and either
pub and_true : (b c : Bool) → (b && c) ≡ true → (b ≡ true) × (c ≡ true)
and_true true c e = (refl, e)
and_true false c e = absurd (false≢true e)

pub and_true_of : (b c : Bool) → b ≡ true → c ≡ true → (b && c) ≡ true
and_true_of b c p q = rw (p, q)

pub or_true : {G : Type 0} (b c : Bool) → (b || c) ≡ true → (b ≡ true → G) → (c ≡ true → G) → G
or_true true c e f g = f refl
or_true false c e f g = g e

-- a test that failed, and one that held, by a local of its value
pub off : {t : Bool} (r : Bool) → r ≡ t → not r ≡ true → t ≡ false
off true e f = absurd (false≢true f)
off false e f = sym e

pub on : {t : Bool} (r : Bool) → r ≡ t → not r ≡ false → t ≡ true
on true e f = sym e
on false e f = absurd (true≢false f)

-- all numbers below n
pub all_below_lem : (n : ℕ) (p : ℕ → Bool) → all_below n p ≡ true → (k : ℕ) → k < n → p k ≡ true
unfolding all_below
all_below_lem zero p e k h = absurd (not-suc-le-zero h)
all_below_lem (suc n) p e zero h = (and_true (p 0) (all_below n (λ (j : ℕ). p (suc j))) e).0
all_below_lem (suc n) p e (suc k) h = all_below_lem n (λ (j : ℕ). p (suc j)) (and_true (p 0) (all_below n (λ (j : ℕ). p (suc j))) e).1 k (le_of_suc-le-suc h)

pub all_below_of : (n : ℕ) (p : ℕ → Bool) → ((k : ℕ) → k < n → p k ≡ true) → all_below n p ≡ true
unfolding all_below
all_below_of zero p h = refl
all_below_of (suc n) p h = rw (h 0 (zero-lt-suc n)) (all_below_of n (λ (j : ℕ). p (suc j)) (λ k q. h (suc k) (suc-le-suc q)))

pub all_below_same : (n : ℕ) (p q : ℕ → Bool) → ((k : ℕ) → k < n → p k ≡ q k) → all_below n p ≡ all_below n q
unfolding all_below
all_below_same zero p q h = refl
all_below_same (suc n) p q h = rw (h 0 (zero-lt-suc n), all_below_same n (λ k. p (suc k)) (λ k. q (suc k)) (λ k l. h (suc k) (suc-le-suc l)))

-- one more
pub all_below_snoc : (n : ℕ) (p : ℕ → Bool) → all_below (suc n) p ≡ (all_below n p && p n)
unfolding all_below
all_below_snoc zero p = go (p 0)
  where
    go : (b : Bool) → (b && true) ≡ (true && b)
    go true = refl
    go false = refl
all_below_snoc (suc n) p = go (p 0) (all_below_snoc n (λ (k : ℕ). p (suc k)))
  where
    go : (b : Bool) → all_below (suc n) (λ (k : ℕ). p (suc k)) ≡ (all_below n (λ (k : ℕ). p (suc k)) && p (suc n))
        → (b && all_below (suc n) (λ (k : ℕ). p (suc k))) ≡ ((b && all_below n (λ (k : ℕ). p (suc k))) && p (suc n))
    go true e = e
    go false e = refl
