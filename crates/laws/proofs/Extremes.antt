-- The least and the greatest of two and of four integers.
use mathlib.Core.Path.{◌≡◌, refl}
use mathlib.Core.Bool.{cond}
use lib.IntN.{ℤ}
use lib.Signed.{lt_z, ◌≤ℤ◌, ◌<ℤ◌}
use Rattle.laws.specs.Integers.{min_z, max_z, min4, max4}
use Rattle.laws.proofs.Booleans.{cond_both}
use Rattle.laws.proofs.Parts.{arithℤ, of_lt, of_le, lt_z_true, lt_z_false}

-- by the order: which of two is picked, and what that shows
pick : (P : ℤ → Type 0) (x y u v : ℤ) → (x <ℤ y → P u) → (y ≤ℤ x → P v) → P (cond (lt_z x y) u v)
pick P x y u v f g = cond_both P (lt_z x y) u v (λ e. f (of_lt (lt_z_true x y e))) (λ e. g (of_le (lt_z_false x y e)))

-- which of the two it is
pub min_z_left : {a b : ℤ} → a ≤ℤ b → min_z a b ≡ a
unfolding min_z
min_z_left {a} {b} h = pick (λ z. z ≡ a) b a b a (λ k. omega arithℤ) (λ k. refl)

pub min_z_right : {a b : ℤ} → b ≤ℤ a → min_z a b ≡ b
unfolding min_z
min_z_right {a} {b} h = pick (λ z. z ≡ b) b a b a (λ k. refl) (λ k. omega arithℤ)

pub max_z_left : {a b : ℤ} → b ≤ℤ a → max_z a b ≡ a
unfolding max_z
max_z_left {a} {b} h = pick (λ z. z ≡ a) a b b a (λ k. omega arithℤ) (λ k. refl)

pub max_z_right : {a b : ℤ} → a ≤ℤ b → max_z a b ≡ b
unfolding max_z
max_z_right {a} {b} h = pick (λ z. z ≡ b) a b b a (λ k. refl) (λ k. omega arithℤ)

-- what holds of both, holds of the least and of the greatest
pub min_z_of : (P : ℤ → Type 0) (a b : ℤ) → P a → P b → P (min_z a b)
unfolding min_z
min_z_of P a b p q = pick P b a b a (λ k. q) (λ k. p)

pub max_z_of : (P : ℤ → Type 0) (a b : ℤ) → P a → P b → P (max_z a b)
unfolding max_z
max_z_of P a b p q = pick P a b b a (λ k. q) (λ k. p)

-- the least is not above, the greatest not below
pub min_z_le_left : (a b : ℤ) → min_z a b ≤ℤ a
unfolding min_z
min_z_le_left a b = pick (λ z. z ≤ℤ a) b a b a (λ k. omega arithℤ) (λ k. omega arithℤ)

pub min_z_le_right : (a b : ℤ) → min_z a b ≤ℤ b
unfolding min_z
min_z_le_right a b = pick (λ z. z ≤ℤ b) b a b a (λ k. omega arithℤ) (λ k. omega arithℤ)

pub le_max_z_left : (a b : ℤ) → a ≤ℤ max_z a b
unfolding max_z
le_max_z_left a b = pick (λ z. a ≤ℤ z) a b b a (λ k. omega arithℤ) (λ k. omega arithℤ)

pub le_max_z_right : (a b : ℤ) → b ≤ℤ max_z a b
unfolding max_z
le_max_z_right a b = pick (λ z. b ≤ℤ z) a b b a (λ k. omega arithℤ) (λ k. omega arithℤ)

-- m is not above any of the four, not below any of them
pub record Below4 (m a b c d : ℤ) : Type 0 where
  pub of_0 : m ≤ℤ a
  pub of_1 : m ≤ℤ b
  pub of_2 : m ≤ℤ c
  pub of_3 : m ≤ℤ d

pub record Above4 (m a b c d : ℤ) : Type 0 where
  pub of_0 : a ≤ℤ m
  pub of_1 : b ≤ℤ m
  pub of_2 : c ≤ℤ m
  pub of_3 : d ≤ℤ m

-- and so are the least and the greatest of them
pub min4_below : (a b c d : ℤ) → Below4 (min4 a b c d) a b c d
unfolding min4
min4_below a b c d =
    let l = min_z_le_left (min_z a b) (min_z c d) in
    let r = min_z_le_right (min_z a b) (min_z c d) in
    let p = min_z_le_left a b in
    let q = min_z_le_right a b in
    let s = min_z_le_left c d in
    let t = min_z_le_right c d in
    omega arithℤ

pub max4_above : (a b c d : ℤ) → Above4 (max4 a b c d) a b c d
unfolding max4
max4_above a b c d =
    let l = le_max_z_left (max_z a b) (max_z c d) in
    let r = le_max_z_right (max_z a b) (max_z c d) in
    let p = le_max_z_left a b in
    let q = le_max_z_right a b in
    let s = le_max_z_left c d in
    let t = le_max_z_right c d in
    omega arithℤ
