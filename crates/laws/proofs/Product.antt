-- Order and products: one factor fixed, the ring laws, the product of two bounded numbers.
use mathlib.Core.Path.{◌≡◌, ap, ◌∙◌}
use mathlib.Core.Logic.{◌⊎◌, inl, inr, ⊎_elim}
use Prim.Native.Nat.{ℕ, zero, suc, ◌*◌}
use native.Mathlib.Nat.{mul-le-mul_left}
use lib.IntN.{ℤ, pos, negsuc, ◌+ℤ◌, ◌*ℤ◌, *ℤ_comm}
use lib.Signed.{◌≤ℤ◌}
use Rattle.laws.specs.Integers.{Within, min4, max4}
use Rattle.laws.proofs.Parts.{up, dn, arithℤ, le_parts, mul_parts, add_parts}
use Rattle.laws.proofs.Order.{sign}
use Rattle.laws.proofs.Extremes.{Below4, Above4, min4_below, max4_above}

-- one factor fixed
pub mul_mono : {c a b : ℤ} → pos 0 ≤ℤ c → a ≤ℤ b → (c *ℤ a) ≤ℤ (c *ℤ b)
mul_mono {c = pos n} {a} {b} p h = omega (arithℤ, mul_parts (pos n) a, mul_parts (pos n) b, mul-le-mul_left n (le_parts h))
mul_mono {c = negsuc n} {a} {b} p h = absurd p.le

pub mul_anti : {c a b : ℤ} → c ≤ℤ pos 0 → a ≤ℤ b → (c *ℤ b) ≤ℤ (c *ℤ a)
mul_anti {c = pos zero} {a} {b} p h = omega (arithℤ, mul_parts (pos zero) a, mul_parts (pos zero) b)
mul_anti {c = pos (suc n)} {a} {b} p h = omega arithℤ
mul_anti {c = negsuc n} {a} {b} p h = omega (arithℤ, mul_parts (negsuc n) a, mul_parts (negsuc n) b, mul-le-mul_left (suc n) (le_parts h))

-- ring laws
pub mul_add : (a b c : ℤ) → a *ℤ (b +ℤ c) ≡ a *ℤ b +ℤ a *ℤ c
mul_add a b c =
    omega (
      arithℤ,
      mul_parts a (b +ℤ c),
      mul_parts a b,
      mul_parts a c,
      add_parts (a *ℤ b) (a *ℤ c),
      ap (λ (n : ℕ). up a * n) (add_parts b c),
      ap (λ (n : ℕ). dn a * n) (add_parts b c),
    )

pub mul_one : (a : ℤ) → a *ℤ pos 1 ≡ a
mul_one a = omega (arithℤ, mul_parts a (pos 1))

pub mul_suc : (a b : ℤ) → a *ℤ (b +ℤ pos 1) ≡ a *ℤ b +ℤ a
mul_suc a b = mul_add a b (pos 1) ∙ ap (λ (z : ℤ). a *ℤ b +ℤ z) (mul_one a)

pub mul_assoc : (a b c : ℤ) → (a *ℤ b) *ℤ c ≡ a *ℤ (b *ℤ c)
mul_assoc a b c =
    omega (
      arithℤ,
      mul_parts (a *ℤ b) c,
      mul_parts a (b *ℤ c),
      ap (λ (n : ℕ). n * up c) (mul_parts a b),
      ap (λ (n : ℕ). n * dn c) (mul_parts a b),
      ap (λ (n : ℕ). up a * n) (mul_parts b c),
      ap (λ (n : ℕ). dn a * n) (mul_parts b c),
    )

-- x times a number between lo and hi is between x times lo and x times hi, one way round or the other
pub between : (x : ℤ) {b lo hi : ℤ} → Within b lo hi → Within (x *ℤ b) (x *ℤ lo) (x *ℤ hi) ⊎ Within (x *ℤ b) (x *ℤ hi) (x *ℤ lo)
between x B =
    ⊎_elim (λ s. inl (record { low = mul_mono {c = x} s B.low; high = mul_mono {c = x} s B.high }))
    (λ s. inr (record { low = mul_anti {c = x} (omega arithℤ) B.high; high = mul_anti {c = x} (omega arithℤ) B.low })) (sign x)

-- a number between two, each between two, is between the least and the greatest of the four
corners : {m M p q r s u v w : ℤ} → Below4 m p q r s → Above4 M p q r s → Within w u v ⊎ Within w v u
    → Within u p q ⊎ Within u q p → Within v r s ⊎ Within v s r → Within w m M
corners m M (inl x) (inl y) (inl z) = omega arithℤ
corners m M (inl x) (inl y) (inr z) = omega arithℤ
corners m M (inl x) (inr y) (inl z) = omega arithℤ
corners m M (inl x) (inr y) (inr z) = omega arithℤ
corners m M (inr x) (inl y) (inl z) = omega arithℤ
corners m M (inr x) (inl y) (inr z) = omega arithℤ
corners m M (inr x) (inr y) (inl z) = omega arithℤ
corners m M (inr x) (inr y) (inr z) = omega arithℤ

-- a product lies between the least and the greatest of the four corner products
pub product_within : {a la ha b lb hb : ℤ} → Within a la ha → Within b lb hb
    → Within (a *ℤ b) (min4 (la *ℤ lb) (la *ℤ hb) (ha *ℤ lb) (ha *ℤ hb)) (max4 (la *ℤ lb) (la *ℤ hb) (ha *ℤ lb) (ha *ℤ hb))
product_within {a} {la} {ha} {b} {lb} {hb} A B =
    corners (min4_below (la *ℤ lb) (la *ℤ hb) (ha *ℤ lb) (ha *ℤ hb)) (max4_above (la *ℤ lb) (la *ℤ hb) (ha *ℤ lb) (ha *ℤ hb))
    (rw (*ℤ_comm la b, *ℤ_comm a b, *ℤ_comm ha b) (between b A)) (between la B) (between ha B)
