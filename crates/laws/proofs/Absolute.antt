-- Absolute values of products and floored quotients, and numbers between -n and n.
use mathlib.Core.Path.{◌≡◌, refl}
use Prim.Native.Nat.{ℕ, zero, suc, ◌*◌, ◌≤◌}
use native.Mathlib.Nat.{div-le_self, mul-le-mul, le_trans}
use native.Mathlib.Omega.{arith}
use lib.IntN.{ℤ, pos, negsuc, neg_ℤ, nat_abs, ◌*ℤ◌}
use Rattle.laws.specs.Integers.{Within, floor_div}
use Rattle.laws.proofs.Parts.{arithℤ, neg_parts}

-- of a product, and of a floored quotient
abs_neg : (n : ℕ) → nat_abs (neg_ℤ (pos n)) ≡ n
abs_neg zero = refl
abs_neg (suc n) = refl

pub abs_mul : (a b : ℤ) → nat_abs (a *ℤ b) ≡ nat_abs a * nat_abs b
abs_mul (pos a) (pos b) = refl
abs_mul (pos a) (negsuc b) = abs_neg (a * suc b)
abs_mul (negsuc a) (pos b) = abs_neg (suc a * b)
abs_mul (negsuc a) (negsuc b) = refl

abs_floor : (a b : ℤ) → nat_abs (floor_div a b) ≤ nat_abs a
unfolding floor_div
abs_floor (pos a) (pos b) = div-le_self a b
abs_floor (negsuc a) (pos b) = omega (arith, div-le_self a b)
abs_floor (pos zero) (negsuc b) = omega arith
abs_floor (pos (suc a)) (negsuc b) = omega (arith, div-le_self a (suc b))
abs_floor (negsuc a) (negsuc b) = div-le_self (suc a) (suc b)

-- the absolute value from two bounds, and back
pub abs_le : {z : ℤ} {n : ℕ} → Within z (neg_ℤ (pos n)) (pos n) → nat_abs z ≤ n
abs_le {z = pos a} {n} h = omega arithℤ
abs_le {z = negsuc a} {n} h = omega (arithℤ, neg_parts (pos n))

pub abs_within : (z : ℤ) {n : ℕ} → nat_abs z ≤ n → Within z (neg_ℤ (pos n)) (pos n)
abs_within (pos a) {n} h = omega (arithℤ, neg_parts (pos n))
abs_within (negsuc a) {n} h = omega (arithℤ, neg_parts (pos n))

-- bounds of a floored quotient and of a product
pub floor_small : (a b : ℤ) {n : ℕ} → Within a (neg_ℤ (pos n)) (pos n) → Within (floor_div a b) (neg_ℤ (pos n)) (pos n)
floor_small a b h = abs_within (floor_div a b) (le_trans (abs_floor a b) (abs_le h))

pub mul_small : (a b : ℤ) {n m : ℕ} → Within a (neg_ℤ (pos n)) (pos n) → Within b (neg_ℤ (pos m)) (pos m)
    → Within (a *ℤ b) (neg_ℤ (pos (n * m))) (pos (n * m))
mul_small a b h k = abs_within (a *ℤ b) (omega (arith, abs_mul a b, mul-le-mul (abs_le h) (abs_le k)))
