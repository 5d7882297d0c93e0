-- Signed numbers of the machine: which fit a width, what is read back from their bits, and what keeps a product inside 64 bits.
use mathlib.Core.Path.{◌≡◌, sym, ap, ◌∙◌}
use mathlib.Core.Bool.{Bool, true, false}
use Prim.Native.Nat.{ℕ, suc, ◌+◌, ◌*◌, ◌^◌, ◌≤◌, ◌<◌, max}
use native.Mathlib.Nat.{mul-le-mul, lt_of_le_of_lt}
use native.Mathlib.Numerals.{sub-one}
use native.Mathlib.Omega.{arith}
use borrow.Author.Tests.{le-ltb, ltb-true}
use lib.Dec.{T, ltb, lit<}
use lib.IntN.{ℤ, pos, negsuc, nat_abs, ◌-ℤ◌, ◌*ℤ◌}
use lib.Signed.{mag, lt_z, le_z, ◌≤ℤ◌, non_neg, yes_non_neg, pos-nat_abs}
use mir.Facts.{to_z-of_z, Fits-nat_abs}
use mir.Syntax.{Width, w64}
use mir.Val.{SFits, Fits, hbits, to_z, of_z}
use Rattle.laws.specs.Integers.{Within, same_z}
use Rattle.laws.proofs.Booleans.{bool_cases}
use Rattle.laws.proofs.Order.{same_is, is_same}
use Rattle.laws.proofs.Absolute.{abs_mul, mul_small}
use Rattle.laws.proofs.Parts.{up, dn, arithℤ, eq_parts, of_le, lt_z_true, lt_z_false, le_z_true, le_z_false}

-- a number that fits a signed width, by its parts: its bounds, and that its bits read back are the number
pub fit_hi : {w : Width} {z : ℤ} → SFits w z → up z < 2 ^ hbits w + dn z
fit_hi {z = pos n} f = omega (arith, f.sfits)
fit_hi {z = negsuc n} f = omega (arith, f.sfits)

pub fit_lo : {w : Width} {z : ℤ} → SFits w z → dn z ≤ 2 ^ hbits w + up z
fit_lo {z = pos n} f = omega (arith, f.sfits)
fit_lo {z = negsuc n} f = omega (arith, f.sfits)

pub back_parts : {w : Width} {z : ℤ} → SFits w z → up (to_z w (of_z w z)) + dn z ≡ up z + dn (to_z w (of_z w z))
back_parts f = eq_parts (to_z-of_z f)

pub of_fit : {w : Width} {z : ℤ} → max (suc (up z) + up z) (dn z + dn z) ≤ 2 ^ hbits w + (up z + dn z) → SFits w z
of_fit {z = pos n} h = record { sfits = omega arith }
of_fit {z = negsuc n} h = record { sfits = omega arith }

-- all three at once, a fact to list for omega: by itself arith_machine takes only back_parts of a fit
pub record Fit (w : Width) (z : ℤ) : Type 0 where
  pub hi : up z < 2 ^ hbits w + dn z
  pub lo : dn z ≤ 2 ^ hbits w + up z
  pub back : up (to_z w (of_z w z)) + dn z ≡ up z + dn (to_z w (of_z w z))

pub fit_parts : {w : Width} {z : ℤ} → SFits w z → Fit w z
fit_parts f = record { hi = fit_hi f; lo = fit_lo f; back = back_parts f }

-- arithℤ with the tests and the fits
pub ruleset arith_machine = (arithℤ, lt_z_true, lt_z_false, le_z_true, le_z_false, back_parts, fit_hi, fit_lo, of_fit)

-- what a signed local of 64 bits, read again, gives; a test of what is read back is the test of the numbers
abbrev pub read_back : ℤ → ℤ
read_back z = to_z w64 (of_z w64 z)

pub read_back_is : {z : ℤ} → SFits w64 z → read_back z ≡ z
read_back_is f = to_z-of_z f

pub lt_z_read : {a b : ℤ} {t : Bool} → SFits w64 a → SFits w64 b → lt_z (read_back a) (read_back b) ≡ t → lt_z a b ≡ t
lt_z_read f g e = rw (read_back_is f, read_back_is g) at e

pub le_z_read : {a b : ℤ} {t : Bool} → SFits w64 a → SFits w64 b → le_z (read_back a) (read_back b) ≡ t → le_z a b ≡ t
le_z_read f g e = rw (read_back_is f, read_back_is g) at e

-- equality of bits, as `==` of two signed locals, or of one and a literal, leaves it
pub bits_eq : {a b : ℤ} → SFits w64 a → SFits w64 b → of_z w64 a ≡ of_z w64 b → a ≡ b
bits_eq f g e = sym (to_z-of_z f) ∙ ap (to_z w64) e ∙ to_z-of_z g

pub bits_is : {a : ℤ} {k : ℕ} → SFits w64 a → of_z w64 a ≡ k → a ≡ to_z w64 k
bits_is f e = sym (to_z-of_z f) ∙ ap (to_z w64) e

pub same_bits : {x y : ℤ} → SFits w64 x → SFits w64 y → of_z w64 x ≡ of_z w64 y → same_z x y ≡ true
same_bits {x} {y} f g e = rw (bits_eq f g e) (is_same y)

pub other_bits : (x y : ℤ) → (of_z w64 x ≡ of_z w64 y → ⊥) → same_z x y ≡ false
other_bits x y n = bool_cases (same_z x y) (λ e. let h : x ≡ y = same_is {a = x} {b = y} e in absurd (n (ap (of_z w64) h))) (λ e. e)

-- a number fits by the bound that is known of what is read, or by its absolute value
pub fit_at : (z : ℤ) → mag z < 9223372036854775808 → SFits w64 z
fit_at z p = record { sfits = p }

mag_le : (z : ℤ) → mag z ≤ nat_abs z
mag_le (pos n) = omega arith
mag_le (negsuc n) = omega arith

pub fit_abs : (z : ℤ) → nat_abs z < 9223372036854775808 → SFits w64 z
fit_abs z h = fit_at z (lt_of_le_of_lt (mag_le z) h)

pub fit_mul : (a b : ℤ) (n m : ℕ) → nat_abs a ≤ n → nat_abs b ≤ m → T (ltb (n * m) 9223372036854775808) → SFits w64 (a *ℤ b)
fit_mul a b n m p q t = fit_abs (a *ℤ b) (omega (arith, abs_mul a b, mul-le-mul p q, lit< {m = n * m} {n = 9223372036854775808} t))

-- numbers of at most 2^31 in absolute value, and the product of two of them, as the machine asks and gives it
abbrev pub Small : ℤ → Type 0
Small z = Within z (negsuc 2147483647) (pos 2147483648)

pub small_fits : {z : ℤ} → Small z → SFits w64 z
small_fits h = omega (arith_machine, h)

small_mul : (a b : ℤ) → Small a → Small b → SFits w64 (a *ℤ b)
small_mul a b h k = omega (arith_machine, mul_small a b h k)

pub read_mul_fits : {a b : ℤ} → Small a → Small b → SFits w64 (read_back a *ℤ read_back b)
read_mul_fits {a} {b} h k = rw (read_back_is (small_fits h), read_back_is (small_fits k)) (small_mul a b h k)

pub read_mul : {a b : ℤ} → Small a → Small b → read_back (read_back a *ℤ read_back b) ≡ a *ℤ b
read_mul {a} {b} h k = rw (read_back_is (small_fits h), read_back_is (small_fits k)) (read_back_is (small_mul a b h k))

-- `w as usize` after `if w < 0 { return .. }`, and its value
pub cast_index : {z : ℤ} → SFits w64 z → lt_z (read_back z) (pos 0) ≡ false → T (non_neg (read_back z)) × Fits w64 (nat_abs (read_back z))
cast_index {z} f h = rw (read_back_is f) (yes_non_neg {z = z} (of_le (lt_z_false z (pos 0) (rw (read_back_is f) at h))), Fits-nat_abs tt f)

pub cast_value : {z : ℤ} → SFits w64 z → pos 0 ≤ℤ z → pos (nat_abs (read_back z)) ≡ z
cast_value {z} f h = rw (read_back_is f) (pos-nat_abs z (yes_non_neg h))

-- -1 - z of a number below 0, as the code computes it
flip : (z : ℤ) → lt_z z (pos 0) ≡ true → negsuc 0 -ℤ z ≡ pos (mag z)
flip (pos n) h = absurd (omega (arith, ltb-true n 0 h))
flip (negsuc n) h = simp (le-ltb (suc n) 1 (omega arith), sub-one)

module _ {z : ℤ} (f : SFits w64 z) (h : lt_z (read_back z) (pos 0) ≡ true) where
  pub read_below : lt_z z (pos 0) ≡ true
  read_below = rw (read_back_is f) at h

  mag_fits : SFits w64 (pos (mag z))
  mag_fits = record { sfits = f.sfits }

  pub flip_fits : SFits w64 (negsuc 0 -ℤ read_back z)
  flip_fits = rw (read_back_is f, flip z read_below) mag_fits

  pub flip_is : read_back (negsuc 0 -ℤ read_back z) ≡ pos (mag z)
  flip_is = rw (read_back_is f, flip z read_below) (read_back_is mag_fits)

  pub flip_cast : T (non_neg (read_back (negsuc 0 -ℤ read_back z))) × Fits w64 (nat_abs (read_back (negsuc 0 -ℤ read_back z)))
  flip_cast = rw flip_is (tt, record { fits = omega (arith, f.sfits) })
