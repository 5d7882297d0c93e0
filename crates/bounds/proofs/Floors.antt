-- The floor of a quotient by a division of naturals: how far the number lies from 0, and a negative one from -1.
use Prim.Native.Nat.{ℕ, zero, suc, ◌/◌, ◌≤◌, ◌<◌}
use mathlib.Core.Path.{◌≡◌, refl, sym, ap, ◌∙◌}
use mathlib.Core.Bool.{true, false}
use native.Mathlib.Nat.{zero-div, div-le_self, pos_of_ne-zero}
use native.Mathlib.Omega.{arith}
use lib.Dec.{T}
use lib.IntN.{ℤ, pos, negsuc, ◌-ℤ◌, nat_abs}
use lib.Signed.{lt_z, mag, non_neg, ◌≤ℤ◌, yes_non_neg}
use mir.Facts.{to_z_pos}
use mir.Syntax.{w32, w64}
use mir.Val.{SFits, Fits, to_z}
use Rattle.laws.specs.Integers.{floor_div}
use Rattle.laws.proofs.Machine.{Small, read_back, read_back_is, arith_machine, back_parts, cast_value}
use Rattle.laws.proofs.Parts.{arithℤ, diff_parts, lt_z_true, lt_z_false}

-- ---- the distance, as the code computes it

flip : (z : ℤ) → lt_z z (pos 0) ≡ true → negsuc 0 -ℤ z ≡ pos (mag z)
flip (pos n) h = absurd (omega (arithℤ, lt_z_true (pos n) (pos 0) h))
flip (negsuc n) h = omega (arithℤ, diff_parts (negsuc 0) (negsuc n))

plain : (z : ℤ) → lt_z z (pos 0) ≡ false → z ≡ pos (mag z)
plain (pos n) h = refl
plain (negsuc n) h = absurd (omega (arithℤ, lt_z_false (negsuc n) (pos 0) h))

mag_small : (z : ℤ) → Small z → mag z ≤ 2147483648
mag_small (pos n) s = omega (arithℤ, s)
mag_small (negsuc n) s = omega (arithℤ, s)

module _ {a : ℤ} (f : SFits w64 a) (s : Small a) where
  mag_fits : SFits w64 (pos (mag a))
  mag_fits = record { sfits = f.sfits }

  mag_cast : T (non_neg (read_back (pos (mag a)))) × Fits w32 (nat_abs (read_back (pos (mag a))))
  mag_cast = rw (read_back_is mag_fits) (tt, record { fits = omega (arith, mag_small a s) })

  module _ (h : lt_z (read_back a) (pos 0) ≡ true) where
    flipped : negsuc 0 -ℤ read_back a ≡ pos (mag a)
    flipped = rw (read_back_is f) (flip a (rw (read_back_is f) at h))

    pub flip_fits : SFits w64 (negsuc 0 -ℤ read_back a)
    flip_fits = rw flipped mag_fits

    pub flip_cast : T (non_neg (read_back (negsuc 0 -ℤ read_back a))) × Fits w32 (nat_abs (read_back (negsuc 0 -ℤ read_back a)))
    flip_cast = rw flipped mag_cast

    pub flip_mag : nat_abs (read_back (negsuc 0 -ℤ read_back a)) ≡ mag a
    flip_mag = rw (flipped, read_back_is mag_fits) refl

  module _ (h : lt_z (read_back a) (pos 0) ≡ false) where
    same : a ≡ pos (mag a)
    same = plain a (rw (read_back_is f) at h)

    pub plain_mag : nat_abs (read_back a) ≡ mag a
    plain_mag = rw (read_back_is f) (ap nat_abs same)

    pub plain_cast : T (non_neg (read_back a)) × Fits w32 (nat_abs (read_back a))
    plain_cast = rw (read_back_is f) (yes_non_neg {z = a} (omega (arithℤ, same)), record { fits = omega (arith, ap nat_abs same, mag_small a s) })

-- ---- one division, of m, the distance

floor_below : (a : ℤ) (b : ℕ) → lt_z a (pos 0) ≡ true → negsuc (mag a / b) ≡ floor_div a (pos b)
unfolding floor_div
floor_below (pos n) b h = absurd (omega (arithℤ, lt_z_true (pos n) (pos 0) h))
floor_below (negsuc n) b h = refl

floor_above : (a : ℤ) (b : ℕ) → lt_z a (pos 0) ≡ false → pos (mag a / b) ≡ floor_div a (pos b)
unfolding floor_div
floor_above (pos n) b h = refl
floor_above (negsuc n) b h = absurd (omega (arithℤ, lt_z_false (negsuc n) (pos 0) h))

less_one : (q : ℕ) → negsuc 0 -ℤ pos q ≡ negsuc q
less_one q = omega (arithℤ, diff_parts (negsuc 0) (pos q))

module _ {a : ℤ} (f : SFits w64 a) (s : Small a) (b m : ℕ) (e : m ≡ mag (read_back a)) where
  m_is : m ≡ mag a
  m_is = e ∙ ap mag (read_back_is f)

  few : m / b ≤ 2147483648
  few = omega (arith, div-le_self m b, m_is, mag_small a s)

  q_is : to_z w64 (m / b) ≡ pos (m / b)
  q_is = to_z_pos w64 (omega (arith, few))

  pub quotient_fits : SFits w64 (pos (m / b))
  quotient_fits = record { sfits = omega (arith, few) }

  below_fits : SFits w64 (negsuc (m / b))
  below_fits = record { sfits = omega (arith, few) }

  pub less_fits : SFits w64 (negsuc 0 -ℤ to_z w64 (m / b))
  less_fits = rw (q_is, less_one) below_fits

  pub below_is : lt_z (read_back a) (pos 0) ≡ true → read_back (negsuc 0 -ℤ to_z w64 (m / b)) ≡ floor_div a (pos b)
  below_is h = read_back_is less_fits ∙ rw (q_is, less_one, m_is) (floor_below a b (rw (read_back_is f) at h))

  pub above_is : lt_z (read_back a) (pos 0) ≡ false → to_z w64 (m / b) ≡ floor_div a (pos b)
  above_is h = rw (q_is, m_is) (floor_above a b (rw (read_back_is f) at h))

-- ---- a divisor below 0: both numbers negated

flip_both : (a b z : ℤ) (n : ℕ) → lt_z b (pos 0) ≡ true → z ≡ pos 0 -ℤ a → pos n ≡ pos 0 -ℤ b → floor_div z (pos n) ≡ floor_div a b
unfolding floor_div
flip_both a (pos k) z n h e q = absurd (omega (arithℤ, lt_z_true (pos k) (pos 0) h))
flip_both (pos zero) (negsuc k) z n h e q =
    let d : z ≡ pos 0 = omega (arithℤ, e, diff_parts (pos 0) (pos 0)) in
    rw (d, zero-div) refl
flip_both (pos (suc a)) (negsuc k) z n h e q =
    let d : z ≡ negsuc a = omega (arithℤ, e, diff_parts (pos 0) (pos (suc a))) in
    let b : n ≡ suc k = omega (arithℤ, q, diff_parts (pos 0) (negsuc k)) in
    rw (d, b) refl
flip_both (negsuc a) (negsuc k) z n h e q =
    let d : z ≡ pos (suc a) = omega (arithℤ, e, diff_parts (pos 0) (negsuc a)) in
    let b : n ≡ suc k = omega (arithℤ, q, diff_parts (pos 0) (negsuc k)) in
    rw (d, b) refl

module _ {a : ℤ} (f : SFits w64 a) (s : Small a) where
  pub negated_fits : SFits w64 (pos 0 -ℤ read_back a)
  negated_fits = omega (arith_machine, s, diff_parts (pos 0) (read_back a), back_parts f)

  negated_is : read_back (pos 0 -ℤ read_back a) ≡ pos 0 -ℤ a
  negated_is = read_back_is negated_fits ∙ rw (read_back_is f) refl

  pub negated_small : Small (read_back (pos 0 -ℤ read_back a))
  negated_small = rw negated_is (omega (arithℤ, s, diff_parts (pos 0) a))

  module _ (h : lt_z (read_back a) (pos 0) ≡ true) where
    above : pos 0 ≤ℤ (pos 0 -ℤ read_back a)
    above = omega (arithℤ, lt_z_true (read_back a) (pos 0) h, diff_parts (pos 0) (read_back a))

    negated_abs : pos (nat_abs (read_back (pos 0 -ℤ read_back a))) ≡ pos 0 -ℤ a
    negated_abs = cast_value negated_fits above ∙ rw (read_back_is f) refl

    pub negated_pos : 0 < nat_abs (read_back (pos 0 -ℤ read_back a))
    negated_pos = omega (arith_machine, negated_abs, lt_z_true (read_back a) (pos 0) h, back_parts f, diff_parts (pos 0) a)

    pub negated_cast : T (non_neg (read_back (pos 0 -ℤ read_back a))) × Fits w32 (nat_abs (read_back (pos 0 -ℤ read_back a)))
    negated_cast = (rw (read_back_is negated_fits) (yes_non_neg above), record { fits = omega (arithℤ, negated_abs, s, diff_parts (pos 0) a) })

pub floor_flipped : {a b r : ℤ} (f : SFits w64 a) (s : Small a) (g : SFits w64 b) (t : Small b) → SFits w64 r → lt_z (read_back b) (pos 0) ≡ true
    → r ≡ floor_div (read_back (pos 0 -ℤ read_back a)) (pos (nat_abs (read_back (pos 0 -ℤ read_back b)))) → read_back r ≡ floor_div a b
floor_flipped {a} {b} f s g t fit h e = read_back_is fit ∙ e ∙ flip_both a b _ _ (rw (read_back_is g) at h) (negated_is f s) (negated_abs g t h)

-- one above 0
module _ {b : ℤ} (g : SFits w64 b) (h : lt_z (read_back b) (pos 0) ≡ false) where
  plain_abs : pos (nat_abs (read_back b)) ≡ b
  plain_abs = cast_value g (omega (arith_machine, lt_z_false (read_back b) (pos 0) h, back_parts g))

  pub plain_pos : (b ≡ pos 0 → ⊥) → 0 < nat_abs (read_back b)
  plain_pos n = pos_of_ne-zero (λ e. n (sym plain_abs ∙ ap pos e))

  pub floor_plain : {a r : ℤ} → SFits w64 a → SFits w64 r → r ≡ floor_div (read_back a) (pos (nat_abs (read_back b))) → read_back r ≡ floor_div a b
  floor_plain f fit e = read_back_is fit ∙ e ∙ rw (read_back_is f, plain_abs) refl
