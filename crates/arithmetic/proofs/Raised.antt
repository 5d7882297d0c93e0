-- Numbers of 32 bits raised by 2^31, and which of two is less: the highest bit of their difference in 64 bits.
use Rattle.std.proofs.Common.{◌≡◌, ℕ, ◌+◌, ◌-◌, ◌/◌, ◌%◌, ◌<◌, ◌≤◌, cond, ℤ, pos, ◌+ℤ◌, nat_abs, ◌≤ℤ◌, refl, ◌∙◌, arith, w64, SFits, to_z}
use lib.Signed.{lt_z}
use Rattle.laws.proofs.Booleans.{bool_cases}
use Rattle.laws.proofs.Machine.{Small, read_back, read_back_is, arith_machine, back_parts, cast_value}
use Rattle.laws.proofs.Parts.{arithℤ, add_parts, lt_z_true, lt_z_false}

-- a number raised by 2^31, as the code computes it
module _ {x : ℤ} (f : SFits w64 x) (s : Small x) where
  raised_fits : SFits w64 (read_back x +ℤ pos 2147483648)
  raised_fits = omega (arith_machine, s, add_parts (read_back x) (pos 2147483648), back_parts f)

  above : pos 0 ≤ℤ (read_back x +ℤ pos 2147483648)
  above = omega (arith_machine, s, add_parts (read_back x) (pos 2147483648), back_parts f)

  pub raised_is : pos (nat_abs (read_back (read_back x +ℤ pos 2147483648))) ≡ x +ℤ pos 2147483648
  raised_is = cast_value raised_fits above ∙ rw (read_back_is f) refl

-- a - b in 64 bits
module _ (a b : ℕ) where
  abbrev difference : ℕ
  difference = (a + (18446744073709551616 - b)) % 18446744073709551616

  highest_set : a < b → b ≤ 4294967296 → difference / 9223372036854775808 ≡ 1
  highest_set l h = omega arith

  highest_clear : b ≤ a → a ≤ 4294967296 → difference / 9223372036854775808 ≡ 0
  highest_clear l h = omega arith

pub less_bit : (x y : ℤ) (a b : ℕ) → Small x → Small y → pos a ≡ x +ℤ pos 2147483648 → pos b ≡ y +ℤ pos 2147483648
    → to_z w64 (difference a b / 9223372036854775808) ≡ cond (lt_z x y) (pos 1) (pos 0)
less_bit x y a b s t p q =
    let px = add_parts x (pos 2147483648) in
    let py = add_parts y (pos 2147483648) in
    bool_cases (lt_z x y)
    (λ k. rw (k, highest_set a b (omega (arithℤ, px, py, p, q, lt_z_true x y k)) (omega (arithℤ, px, py, p, q, t))) refl)
    (λ k. rw (k, highest_clear a b (omega (arithℤ, px, py, p, q, lt_z_false x y k)) (omega (arithℤ, px, py, p, q, s))) refl)
