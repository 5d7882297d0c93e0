-- Floored division by a power of two: shifts of the number raised by 2^31.
use Rattle.std.proofs.Common.{◌≡◌, ℕ, ◌+◌, ◌-◌, ◌*◌, ◌/◌, ◌%◌, ◌^◌, ◌<◌, ◌≤◌, ℤ, pos, ◌+ℤ◌, ◌-ℤ◌, ◌*ℤ◌, ◌<ℤ◌, sym, refl, ap, ◌∙◌, mod-lt, one-mul, arith, pow_pos, pow_mono, pow-add, shl_exact, w64, SFits, to_z}
use native.Mathlib.Nat.{div-add-mod}
use lib.Pow.{shl-shr, shr_le}
use lib.IntN.{*ℤ_comm}
use mir.Facts.{to_z_pos}
use Rattle.laws.specs.Integers.{floor_div, floor_mod}
use Rattle.laws.proofs.Floor.{floor_unique_up, floor_up, mod_up}
use Rattle.laws.proofs.Machine.{Small, read_back, read_back_is, arith_machine}
use Rattle.laws.proofs.Parts.{arithℤ, add_parts, diff_parts, mul_parts}

-- 2^31 shifted is the power that is left
least_shifted : {k : ℕ} → k < 32 → 2147483648 / 2 ^ k * 2 ^ k ≡ 2147483648
least_shifted {k} h =
    let n : 31 ≡ (31 - k) + k = omega arith in
    let e : 2147483648 ≡ 2 ^ (31 - k) * 2 ^ k = ap (λ (i : ℕ). 2 ^ i) n ∙ pow-add 2 (31 - k) k in
    ap (λ (i : ℕ). i * 2 ^ k) (ap (λ (i : ℕ). i / 2 ^ k) e ∙ shl-shr (2 ^ (31 - k)) k) ∙ sym e

pub least_fits : (k : ℕ) → SFits w64 (pos (2147483648 / 2 ^ k))
least_fits k = omega (arith_machine, shr_le 2147483648 k)

-- a is x raised
module _ {x : ℤ} {a : ℕ} (k : ℕ) (s : Small x) (e : pos a ≡ x +ℤ pos 2147483648) where
  raised_le : a ≤ 4294967296
  raised_le = omega (arithℤ, s, add_parts x (pos 2147483648))

  pub shift_fits : SFits w64 (pos (a / 2 ^ k))
  shift_fits = omega (arith_machine, shr_le a k, raised_le)

  difference_fits : SFits w64 (pos (a / 2 ^ k) -ℤ pos (2147483648 / 2 ^ k))
  difference_fits = omega (arith_machine, diff_parts (pos (a / 2 ^ k)) (pos (2147483648 / 2 ^ k)), shr_le a k, shr_le 2147483648 k, raised_le)

  floor_shifted : k < 32 → pos (a / 2 ^ k) -ℤ pos (2147483648 / 2 ^ k) ≡ floor_div x (pos (2 ^ k))
  floor_shifted h =
      let d = pos (a / 2 ^ k) -ℤ pos (2147483648 / 2 ^ k) in
      let p : pos 0 <ℤ pos (2 ^ k) = omega (arithℤ, pow_pos k) in
      floor_unique_up p
      (omega (
        arithℤ,
        least_shifted h,
        div-add-mod a (2 ^ k),
        mod-lt a (pow_pos k),
        add_parts x (pos 2147483648),
        ap (λ (n : ℕ). 2 ^ k * n) (diff_parts (pos (a / 2 ^ k)) (pos (2147483648 / 2 ^ k))),
        mul_parts (pos (2 ^ k)) d,
        add_parts (pos (2 ^ k) *ℤ d) (pos (2 ^ k)),
      ))

  -- the same as the code computes it
  pub shift_sub_fits : SFits w64 (to_z w64 (a / 2 ^ k) -ℤ to_z w64 (2147483648 / 2 ^ k))
  shift_sub_fits = rw (to_z_pos w64 shift_fits.sfits, to_z_pos w64 (least_fits k).sfits) difference_fits

  pub shift_sub : k < 32 → read_back (to_z w64 (a / 2 ^ k) -ℤ to_z w64 (2147483648 / 2 ^ k)) ≡ floor_div x (pos (2 ^ k))
  shift_sub h = read_back_is shift_sub_fits ∙ rw (to_z_pos w64 shift_fits.sfits, to_z_pos w64 (least_fits k).sfits) (floor_shifted h)

-- 2^k, as the code shifts it
power_read : {k : ℕ} → k < 32 → to_z w64 ((1 * 2 ^ k) % 18446744073709551616) ≡ pos (2 ^ k)
power_read {k} h =
    let e : (1 * 2 ^ k) % 2 ^ 64 ≡ 1 * 2 ^ k = shl_exact 1 k 64 (omega arith) (omega arith) in
    rw (e, one-mul) (to_z_pos w64 (omega (arith, pow_mono {i = k} {j = 31} (omega arith))))

-- q is the quotient of x
module _ {x q : ℤ} {k : ℕ} (s : Small x) (h : k < 32) (f : SFits w64 x) (g : SFits w64 q) (e : q ≡ floor_div (read_back x) (pos (2 ^ k))) where
  multiple : read_back q *ℤ to_z w64 ((1 * 2 ^ k) % 18446744073709551616) ≡ pos (2 ^ k) *ℤ floor_div x (pos (2 ^ k))
  multiple = rw (power_read h, read_back_is g, e, read_back_is f) (*ℤ_comm (floor_div x (pos (2 ^ k))) (pos (2 ^ k)))

  multiple_small : SFits w64 (pos (2 ^ k) *ℤ floor_div x (pos (2 ^ k)))
  multiple_small =
      omega (arith_machine, s, floor_up x (pos (2 ^ k)) (omega (arithℤ, pow_pos k)), add_parts (pos (2 ^ k) *ℤ floor_div x (pos (2 ^ k))) (pos (2 ^ k)), pow_mono {i = k} {j = 31} (omega arith))

  pub multiple_fits : SFits w64 (read_back q *ℤ to_z w64 ((1 * 2 ^ k) % 18446744073709551616))
  multiple_fits = rw multiple multiple_small

  remainder : read_back x -ℤ read_back (read_back q *ℤ to_z w64 ((1 * 2 ^ k) % 18446744073709551616)) ≡ floor_mod x (pos (2 ^ k))
  unfolding floor_mod
  remainder = rw (read_back_is multiple_fits, multiple, read_back_is f) refl

  remainder_small : SFits w64 (floor_mod x (pos (2 ^ k)))
  remainder_small = omega (arith_machine, mod_up x (pos (2 ^ k)) (omega (arithℤ, pow_pos k)), pow_mono {i = k} {j = 31} (omega arith))

  pub remainder_fits : SFits w64 (read_back x -ℤ read_back (read_back q *ℤ to_z w64 ((1 * 2 ^ k) % 18446744073709551616)))
  remainder_fits = rw remainder remainder_small

  pub remainder_is : read_back (read_back x -ℤ read_back (read_back q *ℤ to_z w64 ((1 * 2 ^ k) % 18446744073709551616))) ≡ floor_mod x (pos (2 ^ k))
  remainder_is = read_back_is remainder_fits ∙ remainder
