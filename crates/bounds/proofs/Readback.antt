-- What the code's sums and calls give, read back from their bits.
use Prim.Native.Nat.{ℕ, ◌<◌, ◌≤◌}
use mathlib.Core.Path.{◌≡◌, refl, ◌∙◌}
use native.Mathlib.Nat.{div-zero}
use native.Mathlib.Omega.{arith}
use lib.IntN.{ℤ, pos, negsuc, ◌+ℤ◌, ◌*ℤ◌}
use lib.Signed.{lt_z, mag}
use mathlib.Core.Bool.{true, false}
use mir.Facts.{to_z-of_z, to_z_pos}
use mir.Syntax.{w32, w64}
use mir.Val.{SFits, to_z, of_z}
use Rattle.laws.specs.Integers.{Within, floor_div}
use Rattle.laws.proofs.Absolute.{abs_le}
use Rattle.laws.proofs.Parts.{arithℤ, add_parts, lt_z_true, lt_z_false}
use Rattle.laws.proofs.Machine.{Small, small_fits, read_back, read_back_is, arith_machine, fit_parts, bits_is, fit_mul}
use Rattle.plan.specs.declared.Interval.{Interval}

-- a call of two numbers
pub back : (f : ℤ → ℤ → ℤ) {x y r : ℤ} → SFits w64 x → SFits w64 y → SFits w64 r → r ≡ f (read_back x) (read_back y) → read_back r ≡ f x y
back f p q s e = read_back_is s ∙ e ∙ rw (read_back_is p, read_back_is q) refl

-- two such calls, as the ends of an interval
pub ends_back : (f g : ℤ → ℤ → ℤ) {a b c d l h : ℤ} → SFits w64 a → SFits w64 b → SFits w64 c → SFits w64 d → SFits w64 l → SFits w64 h
    → l ≡ f (read_back a) (read_back b) → h ≡ g (read_back c) (read_back d) → ◌≡◌ {A = Interval} (record { low = read_back l; high = read_back h }) (record { low = f a b; high = g c d })
ends_back f g p q r s u v e k = rw (back f p q u e, back g r s v k) refl

-- a sum of two small numbers
pub sum_fits : {a b : ℤ} → Small a → Small b → SFits w64 (a +ℤ b)
sum_fits {a} {b} p q = omega (arith_machine, add_parts a b)

pub read_sum_fits : {a b : ℤ} → Small a → Small b → SFits w64 (read_back a +ℤ read_back b)
read_sum_fits {a} {b} p q = rw (read_back_is (small_fits p), read_back_is (small_fits q)) (sum_fits p q)

pub read_sum : {a b : ℤ} → Small a → Small b → read_back (read_back a +ℤ read_back b) ≡ a +ℤ b
read_sum {a} {b} p q = rw (read_back_is (small_fits p), read_back_is (small_fits q)) (read_back_is (sum_fits p q))

-- the floor at a divisor of 0
pub by_zero_below : {a b : ℤ} → SFits w64 a → SFits w64 b → of_z w64 b ≡ 0 → lt_z (read_back a) (pos 0) ≡ true → negsuc 0 ≡ floor_div a b
unfolding floor_div
by_zero_below {a} {b} f g e l = rw (bits_is g e) (go a (rw (read_back_is f) at l))
  where
    go : (a : ℤ) → lt_z a (pos 0) ≡ true → negsuc 0 ≡ floor_div a (pos 0)
    go (pos n) l = absurd (omega (arithℤ, lt_z_true (pos n) (pos 0) l))
    go (negsuc n) l = rw div-zero refl

pub by_zero_above : {a b : ℤ} → SFits w64 a → SFits w64 b → of_z w64 b ≡ 0 → lt_z (read_back a) (pos 0) ≡ false → pos 0 ≡ floor_div a b
unfolding floor_div
by_zero_above {a} {b} f g e l = rw (bits_is g e) (go a (rw (read_back_is f) at l))
  where
    go : (a : ℤ) → lt_z a (pos 0) ≡ false → pos 0 ≡ floor_div a (pos 0)
    go (pos n) l = rw div-zero refl
    go (negsuc n) l = absurd (omega (arithℤ, lt_z_false (negsuc n) (pos 0) l))

-- ---- 32-bit numbers

pub fit32 : (z : ℤ) → mag z < 2147483648 → SFits w32 z
fit32 z p = record { sfits = p }

pub fit32_small : {z : ℤ} → SFits w32 z → Small z
fit32_small {z} f = omega (arith_machine, fit_parts f)

-- a 32-bit number, widened
pub widened_fits : {z : ℤ} → SFits w32 z → SFits w64 (to_z w32 (of_z w32 z))
widened_fits {z} f = rw (to_z-of_z f) (small_fits (fit32_small f))

pub widened : {z : ℤ} → SFits w32 z → read_back (to_z w32 (of_z w32 z)) ≡ z
widened {z} f = rw (to_z-of_z f) (read_back_is (small_fits (fit32_small f)))

-- a number within 32 bits, narrowed
narrow_fits : {z : ℤ} → Within z (negsuc 2147483647) (pos 2147483647) → SFits w32 z
narrow_fits {z} w = omega (arith_machine, w)

pub narrowed_fits : {z : ℤ} → SFits w64 z → Within z (negsuc 2147483647) (pos 2147483647) → SFits w32 (read_back z)
narrowed_fits f w = rw (read_back_is f) (narrow_fits w)

pub narrowed : {z : ℤ} → SFits w64 z → Within z (negsuc 2147483647) (pos 2147483647) → to_z w32 (of_z w32 (read_back z)) ≡ z
narrowed f w = rw (read_back_is f) (to_z-of_z (narrow_fits w))

-- ---- n times a small number

count_is : {n : ℕ} → n ≤ 1048576 → to_z w64 n ≡ pos n
count_is h = to_z_pos w64 (omega arith)

times_fits : {n : ℕ} {a : ℤ} → n ≤ 1048576 → Small a → SFits w64 (pos n *ℤ a)
times_fits {n} {a} h s = fit_mul (pos n) a 1048576 2147483648 h (abs_le s) tt

pub read_times_fits : {n : ℕ} {a : ℤ} → n ≤ 1048576 → Small a → SFits w64 (to_z w64 n *ℤ read_back a)
read_times_fits h s = rw (count_is h, read_back_is (small_fits s)) (times_fits h s)

pub read_times : {n : ℕ} {a : ℤ} → n ≤ 1048576 → Small a → read_back (to_z w64 n *ℤ read_back a) ≡ pos n *ℤ a
read_times h s = rw (count_is h, read_back_is (small_fits s)) (read_back_is (times_fits h s))
