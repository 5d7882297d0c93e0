-- A number between limits, told by differences that wrap. Numbers are lifted by 2^63, so that their order is that of naturals.
use Rattle.std.proofs.Common.{◌≡◌, ℕ, ◌+◌, ◌-◌, ◌%◌, ◌^◌, ◌<◌, ◌≤◌, true, false, ◌&&◌, T, ℤ, pos, ◌+ℤ◌, nat_abs, ◌≤ℤ◌, ◌∙◌, mod-eq_of_lt, arith, w64, Fits, SFits}
use lib.Bits.{bit_or, or_add_and, and_le_l, and_le_r}
use lib.Signed.{lt_z, le_z, non_neg}
use Rattle.laws.specs.Integers.{Within}
use Rattle.laws.proofs.Machine.{read_back, read_back_is, arith_machine, fit_parts, back_parts, cast_index, cast_value}
use Rattle.laws.proofs.Order.{of_within}
use Rattle.laws.proofs.Parts.{arithℤ, add_parts, le_lt_z}

-- ---- a number lifted, as the code computes it

-- one below 0, first by 2^63 - 1 and then by 1
module _ {x : ℤ} (f : SFits w64 x) (h : lt_z (read_back x) (pos 0) ≡ true) where
  abbrev raised : ℤ
  raised = read_back x +ℤ pos 9223372036854775807

  pub raised_fits : SFits w64 (read_back x +ℤ pos 9223372036854775807)
  raised_fits = omega (arith_machine, add_parts (read_back x) (pos 9223372036854775807), fit_parts f)

  abbrev lift : ℤ
  lift = read_back raised +ℤ pos 1

  lift_is : lift ≡ x +ℤ pos 9223372036854775808
  lift_is = omega (arith_machine, add_parts (read_back x) (pos 9223372036854775807), add_parts (read_back raised) (pos 1), add_parts x (pos 9223372036854775808), back_parts f, back_parts raised_fits)

  above : pos 0 ≤ℤ lift
  above = omega (arith_machine, lift_is, add_parts x (pos 9223372036854775808), fit_parts f)

  pub lift_fits : SFits w64 (read_back (read_back x +ℤ pos 9223372036854775807) +ℤ pos 1)
  lift_fits = omega (arith_machine, lift_is, add_parts x (pos 9223372036854775808), fit_parts f)

  pub lift_cast : T (non_neg (read_back (read_back (read_back x +ℤ pos 9223372036854775807) +ℤ pos 1))) × Fits w64 (nat_abs (read_back (read_back (read_back x +ℤ pos 9223372036854775807) +ℤ pos 1)))
  lift_cast = cast_index lift_fits (rw (read_back_is lift_fits) (le_lt_z above))

  pub below_lifted : pos (nat_abs (read_back (read_back (read_back x +ℤ pos 9223372036854775807) +ℤ pos 1))) ≡ x +ℤ pos 9223372036854775808
  below_lifted = cast_value lift_fits above ∙ lift_is

-- one from 0 on
module _ {x : ℤ} (f : SFits w64 x) (h : lt_z (read_back x) (pos 0) ≡ false) where
  same : pos (nat_abs (read_back x)) ≡ x
  same = cast_value f (omega (arith_machine, back_parts f))

  pub sum_fits : Fits w64 (nat_abs (read_back x) + 9223372036854775808)
  sum_fits = record { fits = omega (arith_machine, same, fit_parts f) }

  pub from_lifted : pos (nat_abs (read_back x) + 9223372036854775808) ≡ x +ℤ pos 9223372036854775808
  from_lifted = omega (arith_machine, same, add_parts x (pos 9223372036854775808))

-- ---- between limits

-- two numbers are below 2^k where their bits together are
pub or_below : (a b k : ℕ) → bit_or a b < k → (a < k) × (b < k)
or_below a b k h = (omega (arith, or_add_and a b, and_le_r a b), omega (arith, or_add_and a b, and_le_l a b))

-- the order of lifted numbers is theirs
module _ {a b : ℤ} {m n : ℕ} (p : pos m ≡ a +ℤ pos 9223372036854775808) (q : pos n ≡ b +ℤ pos 9223372036854775808) where
  lifted_le : m ≤ n → a ≤ℤ b
  lifted_le h = omega (arithℤ, p, q, add_parts a (pos 9223372036854775808), add_parts b (pos 9223372036854775808))

  pub le_lifted : a ≤ℤ b → m ≤ n
  le_lifted h = omega (arithℤ, p, q, add_parts a (pos 9223372036854775808), add_parts b (pos 9223372036854775808))

-- how far a number lies above the low limit, and the high limit above the number: neither wraps where both are below 2^63
module _ (low value high over rest : ℕ) (l : low ≤ high) (h : high < 2 ^ 64) (e : (over + low) % 2 ^ 64 ≡ value) (g : (rest + over) % 2 ^ 64 ≡ high - low)
    (a : over < 2 ^ 63) (b : rest < 2 ^ 63) where
  whole : rest + over ≡ high - low
  whole = let same : (rest + over) % 2 ^ 64 ≡ rest + over = mod-eq_of_lt (omega arith) in omega arith

  reached : over + low ≡ value
  reached = let same : (over + low) % 2 ^ 64 ≡ over + low = mod-eq_of_lt (omega (arith, whole)) in omega arith

  low_reached : low ≤ value
  low_reached = omega (arith, reached)

  high_kept : value ≤ high
  high_kept = omega (arith, reached, whole)

-- so it is between limits
module _ (value low high : ℤ) (v l h over rest : ℕ) (lv : pos v ≡ value +ℤ pos 9223372036854775808) (ll : pos l ≡ low +ℤ pos 9223372036854775808)
    (lh : pos h ≡ high +ℤ pos 9223372036854775808) where
  pub inside_limits : low ≤ℤ high → h < 2 ^ 64 → (over + l) % 2 ^ 64 ≡ v → (rest + over) % 2 ^ 64 ≡ h - l → bit_or over rest < 2 ^ 63
      → (le_z low value && le_z value high) ≡ true
  inside_limits k f e g small =
      let both = or_below over rest (2 ^ 63) small in
      let order = le_lifted ll lh k in
      let inside : Within value low high = record {
        low = lifted_le ll lv (low_reached l v h over rest order f e g both.0 both.1);
        high = lifted_le lv lh (high_kept l v h over rest order f e g both.0 both.1);
      } in
      of_within inside
