-- Numbers in decimal, as the code writes them.
use Prim.Native.Nat.{ℕ, suc, ◌+◌, ◌/◌, ◌%◌, ◌≤◌, ◌<◌}
use mathlib.Core.Path.{◌≡◌, refl}
use mathlib.Core.Bool.{true, false}
use mathlib.Core.List.{List, [], ◌∷◌}
use native.Mathlib.Omega.{arith}
use borrow.Author.Tests.{lt-ltb, le-ltb, ltb-true}
use lib.IntN.{ℤ, pos, negsuc, nat_abs}
use lib.Signed.{lt_z}
use mir.Syntax.{w64}
use mir.Val.{SFits}
use Rattle.laws.proofs.Machine.{read_back, read_back_is}
use Rattle.verifier.specs.Listing.{digits, decimal, signed, minus}
use Rattle.laws.specs.Pieces.{Writes}
use Rattle.laws.proofs.Pieces.{then, within, nothing}

-- ---- digits, the last one after the others

pub no_digits : (k n : ℕ) → k ≡ 0 → (l : List ℕ) (at : ℕ) → Writes (digits k n) k l at l at
unfolding digits
no_digits k n e l at = rw e (nothing l at)

module _ (k n j : ℕ) (e : k ≡ suc j) {before after : List ℕ} {at next : ℕ} where
  pub one_digit : n < 10 → Writes ((48 + n % 10) ∷ []) 1 before at after next → Writes (digits k n) k before at after next
  unfolding digits
  one_digit h w = rw (e, lt-ltb n 10 h) (within (suc j) w (omega arith))

  pub more_digits : 10 ≤ n → {mid : List ℕ} {place : ℕ} → Writes (digits j (n / 10)) j before at mid place
      → Writes ((48 + n % 10) ∷ []) 1 mid place after next → Writes (digits k n) k before at after next
  unfolding digits
  more_digits h v w = rw (e, le-ltb n 10 h) (within (suc j) (then v w) (omega arith))

-- ---- signed numbers

-- by the size of the number, as the code reads it
signed_below : (z : ℤ) → lt_z z (pos 0) ≡ true → minus ∷ decimal (nat_abs z) ≡ signed z
unfolding signed
signed_below (pos n) h = absurd (omega (arith, ltb-true n 0 h))
signed_below (negsuc n) h = refl

signed_from : (z : ℤ) → lt_z z (pos 0) ≡ false → decimal (nat_abs z) ≡ signed z
unfolding signed
signed_from (pos n) h = refl
signed_from (negsuc n) h = let e : ◌≡◌ {A = ℕ} 0 1 = cc in absurd (omega arith)

module _ {z : ℤ} {size : ℕ} (f : SFits w64 z) (e : size ≡ nat_abs (read_back z)) where
  pub minus_is : lt_z (read_back z) (pos 0) ≡ true → minus ∷ decimal size ≡ signed z
  minus_is h = rw (e, read_back_is f) (signed_below z (rw (read_back_is f) at h))

  pub plain_is : lt_z (read_back z) (pos 0) ≡ false → decimal size ≡ signed z
  plain_is h = rw (e, read_back_is f) (signed_from z (rw (read_back_is f) at h))
