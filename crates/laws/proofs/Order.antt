-- Order of integers: one of two cases, equality by a test, intervals.
use mathlib.Core.Path.{◌≡◌, sym, ◌∙◌}
use mathlib.Core.Bool.{true, false, ◌&&◌, true≢false}
use mathlib.Core.Logic.{◌⊎◌, inl, inr}
use lib.IntN.{ℤ, pos, negsuc}
use lib.Signed.{le_z, lt_z, ◌≤ℤ◌, ◌<ℤ◌, ≤ℤ_refl}
use Rattle.laws.specs.Integers.{Within, same_z}
use Rattle.laws.proofs.Booleans.{bool_cases, and_true, and_true_of}
use Rattle.laws.proofs.Parts.{arithℤ, of_lt, of_le, lt_z_true, lt_z_false, le_z_true, le_le_z}

-- one of two cases
pub sign : (z : ℤ) → (pos 0 ≤ℤ z) ⊎ (z <ℤ pos 0)
sign (pos n) = inl (omega arithℤ)
sign (negsuc n) = inr (omega arithℤ)

pub order : (a b : ℤ) → (a <ℤ b) ⊎ (b ≤ℤ a)
order a b = bool_cases (lt_z a b) (λ e. inl (of_lt (lt_z_true a b e))) (λ e. inr (of_le (lt_z_false a b e)))

-- equality by a test
pub same_is : {a b : ℤ} → same_z a b ≡ true → a ≡ b
same_is {a} {b} e =
    let h = and_true (le_z a b) (le_z b a) e in
    omega (arithℤ, le_z_true a b h.0, le_z_true b a h.1)

pub is_same : (a : ℤ) → same_z a a ≡ true
is_same a = rw (le_le_z (≤ℤ_refl a))

pub differs : {a b : ℤ} → same_z a b ≡ false → a ≡ b → ⊥
differs {a} {b} n e = true≢false (sym (is_same b) ∙ rw e at n)

-- an interval, by a test and back
pub within_of : {x lo hi : ℤ} → (le_z lo x && le_z x hi) ≡ true → Within x lo hi
within_of {x} {lo} {hi} e =
    let h = and_true (le_z lo x) (le_z x hi) e in
    omega (arithℤ, le_z_true lo x h.0, le_z_true x hi h.1)

pub of_within : {x lo hi : ℤ} → Within x lo hi → (le_z lo x && le_z x hi) ≡ true
of_within {x} {lo} {hi} h = and_true_of (le_z lo x) (le_z x hi) (le_le_z h.low) (le_le_z h.high)
