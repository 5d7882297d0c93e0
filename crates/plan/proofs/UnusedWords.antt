-- Rule 3 by the mask of used words, as its loop asks for it.
use Prim.Native.Nat.{ℕ, zero, suc, ◌+◌, ◌-◌, ◌<◌, ◌≤◌, ◌^◌, ◌/◌, ◌%◌}
use mathlib.Core.Path.{◌≡◌, refl}
use mathlib.Core.Bool.{Bool, true, false, ◌&&◌, ◌||◌, cond}
use mathlib.Core.List.{List}
use native.Mathlib.Numerals.{add-one}
use native.Mathlib.Omega.{arith}
use borrow.Author.Tests.{ne_eqb}
use lib.Bits.{bit_or, or_zero_l, or_add_and, and_le_r}
use lib.IntN.{ℤ, pos, negsuc}
use lib.Dec.{eqb, eqb-suc-zero}
use lib.ListN.{get_or}
use mir.Syntax.{w64}
use mir.Val.{SFits, of_z}
use Rattle.laws.specs.Lists.{all_below}
use Rattle.laws.proofs.Booleans.{all_below_snoc}
use Rattle.plan.specs.Operations.{uses, masks, operation_count}
use Rattle.plan.specs.Words.{size_of, word_at, unused_zero}
use Rattle.plan.proofs.Masks.{mask_bit}

-- word k is used or zero
abbrev pub used_or_zero : ℕ → List ℤ → ℕ → Bool
used_or_zero op w k = eqb k 0 || (uses op k || eqb (size_of (word_at w k)) 0)

-- bits that are put together are zero where both are
or_zero : (a b : ℕ) → eqb (bit_or a b) 0 ≡ (eqb a 0 && eqb b 0)
or_zero zero b = rw (or_zero_l b) refl
or_zero (suc a) b =
    rw (eqb-suc-zero) (ne_eqb (bit_or (suc a) b) 0 (λ (e : bit_or (suc a) b ≡ 0). omega (arith, or_add_and (suc a) b, and_le_r (suc a) b, e)))

-- the bits of a word are zero where the word is
bits_zero : (z : ℤ) → SFits w64 z → eqb (of_z w64 z) 0 ≡ eqb (size_of z) 0
unfolding size_of
bits_zero (pos n) f = refl
bits_zero (negsuc n) f = ne_eqb (2 ^ 64 - suc n) 0 (λ (e : 2 ^ 64 - suc n ≡ 0). omega (arith, f.sfits, e))

unused_bits : (used : Bool) (z : ℤ) → SFits w64 z → eqb (of_z w64 (cond used (pos 0) z)) 0 ≡ (used || eqb (size_of z) 0)
unused_bits true z f = refl
unused_bits false z f = bits_zero z f

-- one word more
pub zero_more : {op mask : ℕ} (w : List ℤ) (k bits : ℕ) (used : Bool) (word : ℤ) → op < operation_count → mask ≡ get_or masks op 0 → 1 ≤ k → k < 17
    → eqb bits 0 ≡ all_below k (used_or_zero op w) → used ≡ eqb (mask / 2 ^ k % 2) 1 → SFits w64 (word_at w k) → word ≡ cond used (pos 0) (word_at w k)
    → eqb (bit_or bits (of_z w64 word)) 0 ≡ all_below (k + 1) (used_or_zero op w)
zero_more {op} w (suc k) bits used word m i l h e b f q =
    rw (add-one, all_below_snoc (suc k) (used_or_zero op w), or_zero bits (of_z w64 word), q, unused_bits used (word_at w (suc k)) f, e, b, i, mask_bit op (suc k) m h, eqb-suc-zero) refl
zero_more {op = op} {mask = mask} w zero bits used word m i l h e b f q = elim l [ ]

-- no word before the first: word 0 is the operation
pub zero_none : (op : ℕ) (w : List ℤ) → eqb 0 0 ≡ all_below 1 (used_or_zero op w)
unfolding all_below
zero_none op w = refl

-- all seventeen words
pub zero_done : (op : ℕ) (w : List ℤ) (k : ℕ) (so_far : Bool) → k ≤ 17 → 17 ≤ k → so_far ≡ all_below k (used_or_zero op w) → so_far ≡ unused_zero op w
unfolding unused_zero
zero_done op w k so_far l h e = let q : k ≡ 17 = omega arith in rw q at e
