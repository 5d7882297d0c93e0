-- Sums of numbers of 32 bits, within 64.
use Prim.Native.Nat.{ℕ, ◌+◌, ◌*◌, ◌^◌, ◌≤◌, ◌<◌}
use mathlib.Core.Path.{◌≡◌}
use native.Mathlib.Omega.{arith}
use lib.IntN.{ℤ, pos, negsuc, nat_abs, ◌+ℤ◌}
use Rattle.laws.proofs.Absolute.{abs_le}
use Rattle.laws.proofs.Parts.{up, dn, arithℤ, add_parts, neg_parts}
use Rattle.laws.proofs.Machine.{Small}
use Rattle.reducing.specs.Laws.{FoldLaws}

abs_parts : (z : ℤ) → nat_abs z ≡ up z + dn z
abs_parts (pos n) = omega arith
abs_parts (negsuc n) = omega arith

pub abs_add : (a b : ℤ) → nat_abs (a +ℤ b) ≤ nat_abs a + nat_abs b
abs_add a b =
    let n : ℕ = nat_abs a + nat_abs b in
    abs_le {z = a +ℤ b} {n = n} (omega (arithℤ, add_parts a b, neg_parts (pos n), abs_parts a, abs_parts b))

pub small_abs : {z : ℤ} → Small z → nat_abs z ≤ 2147483648
small_abs {z} h = abs_le {z = z} {n = 2147483648} h

-- n numbers more can be added
abbrev pub SumRoom : ℕ → ℤ → Type 0
SumRoom n z = nat_abs z + n * 2147483648 < 2 ^ 63

pub sum_laws : FoldLaws ◌+ℤ◌ SumRoom Small
sum_laws = record {
  takes = λ n x y room small. omega (arith, abs_add x y, small_abs {z = y} small);
  less = λ n m x room few. omega arith;
}
