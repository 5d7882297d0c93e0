-- A sum of n numbers of an interval, one number at a time as a left fold adds them.
use Prim.Native.Nat.{ℕ, suc}
use lib.IntN.{ℤ, pos, ◌+ℤ◌, ◌*ℤ◌}
use Rattle.laws.specs.Integers.{Within}
use Rattle.laws.proofs.Parts.{arithℤ, add_parts, mul_parts}

-- k numbers of [lo, hi] have their sum in [k·lo, k·hi]: for one, and from k to k + 1
pub sum_one : {x lo hi : ℤ} → Within x lo hi → Within x (pos 1 *ℤ lo) (pos 1 *ℤ hi)
sum_one {x} {lo} {hi} w = omega (arithℤ, mul_parts (pos 1) lo, mul_parts (pos 1) hi)

pub sum_step : (k : ℕ) {t x lo hi : ℤ} → Within t (pos k *ℤ lo) (pos k *ℤ hi) → Within x lo hi
    → Within (t +ℤ x) (pos (suc k) *ℤ lo) (pos (suc k) *ℤ hi)
sum_step k {t} {x} {lo} {hi} r w =
    omega (arithℤ, add_parts t x, mul_parts (pos (suc k)) lo, mul_parts (pos k) lo, mul_parts (pos (suc k)) hi, mul_parts (pos k) hi)
