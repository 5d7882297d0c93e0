-- Whole numbers: an interval, least and greatest, floored division.
use Rattle.std.specs.Prelude.{zero, suc, ◌/◌, Bool, ◌&&◌, cond, ℤ, pos, negsuc, ◌+ℤ◌, ◌-ℤ◌, ◌*ℤ◌, ◌≤ℤ◌, ◌<ℤ◌}
use Rattle.std.specs.Int.Signed.{lt_z, le_z}

-- lo ≤ x ≤ hi
pub record Within (x lo hi : ℤ) : Type 0 where
  pub low : lo ≤ℤ x
  pub high : x ≤ℤ hi

abbrev pub same_z : ℤ → ℤ → Bool
same_z a b = le_z a b && le_z b a

unfoldable pub min_z : ℤ → ℤ → ℤ
min_z a b = cond (lt_z b a) b a

unfoldable pub max_z : ℤ → ℤ → ℤ
max_z a b = cond (lt_z a b) b a

unfoldable pub min4 : ℤ → ℤ → ℤ → ℤ → ℤ
min4 a b c d = min_z (min_z a b) (min_z c d)

unfoldable pub max4 : ℤ → ℤ → ℤ → ℤ → ℤ
max4 a b c d = max_z (max_z a b) (max_z c d)

-- The floor of a / b, by the signs; negsuc n is −(n + 1). By 0 it is 0 or −1, and no rule asks for that.
unfoldable pub floor_div : ℤ → ℤ → ℤ
floor_div (pos a) (pos b) = pos (a / b)
floor_div (negsuc a) (pos b) = negsuc (a / b)
floor_div (pos zero) (negsuc b) = pos 0
floor_div (pos (suc a)) (negsuc b) = negsuc (a / suc b)
floor_div (negsuc a) (negsuc b) = pos (suc a / suc b)

-- What the floor q of a / b means: b·q is the last multiple of b not beyond a. proofs/Floor.antt shows that floor_div is the only such q.
pub record FloorUp (a b q : ℤ) : Type 0 where
  pub below : (b *ℤ q) ≤ℤ a
  pub above : a <ℤ (b *ℤ q +ℤ b)

-- the same for b below 0
pub record FloorDown (a b q : ℤ) : Type 0 where
  pub below : a ≤ℤ (b *ℤ q)
  pub above : (b *ℤ q +ℤ b) <ℤ a

-- a − b·floor(a/b)
unfoldable pub floor_mod : ℤ → ℤ → ℤ
floor_mod a b = a -ℤ b *ℤ floor_div a b
