-- An integer as the difference of two naturals, up z less dn z, so that linear facts of ℤ are linear facts of ℕ, which omega proves.
use mathlib.Core.Path.{◌≡◌, refl, sym, ap, subst}
use mathlib.Core.Bool.{Bool, true, false, not, cond}
use Prim.Native.Nat.{ℕ, zero, suc, ◌+◌, ◌*◌, ◌-◌, ◌≤◌, ◌<◌}
use native.Mathlib.Omega.{arith, by_contra}
use lib.Dec.{T, ltb, ltb→lt, nltb→le, leb→le, le→leb, lt→ltb}
use lib.IntN.{ℤ, pos, negsuc, neg_ℤ, sub_ℕ, ◌+ℤ◌, ◌-ℤ◌, ◌*ℤ◌}
use lib.Signed.{lt_z, le_z, ◌≤ℤ◌, ◌<ℤ◌, lt_z_no, lt_z_yes, clash_ℤ}

-- z is up z - dn z, and one of the two is 0
abbrev pub up : ℤ → ℕ
up (pos n) = n
up (negsuc n) = 0

abbrev pub dn : ℤ → ℕ
dn (pos n) = 0
dn (negsuc n) = suc n

-- what omega applies by itself: an order or an equation of integers, as one of naturals
pub le_parts : {a b : ℤ} → a ≤ℤ b → up a + dn b ≤ up b + dn a
le_parts {a = pos a} {b = pos b} h = omega (arith, leb→le a b h.le)
le_parts {a = pos a} {b = negsuc b} h = absurd h.le
le_parts {a = negsuc a} {b = pos b} h = omega arith
le_parts {a = negsuc a} {b = negsuc b} h = omega (arith, leb→le b a h.le)

pub lt_parts : {a b : ℤ} → a <ℤ b → up a + dn b < up b + dn a
lt_parts {a = pos a} {b = pos b} h = omega (arith, ltb→lt a b h.lt)
lt_parts {a = pos a} {b = negsuc b} h = absurd h.lt
lt_parts {a = negsuc a} {b = pos b} h = omega arith
lt_parts {a = negsuc a} {b = negsuc b} h = omega (arith, ltb→lt b a h.lt)

pub of_le : {a b : ℤ} → up a + dn b ≤ up b + dn a → a ≤ℤ b
of_le {a = pos a} {b = pos b} h = record { le = le→leb a b (omega arith) }
of_le {a = pos a} {b = negsuc b} h = absurd (omega arith)
of_le {a = negsuc a} {b = pos b} h = record { le = tt }
of_le {a = negsuc a} {b = negsuc b} h = record { le = le→leb b a (omega arith) }

pub of_lt : {a b : ℤ} → up a + dn b < up b + dn a → a <ℤ b
of_lt {a = pos a} {b = pos b} h = record { lt = lt→ltb a b (omega arith) }
of_lt {a = pos a} {b = negsuc b} h = absurd (omega arith)
of_lt {a = negsuc a} {b = pos b} h = record { lt = tt }
of_lt {a = negsuc a} {b = negsuc b} h = record { lt = lt→ltb b a (omega arith) }

pub eq_parts : {a b : ℤ} → a ≡ b → up a + dn b ≡ up b + dn a
eq_parts {a} {b} e = subst (λ (z : ℤ). up a + dn z ≡ up z + dn a) e refl

pub of_eq : {a b : ℤ} → up a + dn b ≡ up b + dn a → a ≡ b
of_eq {a = pos a} {b = pos b} h = ap pos (omega arith)
of_eq {a = pos a} {b = negsuc b} h = absurd (omega arith)
of_eq {a = negsuc a} {b = pos b} h = absurd (omega arith)
of_eq {a = negsuc a} {b = negsuc b} h = ap negsuc (omega arith)

-- what omega takes to prove a linear fact of ℤ: omega arithℤ
pub ruleset arithℤ = (arith, le_parts, lt_parts, of_le, of_lt, eq_parts, of_eq)

-- the parts of a negative, a sum, a difference, a product: facts to list
pub neg_parts : (a : ℤ) → up (neg_ℤ a) + up a ≡ dn a + dn (neg_ℤ a)
neg_parts (pos zero) = refl
neg_parts (pos (suc n)) = omega arith
neg_parts (negsuc n) = omega arith

sub_parts : (a b : ℕ) → up (sub_ℕ a b) + b ≡ a + dn (sub_ℕ a b)
sub_parts a b = by (ltb a b) (ltb→lt a b) (nltb→le a b)
  where
    by : (t : Bool) → (T t → a < b) → (T (not t) → b ≤ a)
        → up (cond t (negsuc (b - suc a)) (pos (a - b))) + b ≡ a + dn (cond t (negsuc (b - suc a)) (pos (a - b)))
    by true f g = omega (arith, f tt)
    by false f g = omega (arith, g tt)

pub add_parts : (a b : ℤ) → up (a +ℤ b) + (dn a + dn b) ≡ up a + up b + dn (a +ℤ b)
add_parts (pos a) (pos b) = omega arith
add_parts (pos a) (negsuc b) = omega (arith, sub_parts a (suc b))
add_parts (negsuc a) (pos b) = omega (arith, sub_parts b (suc a))
add_parts (negsuc a) (negsuc b) = omega arith

pub diff_parts : (a b : ℤ) → up (a -ℤ b) + (dn a + up b) ≡ up a + dn b + dn (a -ℤ b)
diff_parts a b = omega (arith, add_parts a (neg_ℤ b), neg_parts b)

neg_nat : (n : ℕ) → up (neg_ℤ (pos n)) + n ≡ dn (neg_ℤ (pos n))
neg_nat n = omega (arith, neg_parts (pos n))

pub mul_parts : (a b : ℤ) → up (a *ℤ b) + (up a * dn b + dn a * up b) ≡ up a * up b + dn a * dn b + dn (a *ℤ b)
mul_parts (pos a) (pos b) = omega arith
mul_parts (pos a) (negsuc b) = omega (arith, neg_nat (a * suc b))
mul_parts (negsuc a) (pos b) = omega (arith, neg_nat (suc a * b))
mul_parts (negsuc a) (negsuc b) = omega arith

-- a test of order, as a branch leaves it, by parts
pub lt_z_true : (a b : ℤ) → lt_z a b ≡ true → up a + dn b < up b + dn a
lt_z_true a b e = lt_parts {a = a} {b = b} (record { lt = subst T (sym e) tt })

pub lt_z_false : (a b : ℤ) → lt_z a b ≡ false → up b + dn a ≤ up a + dn b
lt_z_false a b e = le_parts {a = b} {b = a} (lt_z_no (subst (λ (t : Bool). T (not t)) (sym e) tt))

pub le_z_true : (a b : ℤ) → le_z a b ≡ true → up a + dn b ≤ up b + dn a
le_z_true a b e = le_parts {a = a} {b = b} (record { le = subst T (sym e) tt })

pub le_z_false : (a b : ℤ) → le_z a b ≡ false → up b + dn a < up a + dn b
le_z_false a b e = by_contra (suc (up b + dn a)) (up a + dn b) (λ k. subst T e (of_le {a = a} {b = b} (omega arith)).le)

-- the other way: the test's value from the order
is_true : (t : Bool) → T t → t ≡ true
is_true true h = refl
is_true false h = absurd h

is_false : (t : Bool) → (T t → ⊥) → t ≡ false
is_false true h = absurd (h tt)
is_false false h = refl

pub le_lt_z : {a b : ℤ} → b ≤ℤ a → lt_z a b ≡ false
le_lt_z {a} {b} h = is_false (lt_z a b) (λ t. clash_ℤ (lt_z_yes {a = a} {b = b} t) h)

pub le_le_z : {a b : ℤ} → a ≤ℤ b → le_z a b ≡ true
le_le_z {a} {b} h = is_true (le_z a b) h.le
