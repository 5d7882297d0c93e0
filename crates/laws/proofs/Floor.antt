-- Floored division: what determines it, its bounds, its remainder, and how the language's division toward zero gives it.
use mathlib.Core.Path.{◌≡◌, sym, ap, ◌∙◌}
use mathlib.Core.Logic.{◌⊎◌, ⊎_elim}
use Prim.Native.Nat.{ℕ, zero, suc, ◌*◌, ◌/◌, ◌%◌, ◌<◌}
use native.Mathlib.Nat.{div-add-mod, mod-lt, zero-lt-suc}
use lib.IntN.{ℤ, pos, negsuc, neg_ℤ, ◌+ℤ◌, ◌-ℤ◌, ◌*ℤ◌, *ℤ_comm, -ℤ-+ℤ_cancel}
use lib.Signed.{◌≤ℤ◌, ◌<ℤ◌, quot_z, rem_z}
use Rattle.laws.specs.Integers.{Within, min4, max4, floor_div, floor_mod, FloorUp, FloorDown}
use Rattle.laws.proofs.Parts.{arithℤ, eq_parts, le_parts, lt_parts, mul_parts, add_parts, diff_parts, neg_parts}
use Rattle.laws.proofs.Order.{order}
use Rattle.laws.proofs.Extremes.{min4_below, max4_above}
use Rattle.laws.proofs.Product.{mul_suc, mul_mono, mul_anti, between}

-- floor_div is a floor
pub floor_up : (a b : ℤ) → pos 0 <ℤ b → FloorUp a b (floor_div a b)
unfolding floor_div
floor_up a (negsuc b) h = absurd h.lt
floor_up (pos a) (pos zero) h = omega arithℤ
floor_up (pos a) (pos (suc b)) h =
    omega (
      arithℤ,
      div-add-mod a (suc b),
      mod-lt a (zero-lt-suc b),
      mul_parts (pos (suc b)) (pos (a / suc b)),
      add_parts (pos (suc b) *ℤ pos (a / suc b)) (pos (suc b)),
    )
floor_up (negsuc a) (pos zero) h = omega arithℤ
floor_up (negsuc a) (pos (suc b)) h =
    omega (
      arithℤ,
      div-add-mod a (suc b),
      mod-lt a (zero-lt-suc b),
      mul_parts (pos (suc b)) (negsuc (a / suc b)),
      add_parts (pos (suc b) *ℤ negsuc (a / suc b)) (pos (suc b)),
    )

pub floor_down : (a b : ℤ) → b <ℤ pos 0 → FloorDown a b (floor_div a b)
unfolding floor_div
floor_down (pos zero) (negsuc b) h = omega (arithℤ, mul_parts (negsuc b) (pos 0), add_parts (negsuc b *ℤ pos 0) (negsuc b))
floor_down (pos (suc a)) (negsuc b) h =
    omega (
      arithℤ,
      div-add-mod a (suc b),
      mod-lt a (zero-lt-suc b),
      mul_parts (negsuc b) (negsuc (a / suc b)),
      add_parts (negsuc b *ℤ negsuc (a / suc b)) (negsuc b),
    )
floor_down (negsuc a) (negsuc b) h =
    omega (
      arithℤ,
      div-add-mod (suc a) (suc b),
      mod-lt (suc a) (zero-lt-suc b),
      mul_parts (negsuc b) (pos (suc a / suc b)),
      add_parts (negsuc b *ℤ pos (suc a / suc b)) (negsuc b),
    )
floor_down (pos zero) (pos b) h = omega arithℤ
floor_down (pos (suc a)) (pos b) h = omega arithℤ
floor_down (negsuc a) (pos b) h = omega arithℤ

-- a quotient whose multiple of b is not beyond a is at most one whose next multiple is
up_le : {a b q p : ℤ} → pos 0 <ℤ b → (b *ℤ q) ≤ℤ a → a <ℤ (b *ℤ p +ℤ b) → q ≤ℤ p
up_le {a} {b} {q} {p} h below above = ⊎_elim more (λ k. k) (order p q)
  where
    more : p <ℤ q → q ≤ℤ p
    more k =
        let m = mul_mono {c = b} {a = p +ℤ pos 1} {b = q} (omega arithℤ) (omega (arithℤ, add_parts p (pos 1))) in
        omega (arithℤ, eq_parts (mul_suc b p))

down_le : {a b q p : ℤ} → b <ℤ pos 0 → a ≤ℤ (b *ℤ p) → (b *ℤ q +ℤ b) <ℤ a → p ≤ℤ q
down_le {a} {b} {q} {p} h below above = ⊎_elim more (λ k. k) (order q p)
  where
    more : q <ℤ p → p ≤ℤ q
    more k =
        let m = mul_anti {c = b} {a = q +ℤ pos 1} {b = p} (omega arithℤ) (omega (arithℤ, add_parts q (pos 1))) in
        omega (arithℤ, eq_parts (mul_suc b q))

-- and it is the only one
pub floor_unique_up : {a b q : ℤ} → pos 0 <ℤ b → FloorUp a b q → q ≡ floor_div a b
floor_unique_up {a} {b} {q} h f =
    let g = floor_up a b h in
    let x = up_le h f.below g.above in
    let y = up_le h g.below f.above in
    omega arithℤ

pub floor_unique_down : {a b q : ℤ} → b <ℤ pos 0 → FloorDown a b q → q ≡ floor_div a b
floor_unique_down {a} {b} {q} h f =
    let g = floor_down a b h in
    let x = down_le h f.below g.above in
    let y = down_le h g.below f.above in
    omega arithℤ

-- x b is at most one of x lb, x hb, and at least the other
some_most : (x : ℤ) {b lb hb k : ℤ} → Within b lb hb → (lb *ℤ x) ≤ℤ k → (hb *ℤ x) ≤ℤ k → (b *ℤ x) ≤ℤ k
some_most x {b} {lb} {hb} B p q =
    let l = eq_parts (*ℤ_comm x lb) in
    let h = eq_parts (*ℤ_comm x hb) in
    let m = eq_parts (*ℤ_comm x b) in
    ⊎_elim (λ w. omega arithℤ) (λ w. omega arithℤ) (between x B)

some_least : (x : ℤ) {b lb hb k : ℤ} → Within b lb hb → k ≤ℤ (lb *ℤ x) → k ≤ℤ (hb *ℤ x) → k ≤ℤ (b *ℤ x)
some_least x {b} {lb} {hb} B p q =
    let l = eq_parts (*ℤ_comm x lb) in
    let h = eq_parts (*ℤ_comm x hb) in
    let m = eq_parts (*ℤ_comm x b) in
    ⊎_elim (λ w. omega arithℤ) (λ w. omega arithℤ) (between x B)

-- the four ways from a bound of a floor to a bound of a multiple
lower_up : (a b m : ℤ) → pos 0 <ℤ b → m ≤ℤ floor_div a b → (b *ℤ m) ≤ℤ a
lower_up a b m h k = omega (arithℤ, floor_up a b h, le_parts (mul_mono {c = b} (omega arithℤ) k))

upper_up : (a b m : ℤ) → pos 0 <ℤ b → floor_div a b ≤ℤ m → (a +ℤ pos 1) ≤ℤ (b *ℤ (m +ℤ pos 1))
upper_up a b m h k =
    omega (
      arithℤ,
      lt_parts (floor_up a b h).above,
      le_parts (mul_mono {c = b} (omega arithℤ) k),
      eq_parts (mul_suc b m),
      add_parts a (pos 1),
      add_parts (b *ℤ floor_div a b) b,
      add_parts (b *ℤ m) b,
    )

lower_down : (a b m : ℤ) → b <ℤ pos 0 → m ≤ℤ floor_div a b → a ≤ℤ (b *ℤ m)
lower_down a b m h k = omega (arithℤ, le_parts (floor_down a b h).below, le_parts (mul_anti {c = b} (omega arithℤ) k))

upper_down : (a b m : ℤ) → b <ℤ pos 0 → floor_div a b ≤ℤ m → (b *ℤ (m +ℤ pos 1)) ≤ℤ (a -ℤ pos 1)
upper_down a b m h k =
    omega (
      arithℤ,
      lt_parts (floor_down a b h).above,
      le_parts (mul_anti {c = b} (omega arithℤ) k),
      eq_parts (mul_suc b m),
      diff_parts a (pos 1),
      add_parts (b *ℤ floor_div a b) b,
      add_parts (b *ℤ m) b,
    )

-- what bounds the quotients of the ends bounds every quotient
module _ {a la ha b lb hb m M : ℤ} (A : Within a la ha) (B : Within b lb hb) where
  within_up : pos 0 <ℤ lb → m ≤ℤ floor_div la lb → m ≤ℤ floor_div la hb → floor_div ha lb ≤ℤ M → floor_div ha hb ≤ℤ M → Within (floor_div a b) m M
  within_up h l0 l1 u0 u1 =
      let hh : pos 0 <ℤ hb = omega arithℤ in
      let hm : pos 0 <ℤ b = omega arithℤ in
      let f = floor_up a b hm in
      let x : (b *ℤ m) ≤ℤ la = some_most m B (lower_up la lb m h l0) (lower_up la hb m hh l1) in
      let y : (ha +ℤ pos 1) ≤ℤ (b *ℤ (M +ℤ pos 1)) = some_least (M +ℤ pos 1) B (upper_up ha lb M h u0) (upper_up ha hb M hh u1) in
      record {
        low = up_le {a = a} hm (omega arithℤ) f.above;
        high = up_le {a = a} hm f.below (omega (arithℤ, eq_parts (mul_suc b M), add_parts ha (pos 1)));
      }

  within_down : hb <ℤ pos 0 → m ≤ℤ floor_div ha lb → m ≤ℤ floor_div ha hb → floor_div la lb ≤ℤ M → floor_div la hb ≤ℤ M → Within (floor_div a b) m M
  within_down h l0 l1 u0 u1 =
      let hl : lb <ℤ pos 0 = omega arithℤ in
      let hm : b <ℤ pos 0 = omega arithℤ in
      let f = floor_down a b hm in
      let x : ha ≤ℤ (b *ℤ m) = some_least m B (lower_down ha lb m hl l0) (lower_down ha hb m h l1) in
      let y : (b *ℤ (M +ℤ pos 1)) ≤ℤ (la -ℤ pos 1) = some_most (M +ℤ pos 1) B (upper_down la lb M hl u0) (upper_down la hb M h u1) in
      record {
        low = down_le {a = a} hm (omega arithℤ) f.above;
        high = down_le {a = a} hm f.below (omega (arithℤ, eq_parts (mul_suc b M), diff_parts la (pos 1)));
      }

-- a quotient lies between the least and the greatest of the four corner quotients, where the divisor's interval is on one side of 0
pub quotient_within : {a la ha b lb hb : ℤ} → Within a la ha → Within b lb hb → (pos 0 <ℤ lb) ⊎ (hb <ℤ pos 0)
    → Within (floor_div a b) (min4 (floor_div la lb) (floor_div la hb) (floor_div ha lb) (floor_div ha hb))
    (max4 (floor_div la lb) (floor_div la hb) (floor_div ha lb) (floor_div ha hb))
quotient_within {a} {la} {ha} {b} {lb} {hb} A B s =
    let l = min4_below (floor_div la lb) (floor_div la hb) (floor_div ha lb) (floor_div ha hb) in
    let u = max4_above (floor_div la lb) (floor_div la hb) (floor_div ha lb) (floor_div ha hb) in
    ⊎_elim (λ h. within_up A B h l.of_0 l.of_1 u.of_2 u.of_3) (λ h. within_down A B h l.of_2 l.of_3 u.of_0 u.of_1) s

-- the floored remainder
pub floor_mod_lem : (a b : ℤ) → b *ℤ floor_div a b +ℤ floor_mod a b ≡ a
unfolding floor_mod
floor_mod_lem a b = omega (arithℤ, diff_parts a (b *ℤ floor_div a b), add_parts (b *ℤ floor_div a b) (a -ℤ b *ℤ floor_div a b))

pub mod_up : (a b : ℤ) → pos 0 <ℤ b → (pos 0 ≤ℤ floor_mod a b) × (floor_mod a b <ℤ b)
unfolding floor_mod
mod_up a b h = omega (arithℤ, floor_up a b h, diff_parts a (b *ℤ floor_div a b), add_parts (b *ℤ floor_div a b) b)

pub mod_down : (a b : ℤ) → b <ℤ pos 0 → (b <ℤ floor_mod a b) × (floor_mod a b ≤ℤ pos 0)
unfolding floor_mod
mod_down a b h = omega (arithℤ, floor_down a b h, diff_parts a (b *ℤ floor_div a b), add_parts (b *ℤ floor_div a b) b)

pub remainder_within_up : (a : ℤ) {b lb hb : ℤ} → Within b lb hb → pos 0 <ℤ lb → Within (floor_mod a b) (pos 0) (hb -ℤ pos 1)
remainder_within_up a {b} {lb} {hb} B h =
    let k = mod_up a b (omega arithℤ) in
    omega (arithℤ, diff_parts hb (pos 1))

pub remainder_within_down : (a : ℤ) {b lb hb : ℤ} → Within b lb hb → hb <ℤ pos 0 → Within (floor_mod a b) (lb +ℤ pos 1) (pos 0)
remainder_within_down a {b} {lb} {hb} B h =
    let k = mod_down a b (omega arithℤ) in
    omega (arithℤ, add_parts lb (pos 1))

-- the language's quotient and remainder, toward zero
quot_rem : (a b : ℤ) → b *ℤ quot_z a b +ℤ rem_z a b ≡ a
quot_rem (pos a) (pos b) = omega (arithℤ, div-add-mod a b)
quot_rem (pos a) (negsuc b) =
    omega (
      arithℤ,
      div-add-mod a (suc b),
      mul_parts (negsuc b) (neg_ℤ (pos (a / suc b))),
      ap (λ (n : ℕ). suc b * n) (neg_parts (pos (a / suc b))),
      add_parts (negsuc b *ℤ neg_ℤ (pos (a / suc b))) (pos (a % suc b)),
    )
quot_rem (negsuc a) (pos b) =
    omega (
      arithℤ,
      div-add-mod (suc a) b,
      mul_parts (pos b) (neg_ℤ (pos (suc a / b))),
      ap (λ (n : ℕ). b * n) (neg_parts (pos (suc a / b))),
      neg_parts (pos (suc a % b)),
      add_parts (pos b *ℤ neg_ℤ (pos (suc a / b))) (neg_ℤ (pos (suc a % b))),
    )
quot_rem (negsuc a) (negsuc b) =
    omega (
      arithℤ,
      div-add-mod (suc a) (suc b),
      mul_parts (negsuc b) (pos (suc a / suc b)),
      neg_parts (pos (suc a % suc b)),
      add_parts (negsuc b *ℤ pos (suc a / suc b)) (neg_ℤ (pos (suc a % suc b))),
    )

rem_up : (a b : ℤ) → pos 0 <ℤ b → (neg_ℤ b <ℤ rem_z a b) × (rem_z a b <ℤ b)
rem_up (pos a) (pos b) h =
    let p : 0 < b = omega arithℤ in
    omega (arithℤ, mod-lt a p, neg_parts (pos b))
rem_up (negsuc a) (pos b) h =
    let p : 0 < b = omega arithℤ in
    omega (arithℤ, mod-lt (suc a) p, neg_parts (pos b), neg_parts (pos (suc a % b)))
rem_up (pos a) (negsuc b) h = absurd h.lt
rem_up (negsuc a) (negsuc b) h = absurd h.lt

rem_down : (a b : ℤ) → b <ℤ pos 0 → (b <ℤ rem_z a b) × (rem_z a b <ℤ neg_ℤ b)
rem_down (pos a) (negsuc b) h = omega (arithℤ, mod-lt a (zero-lt-suc b))
rem_down (negsuc a) (negsuc b) h = omega (arithℤ, mod-lt (suc a) (zero-lt-suc b), neg_parts (pos (suc a % suc b)))
rem_down (pos a) (pos b) h = omega arithℤ
rem_down (negsuc a) (pos b) h = omega arithℤ

-- from the language's quotient to the floor: one less where the remainder is on the other side of 0 from b
less_one : (b q : ℤ) → b *ℤ (q -ℤ pos 1) +ℤ b ≡ b *ℤ q
less_one b q = sym (mul_suc b (q -ℤ pos 1)) ∙ ap (λ (z : ℤ). b *ℤ z) (-ℤ-+ℤ_cancel q (pos 1))

pub quot_less_up : (a b : ℤ) → pos 0 <ℤ b → rem_z a b <ℤ pos 0 → quot_z a b -ℤ pos 1 ≡ floor_div a b
quot_less_up a b h k =
    let l = less_one b (quot_z a b) in
    floor_unique_up h
    (omega (arithℤ, eq_parts (quot_rem a b), rem_up a b h, neg_parts b, add_parts (b *ℤ quot_z a b) (rem_z a b), add_parts (b *ℤ (quot_z a b -ℤ pos 1)) b))

pub quot_less_down : (a b : ℤ) → b <ℤ pos 0 → pos 0 <ℤ rem_z a b → quot_z a b -ℤ pos 1 ≡ floor_div a b
quot_less_down a b h k =
    let l = less_one b (quot_z a b) in
    floor_unique_down h
    (omega (arithℤ, eq_parts (quot_rem a b), rem_down a b h, neg_parts b, add_parts (b *ℤ quot_z a b) (rem_z a b), add_parts (b *ℤ (quot_z a b -ℤ pos 1)) b))
