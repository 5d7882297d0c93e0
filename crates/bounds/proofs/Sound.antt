-- Each interval rule is sound over ℤ: numbers within the sources' bounds give a number within the result's.
use mathlib.Core.Path.{◌≡◌, refl}
use mathlib.Core.Bool.{Bool, true, false, ◌&&◌, not, cond, false≢true}
use mathlib.Core.Logic.{◌⊎◌, inl, inr}
use lib.IntN.{ℤ, pos, ◌+ℤ◌, ◌-ℤ◌, ◌*ℤ◌}
use lib.Signed.{lt_z, le_z, ◌≤ℤ◌, ◌<ℤ◌}
use Rattle.laws.specs.Integers.{Within, same_z, min_z, max_z, floor_div, floor_mod}
use Rattle.laws.proofs.Booleans.{and_true, or_true}
use Rattle.laws.proofs.Parts.{arithℤ, of_le, of_lt, add_parts, lt_z_true, lt_z_false, le_z_true, le_z_false}
use Rattle.laws.proofs.Order.{within_of, of_within}
use Rattle.laws.proofs.Extremes.{min_z_of, max_z_of, min_z_le_left, min_z_le_right, le_max_z_left, le_max_z_right}
use Rattle.laws.proofs.Product.{product_within}
use Rattle.laws.proofs.Floor.{quotient_within, remainder_within_up, remainder_within_down}
use Rattle.plan.specs.declared.Interval.{Interval}
use Rattle.plan.specs.Types.{between, holds, contains}
use Rattle.bounds.specs.Rules.{corners, add_bounds, mul_bounds, idiv_bounds, max_bounds, min_bounds, mod_bounds, cmplt_bounds, cmpne_bounds, disjoint, all_ends_equal, where_bounds}

-- a number lies in an interval, as the test says it and as an order
abbrev pub In : ℤ → Interval → Type 0
In z i = Within z i.low i.high

pub held : (i : Interval) (z : ℤ) → holds i z ≡ true → In z i
unfolding holds
held i z e = within_of e

pub holding : (i : Interval) (z : ℤ) → In z i → holds i z ≡ true
unfolding holds
holding i z w = of_within w

-- a range that contains the bounds holds what lies in them
pub wider : (i j : Interval) (z : ℤ) → contains i j ≡ true → In z j → In z i
unfolding contains
wider i j z e w =
    let f = and_true (holds i j.low) (holds i j.high) e in
    let a = held i j.low f.0 in
    let b = held i j.high f.1 in
    record { low = omega (arithℤ, a.low, w.low); high = omega (arithℤ, b.high, w.high) }

module _ (x y : ℤ) (a b : Interval) (p : In x a) (q : In y b) where
  pub add_sound : In (x +ℤ y) (add_bounds a b)
  unfolding add_bounds
  add_sound =
      record {
        low = omega (arithℤ, p.low, q.low, add_parts a.low b.low, add_parts x y);
        high = omega (arithℤ, p.high, q.high, add_parts a.high b.high, add_parts x y);
      }

  pub mul_sound : In (x *ℤ y) (mul_bounds a b)
  unfolding mul_bounds corners
  mul_sound = product_within p q

  pub max_sound : In (max_z x y) (max_bounds a b)
  unfolding max_bounds
  max_sound =
      record {
        low = max_z_of (λ m. m ≤ℤ max_z x y) a.low b.low (omega (arithℤ, p.low, le_max_z_left x y)) (omega (arithℤ, q.low, le_max_z_right x y));
        high = max_z_of (λ m. m ≤ℤ max_z a.high b.high) x y (omega (arithℤ, p.high, le_max_z_left a.high b.high)) (omega (arithℤ, q.high, le_max_z_right a.high b.high));
      }

  pub min_sound : In (min_z x y) (min_bounds a b)
  unfolding min_bounds
  min_sound =
      record {
        low = min_z_of (λ m. min_z a.low b.low ≤ℤ m) x y (omega (arithℤ, p.low, min_z_le_left a.low b.low)) (omega (arithℤ, q.low, min_z_le_right a.low b.low));
        high = min_z_of (λ m. min_z x y ≤ℤ m) a.high b.high (omega (arithℤ, p.high, min_z_le_left x y)) (omega (arithℤ, q.high, min_z_le_right x y));
      }

  -- rule 10
  no_zero : not (holds b (pos 0)) ≡ true → (pos 0 <ℤ b.low) ⊎ (b.high <ℤ pos 0)
  unfolding holds
  no_zero e = go (le_z b.low (pos 0)) (le_z (pos 0) b.high) refl refl e
    where
      go : (c d : Bool) → le_z b.low (pos 0) ≡ c → le_z (pos 0) b.high ≡ d → not (c && d) ≡ true → (pos 0 <ℤ b.low) ⊎ (b.high <ℤ pos 0)
      go false d f g e = inl (of_lt (le_z_false b.low (pos 0) f))
      go true false f g e = inr (of_lt (le_z_false (pos 0) b.high g))
      go true true f g e = absurd (false≢true e)

  pub idiv_sound : not (holds b (pos 0)) ≡ true → In (floor_div x y) (idiv_bounds a b)
  unfolding idiv_bounds corners
  idiv_sound e = quotient_within p q (no_zero e)

  pub mod_sound : not (holds b (pos 0)) ≡ true → In (floor_mod x y) (mod_bounds b)
  unfolding mod_bounds
  mod_sound e = go (lt_z (pos 0) b.low) refl (no_zero e)
    where
      go : (c : Bool) → lt_z (pos 0) b.low ≡ c → (pos 0 <ℤ b.low) ⊎ (b.high <ℤ pos 0)
          → In (floor_mod x y) (cond c (between (pos 0) (b.high -ℤ pos 1)) (between (b.low +ℤ pos 1) (pos 0)))
      go true f n = remainder_within_up x q (of_lt (lt_z_true (pos 0) b.low f))
      go false f (inl h) = absurd (omega (arithℤ, h, lt_z_false (pos 0) b.low f))
      go false f (inr h) = remainder_within_down x q h

  pub cmplt_sound : In (cond (lt_z x y) (pos 1) (pos 0)) (cmplt_bounds a b)
  unfolding cmplt_bounds
  cmplt_sound = go (lt_z a.high b.low) refl (le_z b.high a.low) refl (lt_z x y) refl
    where
      go : (c : Bool) → lt_z a.high b.low ≡ c → (d : Bool) → le_z b.high a.low ≡ d → (l : Bool) → lt_z x y ≡ l
          → In (cond l (pos 1) (pos 0)) (cond c (between (pos 1) (pos 1)) (cond d (between (pos 0) (pos 0)) (between (pos 0) (pos 1))))
      go true e d f true g = record { low = omega arithℤ; high = omega arithℤ }
      go true e d f false g = absurd (omega (arithℤ, p.high, q.low, lt_z_true a.high b.low e, lt_z_false x y g))
      go false e true f true g = absurd (omega (arithℤ, p.low, q.high, le_z_true b.high a.low f, lt_z_true x y g))
      go false e true f false g = record { low = omega arithℤ; high = omega arithℤ }
      go false e false f true g = record { low = omega arithℤ; high = omega arithℤ }
      go false e false f false g = record { low = omega arithℤ; high = omega arithℤ }

  -- the ends of two intervals that are one and the same number
  record Equal : Type 0 where
    one : a.high ≤ℤ a.low
    two : b.high ≤ℤ b.low
    left : a.low ≤ℤ b.low
    right : b.low ≤ℤ a.low

  ends_equal : all_ends_equal a b ≡ true → Equal
  unfolding all_ends_equal
  ends_equal e =
      let f = and_true (same_z a.low a.high) _ e in
      let g = and_true (same_z b.low b.high) (same_z a.low b.low) f.1 in
      record {
        one = of_le (le_z_true a.high a.low (and_true (le_z a.low a.high) _ f.0).1);
        two = of_le (le_z_true b.high b.low (and_true (le_z b.low b.high) _ g.0).1);
        left = of_le (le_z_true a.low b.low (and_true (le_z a.low b.low) _ g.1).0);
        right = of_le (le_z_true b.low a.low (and_true (le_z a.low b.low) _ g.1).1);
      }

  apart : disjoint a b ≡ true → le_z x y ≡ true → le_z y x ≡ true → ⊥
  unfolding disjoint
  apart e f g =
      or_true (lt_z a.high b.low) (lt_z b.high a.low) e
      (λ h. omega (arithℤ, p.high, q.low, lt_z_true a.high b.low h, le_z_true y x g))
      (λ h. omega (arithℤ, p.low, q.high, lt_z_true b.high a.low h, le_z_true x y f))

  pub cmpne_sound : In (cond (same_z x y) (pos 0) (pos 1)) (cmpne_bounds a b)
  unfolding cmpne_bounds
  cmpne_sound = go (disjoint a b) refl (all_ends_equal a b) refl (le_z x y) (le_z y x) refl refl
    where
      go : (c : Bool) → disjoint a b ≡ c → (d : Bool) → all_ends_equal a b ≡ d → (u v : Bool) → le_z x y ≡ u → le_z y x ≡ v
          → In (cond (u && v) (pos 0) (pos 1)) (cond c (between (pos 1) (pos 1)) (cond d (between (pos 0) (pos 0)) (between (pos 0) (pos 1))))
      go true e d f true true g h = absurd (apart e g h)
      go true e d f true false g h = record { low = omega arithℤ; high = omega arithℤ }
      go true e d f false v g h = record { low = omega arithℤ; high = omega arithℤ }
      go false e true f true true g h = record { low = omega arithℤ; high = omega arithℤ }
      go false e true f true false g h =
          let k = ends_equal f in
          absurd (omega (arithℤ, p.low, q.high, k.two, k.right, le_z_false y x h))
      go false e true f false v g h =
          let k = ends_equal f in
          absurd (omega (arithℤ, p.high, q.low, k.one, k.left, le_z_false x y g))
      go false e false f true true g h = record { low = omega arithℤ; high = omega arithℤ }
      go false e false f true false g h = record { low = omega arithℤ; high = omega arithℤ }
      go false e false f false v g h = record { low = omega arithℤ; high = omega arithℤ }

pub where_left : (z : ℤ) (b c : Interval) → In z b → In z (where_bounds b c)
unfolding where_bounds
where_left z b c p = record { low = omega (arithℤ, p.low, min_z_le_left b.low c.low); high = omega (arithℤ, p.high, le_max_z_left b.high c.high) }

pub where_right : (z : ℤ) (b c : Interval) → In z c → In z (where_bounds b c)
unfolding where_bounds
where_right z b c p = record { low = omega (arithℤ, p.low, min_z_le_right b.low c.low); high = omega (arithℤ, p.high, le_max_z_right b.high c.high) }
