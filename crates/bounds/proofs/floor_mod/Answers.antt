use mathlib.Core.Path.{◌≡◌, ◌∙◌}
use borrow.Author.Rules.{sfits_of}
use lib.IntN.{ℤ, ◌-ℤ◌, ◌*ℤ◌}
use mir.Syntax.{w64}
use mir.Val.{SFits}
use Rattle.laws.proofs.Absolute.{floor_small, mul_small}
use Rattle.laws.proofs.Machine.{Small, read_back, read_back_is, arith_machine}
use Rattle.laws.proofs.Parts.{diff_parts}
use Rattle.laws.specs.Integers.{floor_div, floor_mod}
use Rattle.bounds.proofs.floor_mod.Goals as goal

-- what the two operations ask, and give, at the numbers themselves
module _ {a b q : ℤ} (fa : SFits w64 a) (fb : SFits w64 b) (fq : SFits w64 q) (sa : Small a) (sb : Small b) (e : q ≡ floor_div (read_back a) (read_back b)) where
  is : q ≡ floor_div a b
  is = e ∙ rw (read_back_is fa, read_back_is fb)

  small : Small q
  small = rw is (floor_small a b sa)

  mul_fits : SFits w64 (b *ℤ q)
  mul_fits = omega (arith_machine, mul_small b q sb small)

  mul' : SFits w64 (read_back b *ℤ read_back q)
  mul' = rw (read_back_is fb, read_back_is fq) mul_fits

  mul_is : read_back (read_back b *ℤ read_back q) ≡ b *ℤ q
  mul_is = rw (read_back_is fb, read_back_is fq) (read_back_is mul_fits)

  sub_fits : SFits w64 (a -ℤ b *ℤ q)
  sub_fits = omega (arith_machine, mul_small b q sb small, diff_parts a (b *ℤ q))

  sub' : SFits w64 (read_back a -ℤ read_back (read_back b *ℤ read_back q))
  sub' = rw (read_back_is fa, mul_is) sub_fits

  result : read_back (read_back a -ℤ read_back (read_back b *ℤ read_back q)) ≡ floor_mod a b
  unfolding floor_mod
  result = read_back_is sub' ∙ rw (read_back_is fa, mul_is, is)

pub quotient-requires : goal.quotient-requires
quotient-requires c = rw (read_back_is c.ranges.a, read_back_is c.ranges.b) c.requires

pub overflow_mul-result : goal.overflow_mul-result
overflow_mul-result c = mul' c.ranges.a c.ranges.b (sfits_of c.quotient.type_inv) c.requires.0 c.requires.1 c.quotient.ensures

pub overflow_sub-result : goal.overflow_sub-result
overflow_sub-result c = sub' c.ranges.a c.ranges.b (sfits_of c.quotient.type_inv) c.requires.0 c.requires.1 c.quotient.ensures

pub returns : goal.returns
returns c = result c.ranges.a c.ranges.b (sfits_of c.quotient.type_inv) c.requires.0 c.requires.1 c.quotient.ensures
