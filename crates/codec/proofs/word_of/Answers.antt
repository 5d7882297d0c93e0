use Prim.Native.Nat.{ℕ, zero, suc, ◌/◌, ◌<◌, ◌^◌}
use mathlib.Core.Path.{◌≡◌, refl}
use native.Mathlib.Nat.{zero-add}
use native.Mathlib.Omega.{arith}
use borrow.Author.Tests.{eq-eqb, ne_eqb}
use lib.IntN.{pos, negsuc, ◌-ℤ◌}
use mir.Syntax.{w64}
use mir.ValLaws.{to_z_pos, to_z-neg}
use Rattle.codec.specs.Numbers.{word_of}
use Rattle.codec.proofs.word_of.Goals as goal

less_one : (h : ℕ) → negsuc 0 -ℤ pos h ≡ negsuc h
less_one zero = refl
less_one (suc h) = simp zero-add

half : {m : ℕ} → m < 2 ^ 64 → m / 2 < 2 ^ 63
half h = omega arith

pub overflow_sub-result : goal.overflow_sub-result
overflow_sub-result c =
    let h = half c.ranges.m.fits in
    simp (to_z_pos w64 _ h, less_one) (record { sfits = h })

pub returns-then-m-eq0 : goal.returns-then-m-eq0
unfolding word_of
returns-then-m-eq0 c = simp (to_z_pos w64 _ (half c.ranges.m.fits), eq-eqb _ _ c.if-m-eq0.true)

pub returns-else-m-eq0 : goal.returns-else-m-eq0
unfolding word_of
returns-else-m-eq0 c =
    let h = half c.ranges.m.fits in
    simp (to_z_pos w64 _ h, less_one, ne_eqb _ _ c.if-m-eq0.false) (to_z-neg w64 _ h)
