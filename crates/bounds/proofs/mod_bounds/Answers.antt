use mathlib.Core.Path.{◌≡◌}
use mathlib.Core.Bool.{true, false}
use lib.IntN.{pos, ◌+ℤ◌, ◌-ℤ◌}
use lib.Signed.{lt_z}
use mir.Syntax.{w64}
use mir.Val.{SFits}
use Rattle.laws.proofs.Machine.{read_back, read_back_is, arith_machine, small_fits}
use Rattle.laws.proofs.Parts.{add_parts, diff_parts}
use Rattle.bounds.specs.Rules.{mod_bounds}
use Rattle.bounds.specs.Narrow.{Held}
use Rattle.plan.specs.declared.Interval.{Interval}
use Rattle.bounds.proofs.mod_bounds.Goals as goal

module _ (y : Interval) (h : Held y) where
  less : SFits w64 (read_back y.high -ℤ pos 1)
  less = rw (read_back_is (small_fits h.high)) (omega (arith_machine, h.high, diff_parts y.high (pos 1)))

  more : SFits w64 (read_back y.low +ℤ pos 1)
  more = rw (read_back_is (small_fits h.low)) (omega (arith_machine, h.low, add_parts y.low (pos 1)))

  up : lt_z (pos 0) (read_back y.low) ≡ true → record { low = pos 0; high = read_back (read_back y.high -ℤ pos 1) } ≡ mod_bounds y
  unfolding mod_bounds
  up e = rw (read_back_is less, read_back_is (small_fits h.high), rw (read_back_is (small_fits h.low)) at e)

  down : lt_z (pos 0) (read_back y.low) ≡ false → record { low = read_back (read_back y.low +ℤ pos 1); high = pos 0 } ≡ mod_bounds y
  unfolding mod_bounds
  down e = rw (read_back_is more, read_back_is (small_fits h.low), rw (read_back_is (small_fits h.low)) at e)

pub overflow_sub-result : goal.overflow_sub-result
overflow_sub-result c = less c.args.y c.requires

pub returns-then-low-gt0 : goal.returns-then-low-gt0
returns-then-low-gt0 c = up c.args.y c.requires c.if-low-gt0.true

pub overflow_add-result : goal.overflow_add-result
overflow_add-result c = more c.args.y c.requires

pub returns : goal.returns
returns c = down c.args.y c.requires c.if-low-gt0.false
