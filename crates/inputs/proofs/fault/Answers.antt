use Rattle.std.proofs.Common.{◌≡◌, refl, arith}
use Rattle.laws.specs.Lists.{among}
use Rattle.inputs.proofs.Reading.{inside_read}
use Rattle.inputs.proofs.Scans.{known_inside, known_outside, gap_passes, no_flag}
use Rattle.inputs.proofs.fault.Goals as goal

pub returns-then-flag-eq0 : goal.returns-then-flag-eq0
returns-then-flag-eq0 c = let a = c.args in (λ p. gap_passes a.flag a.value a.low a.high p c.if-flag-eq0.true, tt)

pub returns-then-flag-ne1 : goal.returns-then-flag-ne1
unfolding among
returns-then-flag-ne1 c =
    let a = c.args in
    (λ p. no_flag a.flag a.value a.low a.high p (λ e. omega (arith, c.if-flag-ne1.true)) c.if-flag-eq0.false, refl)

pub returns-then-low-value : goal.returns-then-low-value
returns-then-low-value c =
    let a = c.args in
    let known : a.flag ≡ 1 = omega arith in
    let inside = inside_read a.value a.low a.high c.ranges.value c.ranges.low c.ranges.high c.if-low-value.true in
    (λ p. known_inside a.flag a.value a.low a.high p known inside, tt)

pub returns : goal.returns
unfolding among
returns c =
    let a = c.args in
    let known : a.flag ≡ 1 = omega arith in
    let outside = inside_read a.value a.low a.high c.ranges.value c.ranges.low c.ranges.high c.if-low-value.false in
    (λ p. known_outside a.flag a.value a.low a.high p known outside, refl)
