use Prim.Native.Nat.{◌+◌, ◌-◌, ◌%◌}
use mathlib.Core.Path.{◌≡◌}
use native.Mathlib.Omega.{arith}
use borrow.Author.Rules.{rules}
use Rattle.codec.proofs.Reading.{reach_second, reach_next, reach-laws, scale_fits, group_fits}
use Rattle.codec.proofs.groups.Goals as goal

pub loop-i-init : goal.loop-i-init
loop-i-init c = reach_second _ _ c.requires.0 c.requires.1 c.requires.2

pub returns-then-bytes-at : goal.returns-then-bytes-at
returns-then-bytes-at c = rw c.at.ensures (search (rules, reach-laws))

pub returns-then-byte-eq0 : goal.returns-then-byte-eq0
returns-then-byte-eq0 c = rw c.at-then-byte-eq0.ensures (search (rules, reach-laws))

pub returns-then-byte-lt128 : goal.returns-then-byte-lt128
returns-then-byte-lt128 c = search (rules, reach-laws)

pub overflow_mul-result : goal.overflow_mul-result
overflow_mul-result c = omega (arith, group_fits _ _ c.loop-i.invariant (omega arith) _ c.if-byte-lt128.true)

pub overflow_add-result : goal.overflow_add-result
overflow_add-result c = omega (arith, group_fits _ _ c.loop-i.invariant (omega arith) _ c.if-byte-lt128.true)

pub overflow_mul-value : goal.overflow_mul-value
overflow_mul-value c = omega (arith, group_fits _ _ c.loop-i.invariant (omega arith) (c.from-byte.result % 128) (omega arith))

pub overflow_add-value : goal.overflow_add-value
overflow_add-value c = omega (arith, group_fits _ _ c.loop-i.invariant (omega arith) (c.from-byte.result % 128) (omega arith))

pub overflow_mul-scale : goal.overflow_mul-scale
overflow_mul-scale c = omega (arith, scale_fits _ _ c.loop-i.invariant (omega arith))

pub loop-i-preserved : goal.loop-i-preserved
loop-i-preserved c =
    let i = c.loop-i.i in
    let next : c.args.from + (i + 1) ≡ c.args.from + i + 1 = omega arith in
    let left : 5 - (i + 1) ≡ 5 - i - 1 = omega arith in
    rw (next, left) (reach_next _ _ c.loop-i.invariant (omega arith) c.from-byte.ensures c.if-bytes-at.false c.if-byte-lt128.false)

pub returns : goal.returns
returns c = rw c.at-2.ensures (search (rules, reach-laws))
