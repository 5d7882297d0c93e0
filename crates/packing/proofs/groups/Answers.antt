use Prim.Native.Nat.{◌+◌, ◌-◌}
use mathlib.Core.Path.{◌≡◌, refl}
use native.Mathlib.Omega.{arith}
use Rattle.packing.proofs.Putting.{put_none, put_last, put_more, put_all}
use Rattle.packing.proofs.groups.Goals as goal

pub loop-i-init : goal.loop-i-init
loop-i-init c =
    let start : c.args.at + 0 ≡ c.args.at = omega arith in
    let left : c.args.k - 0 ≡ c.args.k = omega arith in
    (rw (start, left) (put_none _ _ _ _), c.requires)

pub returns-then-rest-lt128 : goal.returns-then-rest-lt128
returns-then-rest-lt128 c = put_last c.loop-i.invariant.0 (omega arith) c.if-rest-lt128.true refl

pub loop-i-preserved : goal.loop-i-preserved
loop-i-preserved c =
    let l = c.loop-i in
    let next : c.args.at + (l.i + 1) ≡ c.args.at + l.i + 1 = omega arith in
    let left : c.args.k - (l.i + 1) ≡ c.args.k - l.i - 1 = omega arith in
    (rw (next, left) (put_more l.invariant.0 (omega arith) (omega arith) refl), l.invariant.1)

pub returns : goal.returns
returns c =
    let all : c.loop-i.i ≡ c.args.k = omega arith in
    let done = put_all c.loop-i.invariant.0 (omega arith) in
    rw all at done
