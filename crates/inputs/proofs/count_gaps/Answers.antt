use Rattle.std.proofs.Common.{◌≡◌, ◌+◌, ◌*◌, ◌<◌, ◌≤◌, min, arith}
use Rattle.inputs.proofs.Gaps.{gaps_none, gaps_after, gaps_few}
use Rattle.inputs.proofs.count_gaps.Goals as goal

pub loop-part-init : goal.loop-part-init
loop-part-init c = let e : min (0 * 192) c.args.n ≡ 0 = omega arith in rw e (gaps_none _ _)

pub overflow_add-gaps : goal.overflow_add-gaps
overflow_add-gaps c =
    let i = c.loop-part.part * 192 in
    let m = c.min-few.result in
    let some : i < c.args.n = omega (arith, c.div_ceil-part-end.ensures, c.loop-part-test.true) in
    let fits : i + m ≤ c.args.n = omega (arith, c.min-few.ensures, some) in
    let done : min i c.args.n ≡ i = omega arith in
    let sum = gaps_after c.args.flags.now c.args.from i m c.loop-part.gaps c.few_gaps.result (rw done at c.loop-part.invariant) c.few_gaps.ensures in
    omega (arith, sum, gaps_few c.args.flags.now c.args.from (i + m), fits, c.requires, c.well_formed.0)

pub loop-part-preserved : goal.loop-part-preserved
loop-part-preserved c =
    let i = c.loop-part.part * 192 in
    let m = c.min-few.result in
    let some : i < c.args.n = omega (arith, c.div_ceil-part-end.ensures, c.loop-part-test.true) in
    let done : min i c.args.n ≡ i = omega arith in
    let next : min ((c.loop-part.part + 1) * 192) c.args.n ≡ i + m = omega (arith, c.min-few.ensures) in
    rw next (gaps_after c.args.flags.now c.args.from i m c.loop-part.gaps c.few_gaps.result (rw done at c.loop-part.invariant) c.few_gaps.ensures)
