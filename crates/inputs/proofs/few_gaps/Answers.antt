use Rattle.std.proofs.Common.{◌+◌, arith}
use Rattle.inputs.proofs.Gaps.{gaps_none, gaps_more, gaps_few}
use Rattle.inputs.proofs.few_gaps.Goals as goal

pub loop-i-init : goal.loop-i-init
loop-i-init c = gaps_none _ _

pub overflow_add-gaps : goal.overflow_add-gaps
overflow_add-gaps c =
    let more = gaps_more c.args.flags.now c.args.from c.loop-i.i c.loop-i.gaps c.one_if_gap-gaps.result c.loop-i.invariant c.one_if_gap-gaps.ensures in
    omega (arith, more, gaps_few c.args.flags.now c.args.from (c.loop-i.i + 1), c.loop-i-test.true, c.requires, c.well_formed.0)

pub loop-i-preserved : goal.loop-i-preserved
loop-i-preserved c = gaps_more c.args.flags.now c.args.from c.loop-i.i c.loop-i.gaps c.one_if_gap-gaps.result c.loop-i.invariant c.one_if_gap-gaps.ensures
