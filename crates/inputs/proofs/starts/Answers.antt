use Rattle.std.proofs.Common.{◌≡◌, length, ◌∙◌, not-suc-le-zero, arith, length-set, rules}
use Rattle.inputs.specs.Nodes.{nodes_of}
use Rattle.inputs.proofs.Sizes.{total_none, count_limited, count_next, starts_next}
use Rattle.inputs.proofs.starts.Goals as goal

pub loop-i-init : goal.loop-i-init
loop-i-init c = (search rules, search rules, total_none (nodes_of c.args.records.now), λ j h. absurd (not-suc-le-zero h))

pub overflow_add-total : goal.overflow_add-total
overflow_add-total c =
    let few = count_limited c.args.records.now c.requires.1 _ c.loop-i.i c.loop-i-test.true c.count-total.result c.count-total.ensures in
    omega (arith, c.loop-i.invariant.1, c.requires.0, few)

pub loop-i-preserved : goal.loop-i-preserved
loop-i-preserved c =
    let a = c.args in
    let v = c.loop-i.invariant in
    let l = c.loop-i-test.true in
    let few = count_limited a.records.now c.requires.1 _ c.loop-i.i l c.count-total.result c.count-total.ensures in (
      length-set c.loop-i.starts c.loop-i.i c.loop-i.total ∙ v.0,
      omega (arith, v.1, few),
      count_next a.records.now c.requires.1 _ c.loop-i.i l c.count-total.result c.count-total.ensures c.loop-i.total v.2,
      starts_next (nodes_of a.records.now) c.loop-i.starts c.loop-i.i c.loop-i.total (omega (arith, l, c.requires.0, v.0)) v.2 v.3,
    )

pub returns : goal.returns
returns c =
    let e : c.loop-i.i ≡ length c.args.records.now = omega arith in
    (c.loop-i.invariant.0, rw e at c.loop-i.invariant.3)
