use Rattle.std.proofs.Common.{◌≡◌, length, ◌∙◌, arith, rules}
use Rattle.inputs.specs.Nodes.{nodes_of}
use Rattle.inputs.proofs.Sizes.{start_none, node_limited, part_of, input_whole}
use Rattle.inputs.proofs.input_total.Goals as goal

pub loop-i-init : goal.loop-i-init
loop-i-init c = (search rules, start_none c.args.table.now (nodes_of c.args.records.now))

pub input_size-total-requires : goal.input_size-total-requires
input_size-total-requires c = node_limited c.args.records.now _ c.loop-i.i c.loop-i-test.true c.requires.2

pub overflow_add-total : goal.overflow_add-total
overflow_add-total c =
    let a = c.args in
    let part = part_of a.table.now a.records.now _ c.loop-i.i c.loop-i.total _ _ c.requires.2 c.loop-i-test.true c.node_at-x.ensures c.input_size-total.ensures c.loop-i.invariant.1 in
    omega (arith, c.loop-i.invariant.0, c.requires.0, part.few)

pub loop-i-preserved : goal.loop-i-preserved
loop-i-preserved c =
    let a = c.args in
    let part = part_of a.table.now a.records.now _ c.loop-i.i c.loop-i.total _ _ c.requires.2 c.loop-i-test.true c.node_at-x.ensures c.input_size-total.ensures c.loop-i.invariant.1 in
    (omega (arith, c.loop-i.invariant.0, part.few), part.next)

pub returns : goal.returns
returns c =
    let a = c.args in
    let e : c.loop-i.i ≡ length a.records.now = omega arith in
    let all = rw e at c.loop-i.invariant.1 in
    (all ∙ input_whole a.table.now a.records.now, all)
