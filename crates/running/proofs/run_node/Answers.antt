use native.Mathlib.Omega.{arith}
use Rattle.inputs.proofs.Sizes.{node_limited}
use Rattle.running.proofs.Plans.{table_long, limited}
use Rattle.running.proofs.Turns.{start_is, extents_are, taken_is, three_picked, ready, leaves}
use Rattle.running.proofs.run_node.Goals as goal

pub node_at-x-requires : goal.node_at-x-requires
node_at-x-requires c = omega (arith, c.requires.inside, table_long c.args.table.now c.args.records.now c.requires.checked)

pub offset_bounds-records-i : goal.offset_bounds-records-i
offset_bounds-records-i c = omega (arith, c.requires.inside, c.requires.checked.few)

pub bounds-records-i : goal.bounds-records-i
bounds-records-i c = omega (arith, c.requires.inside, c.requires.checked.few)

pub offset_bounds-starts-i : goal.offset_bounds-starts-i
offset_bounds-starts-i c = omega (arith, c.requires.inside, c.requires.checked.few)

pub bounds-starts-i : goal.bounds-starts-i
bounds-starts-i c = omega (arith, c.requires.inside, c.requires.checked.few)

pub bounds-records-place1 : goal.bounds-records-place1
bounds-records-place1 c = omega (arith, c.source_place-place1.ensures.2, c.requires.inside)

pub bounds-records-place2 : goal.bounds-records-place2
bounds-records-place2 c = omega (arith, c.source_place-place2.ensures.2, c.requires.inside)

pub bounds-records-place3 : goal.bounds-records-place3
bounds-records-place3 c = omega (arith, c.source_place-place3.ensures.2, c.requires.inside)

pub eval_node-requires : goal.eval_node-requires
eval_node-requires c =
    let turn = c.requires in
    let picked = three_picked c.requires c.node_at-x.ensures _ _ _ c.source_place-place1.ensures.1 c.source_place-place2.ensures.1 c.source_place-place3.ensures.1 c.operand-a.ensures c.operand-b.ensures c.operand-d.ensures in
    ready turn picked c.node_at-x.ensures (extents_are turn _) (start_is turn)

pub input_size-requires : goal.input_size-requires
input_size-requires c =
    let a = c.args in
    node_limited a.records.now _ a.i c.requires.inside (limited a.table.now a.records.now c.requires.checked)

pub returns : goal.returns
returns c =
    let turn = c.requires in
    let node = c.node_at-x.ensures in
    let picked = three_picked c.requires c.node_at-x.ensures _ _ _ c.source_place-place1.ensures.1 c.source_place-place2.ensures.1 c.source_place-place3.ensures.1 c.operand-a.ensures c.operand-b.ensures c.operand-d.ensures in
    (taken_is turn node _ c.input_size.ensures, leaves turn picked node (extents_are turn _) (start_is turn) c.eval_node.ensures)
