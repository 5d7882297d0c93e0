use Prim.Native.Nat.{◌≤◌}
use borrow.Author.Rules.{rules}
use mathlib.Core.Path.{◌≡◌}
use native.Mathlib.Omega.{arith}
use lib.Dec.{eqb}
use lib.ListN.{length-replicate}
use Rattle.rules.specs.Code.{view_of}
use Rattle.verifier.proofs.Deriving.{so_far_none, source_view, source_few, stop_early, stop_late, one_more, before_of, params_few, one_or_none, judged_few, derives_stop, derives_done, small_of, few_of}
use Rattle.verifier.proofs.derive.Goals as goal

pub judge-requires : goal.judge-requires
judge-requires c =
    let t = c.args.table.now in
    let turn = c.loop-i in
    let x = c.in-Ok.x.node in
    let early = c.in-Ok.ensures in
    let before = before_of t turn.i x early.0 early.1 in
    let so = turn.invariant.1 in
    let small = small_of {i = c.loop-i.i} (omega arith) c.requires.1 in
    let va = source_view t turn.i turn.records turn.params turn.total so small _ x 1 x.source1 c.source_place-place1.result c.source_record.result before.0 c.source_place-place1.ensures.1 c.source_record.ensures in
    few_of va (source_few t turn.i turn.records turn.params turn.total so small x 1 x.source1)

pub overflow_add-total : goal.overflow_add-total
overflow_add-total c =
    let turn = c.loop-i in
    let x = c.in-Ok.x.node in
    omega (arith, c.requires, turn.invariant.0, c.loop-i-test.true, judged_few x turn.params (view_of c.source_record.result) (view_of c.source_record-in-loop-i.result) (view_of c.source_record-in-loop-i-2.result) _ c.in-Ok-judge.ensures)

pub overflow_add-params : goal.overflow_add-params
overflow_add-params c =
    let turn = c.loop-i in
    let few : turn.params ≤ turn.i = rw turn.invariant.1.turn (params_few c.args.table.now turn.i) in
    omega (arith, c.requires, few, one_or_none (eqb c.in-Ok.x.node.op 1), c.one_if_param-params.ensures, c.loop-i-test.true)

pub loop-i-init : goal.loop-i-init
loop-i-init c = (search rules, so_far_none c.args.table.now _ (length-replicate 256 c.blank-none.result))

pub loop-i-preserved : goal.loop-i-preserved
loop-i-preserved c =
    let t = c.args.table.now in
    let turn = c.loop-i in
    let x = c.in-Ok.x.node in
    let early = c.in-Ok.ensures in
    let before = before_of t turn.i x early.0 early.1 in
    let so = turn.invariant.1 in
    let small = small_of {i = c.loop-i.i} (omega arith) c.requires.1 in
    let va = source_view t turn.i turn.records turn.params turn.total so small _ x 1 x.source1 c.source_place-place1.result c.source_record.result before.0 c.source_place-place1.ensures.1 c.source_record.ensures in
    let vb = source_view t turn.i turn.records turn.params turn.total so small _ x 2 x.source2 c.source_place-place2.result c.source_record-in-loop-i.result before.1 c.source_place-place2.ensures.1 c.source_record-in-loop-i.ensures in
    let vc = source_view t turn.i turn.records turn.params turn.total so small _ x 3 x.source3 c.source_place-place3.result c.source_record-in-loop-i-2.result before.2 c.source_place-place3.ensures.1 c.source_record-in-loop-i-2.ensures in
    let j = c.in-Ok-judge.ensures in
    let few = judged_few x turn.params (view_of c.source_record.result) (view_of c.source_record-in-loop-i.result) (view_of c.source_record-in-loop-i-2.result) _ j in
    let more = one_more t turn.i turn.records turn.params turn.total so small x early.0 _ _ _ va vb vc early.1 _ (omega (arith, c.requires, c.loop-i-test.true)) j in
    (omega (arith, turn.invariant.0, few), rw c.one_if_param-params.ensures more)

pub returns-in-Err : goal.returns-in-Err
returns-in-Err c =
    let turn = c.loop-i in
    let stops = stop_early c.args.table.now turn.i turn.records turn.params turn.total turn.invariant.1 (omega arith) c.args.count c.loop-i-test.true c.in-Err.fault c.in-Err.ensures in
    derives_stop c.args.table.now c.args.count c.in-Err.fault turn.i stops c.at.ensures

pub returns-in-Err-judge : goal.returns-in-Err-judge
returns-in-Err-judge c =
    let t = c.args.table.now in
    let turn = c.loop-i in
    let x = c.in-Ok.x.node in
    let early = c.in-Ok.ensures in
    let before = before_of t turn.i x early.0 early.1 in
    let so = turn.invariant.1 in
    let small = small_of {i = c.loop-i.i} (omega arith) c.requires.1 in
    let va = source_view t turn.i turn.records turn.params turn.total so small _ x 1 x.source1 c.source_place-place1.result c.source_record.result before.0 c.source_place-place1.ensures.1 c.source_record.ensures in
    let vb = source_view t turn.i turn.records turn.params turn.total so small _ x 2 x.source2 c.source_place-place2.result c.source_record-in-loop-i.result before.1 c.source_place-place2.ensures.1 c.source_record-in-loop-i.ensures in
    let vc = source_view t turn.i turn.records turn.params turn.total so small _ x 3 x.source3 c.source_place-place3.result c.source_record-in-loop-i-2.result before.2 c.source_place-place3.ensures.1 c.source_record-in-loop-i-2.ensures in
    let stops = stop_late t turn.i turn.records turn.params turn.total so small x early.0 _ _ _ va vb vc early.1 c.args.count c.loop-i-test.true c.in-Err-judge.fault c.in-Err-judge.ensures in
    derives_stop t c.args.count c.in-Err-judge.fault turn.i stops c.at-in-Err-judge.ensures

pub returns : goal.returns
returns c =
    let turn = c.loop-i in
    let e : turn.i ≡ c.args.count = omega arith in
    derives_done c.args.table.now c.args.count turn.records turn.params turn.total (rw e at turn.invariant.1)
