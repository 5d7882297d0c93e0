use Rattle.std.proofs.Common.{◌≡◌, length, ◌∙◌, arith, rules}
use Rattle.std.proofs.lemmas.Result.{err_from_is_err_and}
use Rattle.laws.proofs.Machine.{fit_at}
use Rattle.plan.specs.Types.{between}
use Rattle.runner.specs.Inputs.{input_limits}
use Rattle.inputs.proofs.Reading.{limits_read}
use Rattle.inputs.specs.Nodes.{nodes_of}
use Rattle.inputs.proofs.Sizes.{start_none, node_limited, part_of, input_whole}
use Rattle.inputs.proofs.Scans.{whole_none, whole_more, whole_stops, whole_done}
use Rattle.inputs.proofs.scan.Goals as goal

pub loop-i-init : goal.loop-i-init
loop-i-init c =
    let a = c.args in
    let ds = nodes_of a.records.now in
    (search rules, start_none a.table.now ds, whole_none (input_limits a.table.now ds) a.values.now a.flags.now)

pub input_size-n-requires : goal.input_size-n-requires
input_size-n-requires c = node_limited c.args.records.now _ c.loop-i.i c.loop-i-test.true c.requires.2

pub scan_param-requires : goal.scan_param-requires
scan_param-requires c =
    let a = c.args in
    let part = part_of a.table.now a.records.now _ c.loop-i.i c.loop-i.from _ _ c.requires.2 c.loop-i-test.true c.node_at-x.ensures c.input_size-n.ensures c.loop-i.invariant.1 in
    (rw c.requires.3 part.within, rw c.requires.4 part.within)

pub returns-in_err-scan_param : goal.returns-in_err-scan_param
returns-in_err-scan_param c =
    let a = c.args in
    let x = c.node_at-x.result in
    let n = c.input_size-n.result in
    let part = part_of a.table.now a.records.now _ c.loop-i.i c.loop-i.from n x c.requires.2 c.loop-i-test.true c.node_at-x.ensures c.input_size-n.ensures c.loop-i.invariant.1 in
    let found = c.in_err-scan_param.ensures in
    let told = c.struct_told-1.given in
    let here = limits_read x.low x.high a.values.now a.flags.now c.loop-i.from n (fit_at x.low told.1.1.1.1.1.1.1.0.1) (fit_at x.high told.1.1.1.1.1.1.1.1.0.1) found.is_test in
    let stops = whole_stops (input_limits a.table.now (nodes_of a.records.now)) a.values.now a.flags.now (between x.low x.high) c.loop-i.from n c.loop-i.invariant.2 part.limits here part.within in
    let p = err_from_is_err_and c.from_residual.result c.from_residual.ensures.1 in
    rw (p.1, p.2) (record { is_test = stops; named = found.named })

pub overflow_add-from : goal.overflow_add-from
overflow_add-from c =
    let a = c.args in
    let part = part_of a.table.now a.records.now _ c.loop-i.i c.loop-i.from _ _ c.requires.2 c.loop-i-test.true c.node_at-x.ensures c.input_size-n.ensures c.loop-i.invariant.1 in
    omega (arith, c.loop-i.invariant.0, c.requires.0, part.few)

pub loop-i-preserved : goal.loop-i-preserved
loop-i-preserved c =
    let a = c.args in
    let x = c.node_at-x.result in
    let n = c.input_size-n.result in
    let part = part_of a.table.now a.records.now _ c.loop-i.i c.loop-i.from n x c.requires.2 c.loop-i-test.true c.node_at-x.ensures c.input_size-n.ensures c.loop-i.invariant.1 in
    let told = c.struct_told-1.given in
    let here = limits_read x.low x.high a.values.now a.flags.now c.loop-i.from n (fit_at x.low told.1.1.1.1.1.1.1.0.1) (fit_at x.high told.1.1.1.1.1.1.1.1.0.1) c.in_ok-scan_param.ensures.is_test in
    let passed = whole_more (input_limits a.table.now (nodes_of a.records.now)) a.values.now a.flags.now (between x.low x.high) c.loop-i.from n c.loop-i.invariant.2 part.limits here in
    (omega (arith, c.loop-i.invariant.0, part.few), part.next, passed)

pub returns : goal.returns
returns c =
    let a = c.args in
    let e : c.loop-i.i ≡ length a.records.now = omega arith in
    let all = (rw e at c.loop-i.invariant.1) ∙ input_whole a.table.now a.records.now in
    record { is_test = whole_done (input_limits a.table.now (nodes_of a.records.now)) a.values.now a.flags.now c.loop-i.from all c.loop-i.invariant.2; named = tt }
