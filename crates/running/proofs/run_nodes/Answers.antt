use mathlib.Core.Path.{◌≡◌}
use lib.ListN.{length}
use native.Mathlib.Omega.{arith}
use borrow.Author.Rules.{rules}
use Rattle.runner.specs.Inputs.{input_cells}
use Rattle.runner.specs.Run.{value_of, flag_of}
use Rattle.inputs.specs.Nodes.{nodes_of}
use Rattle.inputs.proofs.Sizes.{start_none}
use Rattle.running.proofs.EndToEnd.{laid_none, laid_length}
use Rattle.running.proofs.OneMore.{taken_few, taken_next, turning, one_more}
use Rattle.running.proofs.run_nodes.Goals as goal

pub loop-i-init : goal.loop-i-init
loop-i-init c =
    let a = c.args in
    let t = a.table.now in
    let ds = nodes_of a.records.now in
    let input = input_cells a.given.now a.known.now in
    (search rules, start_none t ds, laid_none t ds input value_of a.values.now, laid_none t ds input flag_of a.flags.now)

pub run_node-from-requires : goal.run_node-from-requires
run_node-from-requires c =
    let a = c.args in
    let m = c.loop-i in
    let l = c.loop-i-test.true in
    turning a.table.now a.records.now c.requires.0 m.i l a.given.now a.known.now c.requires.1 a.values.now a.flags.now m.values m.flags a.starts.now c.requires.2 m.invariant.2 m.invariant.3 m.invariant.1

pub overflow_add-from : goal.overflow_add-from
overflow_add-from c =
    let a = c.args in
    let m = c.loop-i in
    let l = c.loop-i-test.true in
    omega (arith, m.invariant.0, c.requires.0.few, taken_few a.table.now a.records.now c.requires.0 m.i l c.run_node-from.ensures.0)

pub loop-i-preserved : goal.loop-i-preserved
loop-i-preserved c =
    let a = c.args in
    let m = c.loop-i in
    let l = c.loop-i-test.true in
    let ran = c.run_node-from.ensures in
    let laid = one_more a.table.now a.records.now c.requires.0 m.i l a.given.now a.known.now c.requires.1 a.values.now a.flags.now m.values m.flags a.starts.now c.requires.2 m.invariant.2 m.invariant.3 m.invariant.1 ran.1 in
    (omega (arith, m.invariant.0, taken_few a.table.now a.records.now c.requires.0 m.i l ran.0), taken_next a.table.now a.records.now c.requires.0 m.i l ran.0 m.invariant.1, laid.0, laid.1)

pub shape_of-values : goal.shape_of-values
shape_of-values c =
    let m = c.loop-i in
    let a = c.args in
    laid_length a.table.now (nodes_of a.records.now) (input_cells a.given.now a.known.now) value_of a.values.now m.i m.invariant.2

pub shape_of-flags : goal.shape_of-flags
shape_of-flags c =
    let m = c.loop-i in
    let a = c.args in
    laid_length a.table.now (nodes_of a.records.now) (input_cells a.given.now a.known.now) flag_of a.flags.now m.i m.invariant.3

pub returns : goal.returns
returns c =
    let m = c.loop-i in
    let e : m.i ≡ length c.args.records.now = omega (arith, c.loop-i-test.false) in
    (rw e at m.invariant.2, rw e at m.invariant.3)
