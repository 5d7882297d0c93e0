use Rattle.std.proofs.Common.{◌≡◌, ◌+◌, get_or, pos, arith, rules}
use Rattle.laws.proofs.Machine.{read_back}
use Rattle.plan.specs.Types.{between}
use Rattle.inputs.proofs.Reading.{test_read, limits_read}
use Rattle.inputs.proofs.Scans.{part_none, part_more, part_stops}
use Rattle.inputs.proofs.first_fault.Goals as goal

pub loop-i-init : goal.loop-i-init
loop-i-init c = part_none (between (read_back c.args.low) (read_back c.args.high)) c.args.values.now c.args.flags.now c.args.from

pub returns-in-Some : goal.returns-in-Some
returns-in-Some c =
    let a = c.args in
    let limits = between (read_back a.low) (read_back a.high) in
    let p = a.from + c.loop-i.i in
    let here = test_read (get_or a.values.now p (pos 0)) (get_or a.flags.now p 0) (search rules) limits p (c.in-Some.ensures.0 p) in
    let stops = part_stops limits a.values.now a.flags.now a.from c.loop-i.i c.loop-i.invariant here a.n c.loop-i-test.true in
    rw c.at.ensures (record { is_test = limits_read a.low a.high a.values.now a.flags.now a.from a.n c.ranges.low c.ranges.high stops; named = c.in-Some.ensures.1 })

pub loop-i-preserved : goal.loop-i-preserved
loop-i-preserved c =
    let a = c.args in
    let limits = between (read_back a.low) (read_back a.high) in
    let p = a.from + c.loop-i.i in
    let here = test_read (get_or a.values.now p (pos 0)) (get_or a.flags.now p 0) (search rules) limits p (c.in_default.ensures.0 p) in
    part_more limits a.values.now a.flags.now a.from c.loop-i.i c.loop-i.invariant here

pub returns : goal.returns
returns c =
    let a = c.args in
    let e : c.loop-i.i ≡ a.n = omega arith in
    record { is_test = limits_read a.low a.high a.values.now a.flags.now a.from a.n c.ranges.low c.ranges.high (rw e at c.loop-i.invariant); named = tt }
