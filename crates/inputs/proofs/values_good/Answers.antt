use Rattle.std.proofs.Common.{◌≡◌, ◌+◌, get_or, pos, arith, w64, SFits, rules, ltb-true}
use Rattle.laws.proofs.Machine.{read_back, read_back_is}
use Rattle.plan.specs.Types.{between}
use Rattle.inputs.proofs.Reading.{test_read, limits_read}
use Rattle.inputs.proofs.Scans.{part_none, part_good}
use Rattle.inputs.proofs.values_good.Goals as goal

pub loop-i-init : goal.loop-i-init
loop-i-init c =
    let a = c.args in
    λ _. part_none (between (read_back a.low) (read_back a.high)) a.values.now a.flags.now a.from

pub miss-here-requires : goal.miss-here-requires
miss-here-requires c = rw (read_back_is c.ranges.low, read_back_is c.ranges.high) c.requires.2

pub loop-i-preserved : goal.loop-i-preserved
loop-i-preserved c =
    let a = c.args in
    let limits = between (read_back a.low) (read_back a.high) in
    let p = a.from + c.loop-i.i in
    let fit : SFits w64 (get_or a.values.now p (pos 0)) = search rules in
    part_good limits a.values.now a.flags.now a.from c.loop-i.found c.miss-here.result c.loop-i.i c.loop-i.invariant (λ t. test_read (get_or a.values.now p (pos 0)) (get_or a.flags.now p 0) fit limits p (c.miss-here.ensures t (c.requires.3 c.loop-i.i (search rules)) p))

pub returns : goal.returns
returns c =
    let a = c.args in
    let e : c.loop-i.i ≡ a.n = omega arith in
    λ t. limits_read a.low a.high a.values.now a.flags.now a.from a.n c.ranges.low c.ranges.high (rw e at (c.loop-i.invariant (ltb-true c.loop-i.found 9223372036854775808 t)))
