use Rattle.inputs.proofs.Reading.{limits_read}
use Rattle.inputs.proofs.scan_param.Goals as goal

pub returns-then-all_good : goal.returns-then-all_good
returns-then-all_good c =
    let a = c.args in
    record { is_test = limits_read a.low a.high a.values.now a.flags.now a.from a.n c.ranges.low c.ranges.high (c.all_good.ensures c.if-all_good.true); named = tt }

pub returns : goal.returns
returns c =
    let a = c.args in
    let found = c.first_fault.ensures in
    record { is_test = limits_read a.low a.high a.values.now a.flags.now a.from a.n c.ranges.low c.ranges.high found.is_test; named = found.named }
