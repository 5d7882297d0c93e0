use mathlib.Core.Bool.{false≢true}
use Rattle.std.proofs.Common.{rules}
use Rattle.laws.proofs.Machine.{read_back}
use Rattle.laws.proofs.Parts.{of_le, lt_z_false}
use Rattle.inputs.proofs.Reading.{limits_read}
use Rattle.inputs.proofs.all_good.Goals as goal

pub returns-then-high-low : goal.returns-then-high-low
returns-then-high-low c = λ t. absurd (false≢true t)

pub values_good-requires : goal.values_good-requires
values_good-requires c =
    let a = c.args in
    (search rules, search rules, of_le (lt_z_false (read_back a.high) (read_back a.low) c.if-high-low.false), λ k h. (c.flags_from.ensures c.if-flags_from.true k h).1)

pub returns-then-flags_from : goal.returns-then-flags_from
returns-then-flags_from c =
    let a = c.args in
    λ t. limits_read a.low a.high a.values.now a.flags.now a.from a.n c.ranges.low c.ranges.high (c.values_good.ensures t)

pub returns : goal.returns
returns c = λ t. absurd (false≢true t)
