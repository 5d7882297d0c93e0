use Rattle.std.proofs.Common.{arith}
use Rattle.inputs.proofs.Limits.{le_lifted, inside_limits}
use Rattle.inputs.proofs.Reading.{lifted_read}
use Rattle.inputs.proofs.Scans.{gap_passes, flag_inside}
use Rattle.inputs.proofs.miss.Goals as goal
use Rattle.inputs.proofs.miss.Goals.{then-flag-eq0, else-flag-eq0}

pub overflow_sub-width : goal.overflow_sub-width
overflow_sub-width c = le_lifted (lifted_read c.args.low c.ranges.low c.lifted-first.ensures) (lifted_read c.args.high c.ranges.high c.lifted.ensures) c.requires

pub returns : goal.returns
returns c =
    let a = c.args in
    λ small good p.
    elim c.if-flag-eq0.branch [
      | then-flag-eq0 w ↦ gap_passes a.flag a.value a.low a.high p w.if-flag-eq0.true
      | else-flag-eq0 w ↦ flag_inside a.flag a.value a.low a.high p good
          (inside_limits a.value a.low a.high c.lifted-2.result c.lifted-first.result c.lifted.result c.if-flag-eq0.left c.wrapping_sub_u64.result
          (lifted_read a.value c.ranges.value c.lifted-2.ensures) (lifted_read a.low c.ranges.low c.lifted-first.ensures) (lifted_read a.high c.ranges.high c.lifted.ensures)
          c.requires (omega (arith, c.lifted.type_inv)) (rw w.left-is c.wrapping_sub_u64-over.ensures.value) c.wrapping_sub_u64.ensures.value small)
    ]
