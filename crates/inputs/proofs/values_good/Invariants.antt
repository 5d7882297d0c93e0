use Rattle.std.proofs.Common.{◌≡◌, ◌^◌, ◌<◌}
use Rattle.plan.specs.Types.{between}
use Rattle.plan.specs.Answers.{accepted}
use Rattle.inputs.specs.Nodes.{test_part}
use Rattle.inputs.proofs.values_good.Given as goal

abbrev pub invariant-loop-i : goal.invariant-loop-i
invariant-loop-i l = l.found < 2 ^ 63 → test_part (between l.low l.high) l.values l.flags l.from l.i ≡ accepted tt
