use Rattle.std.proofs.Common.{◌≡◌, ◌*◌, ◌≤◌}
use Rattle.plan.specs.Answers.{accepted}
use Rattle.runner.specs.Inputs.{input_start, input_limits}
use Rattle.inputs.specs.Nodes.{nodes_of}
use Rattle.inputs.proofs.Scans.{test_to}
use Rattle.inputs.proofs.scan.Given as goal

abbrev pub invariant-loop-i : goal.invariant-loop-i
invariant-loop-i l = (l.from ≤ l.i * 1048576) × (l.from ≡ input_start l.table (nodes_of l.records) l.i) × (test_to (input_limits l.table (nodes_of l.records)) l.values l.flags l.from ≡ accepted tt)
