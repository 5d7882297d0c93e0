use Rattle.std.proofs.Common.{◌≡◌, ◌*◌, ◌≤◌}
use Rattle.runner.specs.Inputs.{input_start}
use Rattle.inputs.specs.Nodes.{nodes_of}
use Rattle.inputs.proofs.input_total.Given as goal

abbrev pub invariant-loop-i : goal.invariant-loop-i
invariant-loop-i l = (l.total ≤ l.i * 1048576) × (l.total ≡ input_start l.table (nodes_of l.records) l.i)
