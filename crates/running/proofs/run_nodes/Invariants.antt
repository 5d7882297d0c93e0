use Prim.Native.Nat.{◌*◌, ◌≤◌}
use mathlib.Core.Path.{◌≡◌}
use Rattle.runner.specs.Inputs.{input_start, input_cells}
use Rattle.runner.specs.Run.{value_of, flag_of}
use Rattle.inputs.specs.Nodes.{nodes_of}
use Rattle.running.specs.Running.{laid_to}
use Rattle.running.proofs.run_nodes.Given as goal

abbrev pub invariant-loop-i : goal.invariant-loop-i
invariant-loop-i l = (l.from ≤ l.i * 1048576)
    × (l.from ≡ input_start l.table (nodes_of l.records) l.i)
    × (l.values ≡ laid_to value_of l.table (nodes_of l.records) (input_cells l.given l.known) l.i l.initial.values)
    × (l.flags ≡ laid_to flag_of l.table (nodes_of l.records) (input_cells l.given l.known) l.i l.initial.flags)
