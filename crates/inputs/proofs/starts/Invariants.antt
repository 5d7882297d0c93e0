use Rattle.std.proofs.Common.{◌≡◌, ℕ, ◌*◌, ◌<◌, ◌≤◌, length, get_or, take}
use Rattle.verifier.specs.Check.{total_of}
use Rattle.inputs.specs.Nodes.{nodes_of}
use Rattle.inputs.proofs.starts.Given as goal

abbrev pub invariant-loop-i : goal.invariant-loop-i
invariant-loop-i l = (length l.starts ≡ 256) × (l.total ≤ l.i * 1048576) × (l.total ≡ total_of (take l.i (nodes_of l.records))) × ((j : ℕ) → j < l.i → get_or l.starts j 0 ≡ total_of (take j (nodes_of l.records)))
