use Prim.Native.Nat.{ℕ, ◌+◌}
use mathlib.Core.Path.{◌≡◌}
use Rattle.laws.specs.Store.{store}
use Rattle.validity.specs.Flags.{chosen_flag}
use Rattle.validity.specs.Lines.{cell_place}
use Rattle.validity.proofs.row_chosen.Given as goal

abbrev pub invariant-loop-i : goal.invariant-loop-i
invariant-loop-i l = l.flags ≡ store l.initial.flags l.to l.i (λ (j : ℕ). chosen_flag l.initial.flags (l.to + j) (cell_place l.n l.lines.a j) (cell_place l.n l.lines.b j) (cell_place l.n l.lines.d j))
