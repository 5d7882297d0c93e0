-- A node's cells: exactly its count of them, each by its rule.
use Prim.Native.Nat.{ℕ, zero, suc, ◌<◌, ◌≤◌}
use mathlib.Core.Path.{◌≡◌}
use mathlib.Core.List.{List}
use lib.ListN.{length, get_or}
use Rattle.laws.specs.Lists.{tab}
use Rattle.laws.specs.Numbering.{count}
use Rattle.laws.proofs.Lists.{length_tab, get_or_tab}
use Rattle.plan.specs.declared.Node.{Node}
use Rattle.plan.specs.declared.ElementNumber.{ElementNumber}
use Rattle.plan.specs.Words.{element}
use Rattle.cells.specs.Cells.{Cell, gap}
use Rattle.cells.specs.Nodes.{Operands, eval_cell, eval_node}

module _ (x : Node) (r : List ℕ) (s : Operands) where
  -- "every element of every node"
  pub node_count_lem : length (eval_node x r s) ≡ count r
  unfolding eval_node
  node_count_lem = length_tab (count r) _

  pub node_cell : (e : ElementNumber) → e.0 < count r → get_or (eval_node x r s) e.0 gap ≡ eval_cell x r s e
  unfolding eval_node
  node_cell e h = get_or_tab (count r) (λ (e : ℕ). eval_cell x r s (element e)) e.0 gap h

-- what holds of every cell below n, and of a gap, holds at every place
pub everywhere : (P : Cell → Type 0) (n : ℕ) (f : ℕ → Cell) → P gap → ((k : ℕ) → k < n → P (f k)) → (e : ℕ) → P (get_or (tab n f) e gap)
unfolding tab
everywhere P zero f g h e = g
everywhere P (suc n) f g h zero = h 0 (native.Mathlib.Nat.zero-lt-suc n)
everywhere P (suc n) f g h (suc e) = everywhere P n (λ (k : ℕ). f (suc k)) g (λ k q. h (suc k) (Prim.Native.Nat.suc-le-suc q)) e
