-- Every operation has its row in the tables of this crate.
use Prim.Native.Nat.{ℕ}
use mathlib.Core.Path.{◌≡◌, refl}
use mathlib.Core.Bool.{true, cond, not}
use mathlib.Core.List.{List}
use lib.IntN.{ℤ}
use Rattle.laws.specs.Lists.{all_below, among}
use Rattle.plan.specs.declared.Node.{Node}
use Rattle.plan.specs.declared.ElementNumber.{ElementNumber}
use Rattle.plan.specs.Operations.{operation_count, is_operation, operations_of, covers_all, binaries}
use Rattle.cells.specs.Cells.{binary_rules}
use Rattle.cells.specs.Nodes.{Operands, cell_rules}

pub cell_rules_lem : (x : Node) (r : List ℕ) (s : Operands) (e : ElementNumber) → covers_all (cell_rules x r s e) ≡ true
unfolding all_below among is_operation
cell_rules_lem x r s e = refl

-- numbers of two sources: exactly the binary operations
pub binary_rules_lem : (x y : ℤ) → all_below operation_count (λ (op : ℕ). cond (among op binaries) (among op (operations_of (binary_rules x y))) (not (among op (operations_of (binary_rules x y))))) ≡ true
unfolding all_below among
binary_rules_lem x y = refl
