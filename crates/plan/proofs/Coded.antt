-- The code's operations are those of the tables.
use Prim.Native.Nat.{◌<◌}
use mathlib.Core.Path.{◌≡◌, refl, sym, ap, ◌∙◌}
use mathlib.Core.Bool.{true}
use native.Mathlib.Omega.{arith}
use Rattle.plan.specs.declared.operations.Operation.{Operation}
use Rattle.plan.specs.declared.operations.Operation.TheVariants.{Const, Param, Permute, Flip, Reshape, Expand, Pad, Shrink, Cast, Add, Mul, Max, Idiv, Mod, CmpLt, CmpNe, And, Or, Where, Reduce, Load, Fill, Known, Stack}
use Rattle.plan.specs.declared.instructions.Instruction.{Instruction}
use Rattle.plan.specs.Operations.{is_operation, operation_count}
use Rattle.plan.specs.Coded.{number_of}

-- the number of a node whose operation is known
pub number_is : (x : Instruction) {op : Operation} → x.op ≡ op → x.node.op ≡ number_of op
number_is x e = sym x.named ∙ ap number_of e

pub number_known : (op : Operation) → is_operation (number_of op) ≡ true
unfolding is_operation
number_known Const = refl
number_known Param = refl
number_known Permute = refl
number_known Flip = refl
number_known Reshape = refl
number_known Expand = refl
number_known Pad = refl
number_known Shrink = refl
number_known Cast = refl
number_known Add = refl
number_known Mul = refl
number_known Max = refl
number_known Idiv = refl
number_known Mod = refl
number_known CmpLt = refl
number_known CmpNe = refl
number_known And = refl
number_known Or = refl
number_known Where = refl
number_known Reduce = refl
number_known Load = refl
number_known Fill = refl
number_known Known = refl
number_known Stack = refl

pub number_small : (op : Operation) → number_of op < operation_count
number_small Const = omega arith
number_small Param = omega arith
number_small Permute = omega arith
number_small Flip = omega arith
number_small Reshape = omega arith
number_small Expand = omega arith
number_small Pad = omega arith
number_small Shrink = omega arith
number_small Cast = omega arith
number_small Add = omega arith
number_small Mul = omega arith
number_small Max = omega arith
number_small Idiv = omega arith
number_small Mod = omega arith
number_small CmpLt = omega arith
number_small CmpNe = omega arith
number_small And = omega arith
number_small Or = omega arith
number_small Where = omega arith
number_small Reduce = omega arith
number_small Load = omega arith
number_small Fill = omega arith
number_small Known = omega arith
number_small Stack = omega arith
