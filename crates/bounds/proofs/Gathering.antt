-- The bounds of a REDUCE and of a STACK.
use Prim.Native.Nat.{ℕ}
use mathlib.Core.Path.{◌≡◌, refl, ap, sym, ◌∙◌}
use mathlib.Core.Bool.{Bool, true, false}
use lib.IntN.{pos}
use Rattle.laws.specs.Lists.{among}
use Rattle.plan.specs.declared.Interval.{Interval}
use Rattle.plan.specs.declared.Node.{Node}
use Rattle.plan.specs.Operations.{by_operation}
use Rattle.plan.specs.Types.{between}
use Rattle.plan.specs.Words.{in_number}
use Rattle.plan.proofs.ByOperation.{stack_third}
use Rattle.bounds.specs.Rules.{where_bounds, stack_bounds, reduce_bounds, bounds_rules, result_bounds}
use Rattle.bounds.specs.Narrow.{Result}

pub stack_three : (a b c : Interval) {third : Bool} {p r : Interval} → third ≡ true → p ≡ where_bounds a b → r ≡ where_bounds p c → r ≡ stack_bounds third a b c
unfolding stack_bounds
stack_three a b c e f g = rw e (g ∙ ap (λ (p : Interval). where_bounds p c) f)

pub stack_two : (a b c : Interval) {third : Bool} {p : Interval} → third ≡ false → p ≡ where_bounds a b → p ≡ stack_bounds third a b c
unfolding stack_bounds
stack_two a b c e f = rw e f

module _ (x : Node) (n : ℕ) (a b c : Interval) where
  pub bounds_reduce : {r : Interval} → x.op ≡ 19 → r ≡ reduce_bounds x.number n a → Result x n a b c r
  unfolding result_bounds among
  bounds_reduce q e s g = rw (q, e, ← (g q)) refl

  pub bounds_stack : {third : Bool} {r : Interval} → x.op ≡ 23 → third ≡ in_number x 3 → r ≡ stack_bounds third a b c → Result x n a b c r
  unfolding result_bounds among
  bounds_stack q e f s g = f ∙ rw (e, stack_third x q) (ap (λ (k : ℕ). by_operation k (bounds_rules x s a b c) (between (pos 0) (pos 0))) (sym q))
