use Prim.Native.Nat.{ℕ, ◌≤◌, ◌<◌}
use mathlib.Core.Path.{◌≡◌, refl, sym, ap, ◌∙◌}
use mathlib.Core.Bool.{true, false≢true}
use native.Mathlib.Omega.{arith}
use Rattle.laws.specs.Lists.{among}
use Rattle.plan.specs.declared.operations.Operation.{Operation}
use Rattle.plan.specs.declared.operations.Operation.TheVariants.{Const, Param, Pad, Reduce, Fill, Known, Stack}
use Rattle.plan.specs.Operations.{is_new}
use Rattle.plan.specs.Coded.{number_of}
use Rattle.walking.specs.Movements.{viewed}
use Rattle.evaluation.specs.Standing.{copied, moves}
use Rattle.evaluation.proofs.Groups.{const_result, padded_right, copied_count, viewed_right, viewed_result, reduced_right, reduce_reads, filled_spreads, fill_reads, new_reads, known_result, stacked_right, stack_two, mixed_reads, where_reads, moves_read, first_right}
use Rattle.evaluation.proofs.eval_node.Goals as goal

-- the number of an operation that was decoded
is_named : {op : Operation} {n : ℕ} (v : Operation) → number_of op ≡ n → op ≡ v → n ≡ number_of v
is_named v e q = sym e ∙ ap number_of q

pub returns-in_default : goal.returns-in_default
returns-in_default c = absurd (false≢true (sym c.in_default.ensures.1 ∙ c.requires.right.known))

pub eval_const-requires : goal.eval_const-requires
eval_const-requires c = let e = is_named Const c.in-Ok.ensures c.in-Const.is in (e, const_result c.args.x _ _ _ _ c.requires.right e, c.requires.room)

pub returns-in-Const : goal.returns-in-Const
returns-in-Const c = λ o reads. c.eval_const.ensures o

pub eval_param-requires : goal.eval_param-requires
eval_param-requires c = let q = c.requires in let e = is_named Param c.in-Ok.ensures c.in-Param.is in (e, q.right.whole.few, q.room, q.values e, q.flags e)

pub returns-in-Param : goal.returns-in-Param
returns-in-Param c = λ o reads. c.eval_param.ensures o (reads.input (is_named Param c.in-Ok.ensures c.in-Param.is))

pub eval_padded-requires : goal.eval_padded-requires
unfolding among
eval_padded-requires c =
    let x = c.args.x in
    let q = c.requires in
    let e = is_named Pad c.in-Ok.ensures c.in-Pad.is in
    let m : among x.op moves ≡ true = rw e refl in
    (padded_right x _ _ _ _ q.right e, q.room, q.first (moves_read x m))

pub returns-in-Pad : goal.returns-in-Pad
unfolding among
returns-in-Pad c =
    let x = c.args.x in
    let e = is_named Pad c.in-Ok.ensures c.in-Pad.is in
    let m : among x.op moves ≡ true = rw e refl in
    λ o reads. c.eval_padded.ensures o (reads.first (moves_read x m))

pub eval_copied-requires : goal.eval_copied-requires
unfolding among
eval_copied-requires c =
    let x = c.args.x in
    let q = c.requires in
    let g : among x.op copied ≡ true = grind arith in
    let m : among x.op moves ≡ true = grind arith in
    (g, copied_count x _ _ _ _ q.right g, q.right.whole.few, q.room, q.first (moves_read x m))

pub returns-in-Reshape : goal.returns-in-Reshape
unfolding among
returns-in-Reshape c =
    let x = c.args.x in
    let m : among x.op moves ≡ true = grind arith in
    λ o reads. c.eval_copied.ensures o (reads.first (moves_read x m))

pub eval_viewed-requires : goal.eval_viewed-requires
unfolding among
eval_viewed-requires c =
    let x = c.args.x in
    let q = c.requires in
    let g : among x.op viewed ≡ true = grind arith in
    let m : among x.op moves ≡ true = grind arith in
    let right = first_right x _ _ _ _ q.right m in
    (viewed_right x _ _ _ _ right g, viewed_result x _ _ _ _ right g, q.room, q.first (moves_read x m))

pub returns-in-Permute : goal.returns-in-Permute
unfolding among
returns-in-Permute c =
    let x = c.args.x in
    let m : among x.op moves ≡ true = grind arith in
    λ o reads. c.eval_viewed.ensures o (reads.first (moves_read x m))

pub eval_reduced-requires : goal.eval_reduced-requires
eval_reduced-requires c =
    let x = c.args.x in
    let q = c.requires in
    let e = is_named Reduce c.in-Ok.ensures c.in-Reduce.is in
    (reduced_right x _ _ _ _ q.right e, q.room, q.first (reduce_reads x e), q.small_first (reduce_reads x e))

pub returns-in-Reduce : goal.returns-in-Reduce
returns-in-Reduce c = λ o reads. c.eval_reduced.ensures o (reads.first (reduce_reads _ (is_named Reduce c.in-Ok.ensures c.in-Reduce.is)))

pub eval_filled-requires : goal.eval_filled-requires
unfolding is_new among
eval_filled-requires c =
    let x = c.args.x in
    let q = c.requires in
    let e = is_named Fill c.in-Ok.ensures c.in-Fill.is in
    let new : is_new x.op ≡ true = rw e refl in
    let all = filled_spreads x _ _ _ _ q.right e in
    (e, q.right.first, q.right.second, q.right.whole.positive, all.0, all.1, q.room, q.first (new_reads x new), q.second (fill_reads x e))

pub returns-in-Fill : goal.returns-in-Fill
unfolding is_new among
returns-in-Fill c =
    let x = c.args.x in
    let e = is_named Fill c.in-Ok.ensures c.in-Fill.is in
    let new : is_new x.op ≡ true = rw e refl in
    λ o reads. c.eval_filled.ensures o (reads.first (new_reads x new)) (reads.second (fill_reads x e))

pub eval_known-requires : goal.eval_known-requires
unfolding is_new among
eval_known-requires c =
    let x = c.args.x in
    let q = c.requires in
    let e = is_named Known c.in-Ok.ensures c.in-Known.is in
    let new : is_new x.op ≡ true = rw e refl in
    (e, q.right.whole.few, q.room, rw (known_result x _ _ _ _ q.right e) (q.first (new_reads x new)))

pub returns-in-Known : goal.returns-in-Known
unfolding is_new among
returns-in-Known c =
    let x = c.args.x in
    let e = is_named Known c.in-Ok.ensures c.in-Known.is in
    let new : is_new x.op ≡ true = rw e refl in
    let same = known_result x _ _ _ _ c.requires.right e in
    λ o reads. c.eval_known.ensures o (rw same (reads.first (new_reads x new)))

pub eval_stacked-requires : goal.eval_stacked-requires
unfolding is_new among
eval_stacked-requires c =
    let x = c.args.x in
    let q = c.requires in
    let e = is_named Stack c.in-Ok.ensures c.in-Stack.is in
    let new : is_new x.op ≡ true = rw e refl in
    (stacked_right x _ _ _ _ q.right e, q.room, q.first (new_reads x new), q.second (stack_two x e), q.third)

pub returns-in-Stack : goal.returns-in-Stack
unfolding is_new among
returns-in-Stack c =
    let x = c.args.x in
    let e = is_named Stack c.in-Ok.ensures c.in-Stack.is in
    let new : is_new x.op ≡ true = rw e refl in
    λ o reads. c.eval_stacked.ensures o (reads.first (new_reads x new)) (reads.second (stack_two x e)) reads.third

pub eval_mixed-requires : goal.eval_mixed-requires
eval_mixed-requires c =
    let x = c.args.x in
    let q = c.requires in
    let low : 9 ≤ x.op = grind arith in
    let high : x.op < 19 = grind arith in
    let e = mixed_reads x low high in
    (c.in-Ok.ensures, low, high, q.right, q.room, q.small_first e.0, q.small_second e.1, q.first e.0, q.second e.1, λ w. q.third (where_reads x w))

pub returns-in-Add : goal.returns-in-Add
returns-in-Add c =
    let x = c.args.x in
    let low : 9 ≤ x.op = grind arith in
    let high : x.op < 19 = grind arith in
    let e = mixed_reads x low high in
    λ o reads. c.eval_mixed.ensures o (reads.first e.0) (reads.second e.1) (λ w. reads.third (where_reads x w))
