use mathlib.Core.Path.{sym, ◌∙◌}
use Rattle.plan.proofs.ByOperation.{stack_third}
use Rattle.evaluation.proofs.Stacked.{two_fit, three_fit, length_twice, two_evaluates, three_evaluates}
use Rattle.evaluation.proofs.Leaves.{capped_is}
use native.Mathlib.Omega.{arith}
use Rattle.evaluation.proofs.eval_stacked.Goals as goal

pub copy_cells-requires : goal.copy_cells-requires
copy_cells-requires c =
    let n = capped_is c.count-n.ensures c.requires.0.few in
    let two = two_fit c.requires.0 n in
    (omega (arith, n, c.requires.0.some), omega (arith, n, c.requires.2), omega (arith, two, c.requires.1.values), omega (arith, two, c.requires.1.flags))

pub overflow_add-start : goal.overflow_add-start
overflow_add-start c =
    let n = capped_is c.count-n.ensures c.requires.0.few in
    omega (arith, two_fit c.requires.0 n, c.requires.1.values, c.well_formed.0)

pub copy_cells-requires-2 : goal.copy_cells-requires-2
copy_cells-requires-2 c =
    let n = capped_is c.count-n.ensures c.requires.0.few in
    let two = two_fit c.requires.0 n in
    let same = c.requires.0.second in
    (omega (arith, n, c.requires.0.some), omega (arith, n, rw same at c.requires.3), omega (arith, two, c.requires.1.values), omega (arith, two, c.requires.1.flags))

pub returns-then-not-in_number : goal.returns-then-not-in_number
returns-then-not-in_number c =
    let n = capped_is c.count-n.ensures c.requires.0.few in
    let read = sym (stack_third c.args.x c.requires.0.operation) ∙ sym c.in_number.ensures ∙ c.if-not-in_number.true in
    let one = c.copy_cells.ensures in
    let two = c.copy_cells-2.ensures in
    λ o first second third. two_evaluates c.requires.0 o _ _ _ c.args.b.base n first second c.args.start (omega (arith, n, rw c.requires.0.second at c.requires.3)) one.0 one.1 two.0 two.1 read

pub overflow_add-start-2 : goal.overflow_add-start-2
overflow_add-start-2 c =
    let n = capped_is c.count-n.ensures c.requires.0.few in
    let read = sym (stack_third c.args.x c.requires.0.operation) ∙ sym c.in_number.ensures ∙ c.if-not-in_number.false in
    omega (arith, three_fit c.requires.0 n read, c.requires.1.values, c.well_formed.0)

pub overflow_add-start-3 : goal.overflow_add-start-3
overflow_add-start-3 c =
    let n = capped_is c.count-n.ensures c.requires.0.few in
    let read = sym (stack_third c.args.x c.requires.0.operation) ∙ sym c.in_number.ensures ∙ c.if-not-in_number.false in
    omega (arith, three_fit c.requires.0 n read, c.requires.1.values, c.well_formed.0)

pub copy_cells-requires-3 : goal.copy_cells-requires-3
copy_cells-requires-3 c =
    let n = capped_is c.count-n.ensures c.requires.0.few in
    let read = sym (stack_third c.args.x c.requires.0.operation) ∙ sym c.in_number.ensures ∙ c.if-not-in_number.false in
    let three = three_fit c.requires.0 n read in
    let one = c.copy_cells.ensures in
    let two = c.copy_cells-2.ensures in
    let values = length_twice _ _ _ _ _ _ _ _ _ one.0 two.0 in
    let flags = length_twice _ _ _ _ _ _ _ _ _ one.1 two.1 in
    (omega (arith, n, c.requires.0.some), omega (arith, n, rw (c.requires.0.third read) at (c.requires.4 read)), omega (arith, values, three, c.requires.1.values), omega (arith, flags, three, c.requires.1.flags))

pub returns : goal.returns
returns c =
    let n = capped_is c.count-n.ensures c.requires.0.few in
    let read = sym (stack_third c.args.x c.requires.0.operation) ∙ sym c.in_number.ensures ∙ c.if-not-in_number.false in
    let one = c.copy_cells.ensures in
    let two = c.copy_cells-2.ensures in
    let three = c.copy_cells-3.ensures in
    λ o first second third. three_evaluates c.requires.0 o _ _ _ c.args.b.base n first second c.args.start (omega (arith, n, rw c.requires.0.second at c.requires.3)) one.0 one.1 two.0 two.1 read c.args.d.base (third read) (omega (arith, n, rw (c.requires.0.third read) at (c.requires.4 read))) three.0 three.1
