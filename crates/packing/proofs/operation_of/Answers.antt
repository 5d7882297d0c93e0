use mathlib.Core.Path.{◌≡◌, refl, sym, ap, ◌∙◌}
use borrow.Author.Rules.{rules}
use Rattle.plan.specs.Operations.{is_operation}
use Rattle.plan.specs.Words.{size_at}
use Rattle.packing.proofs.Breaking.{breaks_2, breaks_3, breaks_25, breaks_none}
use Rattle.packing.proofs.operation_of.Goals as goal

pub returns-in_default : goal.returns-in_default
returns-in_default c =
    let is : c.size_of_word-number.result ≡ size_at c.args.w.now 0 = search rules in
    rw c.at.ensures (refl, breaks_2 c.args.w.now (ap is_operation (sym is) ∙ c.in_default.ensures.1))

pub returns-then-not-unused_zero : goal.returns-then-not-unused_zero
returns-then-not-unused_zero c =
    let is : c.size_of_word-number.result ≡ size_at c.args.w.now 0 = search rules in
    rw c.at-then-not-unused_zero.ensures (refl, breaks_3 _ c.in-Ok.op (c.in-Ok.ensures ∙ is) (sym c.if-not-unused_zero.ensures))

pub returns-then-not-all_in_range : goal.returns-then-not-all_in_range
returns-then-not-all_in_range c =
    let is : c.size_of_word-number.result ≡ size_at c.args.w.now 0 = search rules in
    rw c.at-then-not-all_in_range.ensures (refl, breaks_25 _ c.in-Ok.op (c.in-Ok.ensures ∙ is) (sym c.if-not-unused_zero.ensures) (sym c.if-not-all_in_range.ensures))

pub returns : goal.returns
returns c =
    let is : c.size_of_word-number.result ≡ size_at c.args.w.now 0 = search rules in
    breaks_none _ c.in-Ok.op (c.in-Ok.ensures ∙ is) (sym c.if-not-unused_zero.ensures) (sym c.if-not-all_in_range.ensures)
