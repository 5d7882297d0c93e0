use mathlib.Core.Path.{refl, sym, ap, ◌∙◌}
use borrow.Author.Tests.{eq-eqb, ne_eqb}
use Rattle.laws.proofs.Machine.{read_back_is}
use Rattle.plan.specs.Words.{size_of}
use Rattle.bounds.specs.Rules.{reduce_bounds}
use Rattle.bounds.proofs.reduce_bounds.Goals as goal

pub returns-then-size_of_word-eq0 : goal.returns-then-size_of_word-eq0
unfolding reduce_bounds
returns-then-size_of_word-eq0 c =
    let zero = c.size_of_word.ensures ∙ ap size_of (read_back_is c.ranges.number) in
    rw (c.sum_bounds.ensures, eq-eqb _ _ (sym zero ∙ c.if-size_of_word-eq0.true)) refl

pub returns : goal.returns
unfolding reduce_bounds
returns c =
    let zero = c.size_of_word.ensures ∙ ap size_of (read_back_is c.ranges.number) in
    rw (ne_eqb _ _ (λ e. c.if-size_of_word-eq0.false (zero ∙ e))) refl
