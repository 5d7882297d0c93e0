use mathlib.Core.Path.{sym, ◌∙◌}
use borrow.Author.Rules.{rules}
use Rattle.codec.proofs.Editions.{none_begun, none_yet, new_found, new_is}
use Rattle.codec.proofs.edition_of.Goals as goal

pub loop-i-init : goal.loop-i-init
loop-i-init c = none_begun _

pub returns-then-is_ok_and : goal.returns-then-is_ok_and
returns-then-is_ok_and c =
    let new = new_is _ _ c.try_from-op.ensures c.is_ok_and.ensures in
    new_found _ _ (search rules) c.size_of_word.ensures _ c.loop-i-test.true (sym new ∙ c.if-is_ok_and.true)

pub loop-i-preserved : goal.loop-i-preserved
loop-i-preserved c =
    let new = new_is _ _ c.try_from-op.ensures c.is_ok_and.ensures in
    none_yet _ _ (search rules) c.size_of_word.ensures c.loop-i.invariant (sym new ∙ c.if-is_ok_and.false)
