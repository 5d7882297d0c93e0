use mathlib.Core.Path.{refl, sym, ap, ◌∙◌}
use Rattle.rules.specs.Rules.{Derived}
use Rattle.running.proofs.operand.Goals as goal

pub returns-then-reads : goal.returns-then-reads
returns-then-reads c = let b = sym c.reads.ensures ∙ c.if-reads.true in rw b (refl, refl)

pub returns : goal.returns
returns c = let b = sym c.reads.ensures ∙ c.if-reads.false in rw b (ap (λ (d : Derived). d.extents) c.blank-none.ensures, refl)
