use mathlib.Core.Path.{ap, ◌∙◌}
use Rattle.laws.proofs.Machine.{read_back_is, fit_at}
use Rattle.plan.specs.Words.{size_of}
use Rattle.plan.proofs.size_at.Goals as goal

pub returns : goal.returns
returns c = c.size_of_word.ensures ∙ ap size_of (read_back_is (fit_at _ c.size_of_word-arg-1.given))
