use mathlib.Core.Path.{◌∙◌}
use Rattle.codec.proofs.Storing.{handed_on}
use Rattle.laws.proofs.Machine.{read_back_is, fit_at}
use Rattle.codec.proofs.Unpacking.{word_refused, word_read, word_unused}
use Rattle.codec.proofs.word.Goals as goal

pub returns-in_err-number : goal.returns-in_err-number
returns-in_err-number c = handed_on _ c.from_residual.result c.from_residual.ensures.1 (word_refused _ _ c.in_err-number.ensures c.if-used.true)

pub returns-then-used : goal.returns-then-used
returns-then-used c = word_read _ _ _ _ c.in_ok-number.ensures c.if-used.true (read_back_is (fit_at _ c.word_of.type_inv) ∙ c.word_of.ensures)

pub returns : goal.returns
returns c = word_unused _ _ _ _ c.if-used.false
