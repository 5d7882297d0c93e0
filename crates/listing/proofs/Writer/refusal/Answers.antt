use native.Mathlib.Omega.{arith}
use Rattle.listing.proofs.Writing.{then, within}
use Rattle.listing.proofs.Writer.refusal.Goals as goal

pub returns : goal.returns
returns c = within 65536 (then (then (then (then c.word.ensures c.decimal.ensures) c.word-2.ensures) c.decimal-2.ensures) c.put.ensures) (omega arith)
