use Rattle.listing.proofs.Writing.{then}
use Rattle.listing.proofs.Writer.line_start.Goals as goal

pub returns : goal.returns
returns c = rw (← c.from.ensures, ← c.from-2.ensures) (then (then (then c.decimal.ensures c.marked.ensures) c.marked-2.ensures) c.marked-3.ensures)
