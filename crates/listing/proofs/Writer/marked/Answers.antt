use Rattle.listing.proofs.Writing.{then}
use Rattle.listing.proofs.Writer.marked.Goals as goal

pub returns : goal.returns
returns c = then c.put.ensures c.decimal.ensures
