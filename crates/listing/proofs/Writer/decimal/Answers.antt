use Rattle.verifier.specs.Listing.{decimal}
use Rattle.listing.proofs.Writer.decimal.Goals as goal

pub returns : goal.returns
unfolding decimal
returns c = c.digits.ensures
