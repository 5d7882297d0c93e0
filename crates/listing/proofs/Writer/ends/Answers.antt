use Rattle.listing.proofs.Nodes.{ends_are}
use Rattle.listing.proofs.Writing.{then, said}
use Rattle.listing.proofs.Writer.ends.Goals as goal

pub returns : goal.returns
returns c =
    let wide = c.from-wide.ensures in
    said (ends_are wide.0 wide.1) (then (then c.put.ensures c.signed.ensures) (then c.put-2.ensures c.signed-2.ensures))
