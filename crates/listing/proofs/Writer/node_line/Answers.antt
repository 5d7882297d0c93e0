use native.Mathlib.Omega.{arith}
use Rattle.rules.specs.Code.{view_of}
use Rattle.listing.proofs.Nodes.{line_is}
use Rattle.listing.proofs.Writing.{then, within, said}
use Rattle.listing.proofs.Writer.node_line.Goals as goal

pub returns : goal.returns
returns c = within 255 (said (line_is c.args.n c.args.op (view_of c.args.r)) (then (then (then c.line_start.ensures c.ends.ensures) (then c.put.ensures c.shape.ensures)) c.put-2.ensures)) (omega arith)
