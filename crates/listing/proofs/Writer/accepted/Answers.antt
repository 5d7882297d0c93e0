use mathlib.Core.List.{map}
use native.Mathlib.Omega.{arith}
use lib.ListN.{length, length-map}
use Rattle.rules.specs.Code.{view_of}
use Rattle.listing.proofs.Nodes.{accepted_is}
use Rattle.listing.proofs.Writing.{then, within, said}
use Rattle.listing.proofs.Writer.accepted.Goals as goal

pub returns : goal.returns
returns c =
    let records = c.args.records.now in
    let many = length-map records view_of in
    within 65536 (said (accepted_is c.args.table.now (map view_of records) (length records) many) (then (then (then (then c.word.ensures c.node_lines.ensures) c.word-2.ensures) c.decimal.ensures) c.put.ensures)) (omega (arith, c.requires.0))
