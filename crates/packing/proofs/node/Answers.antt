use native.Mathlib.Omega.{arith}
use mathlib.Core.Path.{sym}
use Rattle.plan.proofs.Coded.{number_small}
use Rattle.packing.proofs.Putting.{node_written}
use Rattle.packing.proofs.node.Goals as goal

pub returns : goal.returns
returns c = node_written _ _ (omega (arith, number_small c.args.op)) (sym c.requires.1) (rw c.number.ensures at c.groups-next.ensures) c.words.ensures
