use mathlib.Core.Path.{◌≡◌, refl, ◌∙◌}
use native.Mathlib.Omega.{arith}
use Rattle.codec.specs.Plans.{read_node, add_node}
use Rattle.codec.specs.Steps.{nodes_at}
use Rattle.codec.proofs.Bounds.{nodes_long}
use Rattle.codec.proofs.Storing.{handed_on, begun, all_read, turn_reads, turn_stops}
use Rattle.codec.proofs.Unpacking.{node_adds}
use Rattle.codec.proofs.nodes.Goals as goal

pub loop-n-init : goal.loop-n-init
unfolding nodes_at
loop-n-init c = (refl, begun (add_node _ _) _ refl)

pub returns-in_err-at : goal.returns-in_err-at
unfolding nodes_at
returns-in_err-at c =
    let l = c.loop-n in
    handed_on _ c.from_residual.result c.from_residual.ensures.1 (turn_stops (add_node _ _) _ l.n l.invariant.1 (read_node _ _) (node_adds _ _ _) c.in_err-at.ensures c.loop-n-test.true)

pub loop-n-preserved : goal.loop-n-preserved
unfolding nodes_at
loop-n-preserved c =
    let l = c.loop-n in
    (c.node.auto.table ∙ l.invariant.0, turn_reads (add_node _ _) _ l.n l.invariant.1 (read_node _ _) (node_adds _ _ _) c.in_ok-at.ensures (omega (arith, nodes_long _ _ _ _ l.invariant.1.read)))

pub returns : goal.returns
returns c =
    let l = c.loop-n in
    let all : l.n ≡ c.args.opening.count = omega arith in
    all_read (rw all at l.invariant.1)
