use native.Mathlib.Omega.{arith}
use mathlib.Core.Path.{refl, sym, ap, ◌∙◌}
use Rattle.plan.specs.Operations.{in_file}
use Rattle.codec.proofs.Editions.{not_in_file}
use Rattle.codec.proofs.Storing.{handed_on}
use Rattle.codec.proofs.Unpacking.{node_refused, node_unknown, node_read}
use Rattle.codec.proofs.node.Goals as goal
use Rattle.codec.proofs.node.Goals.{in_default-via-in-Ok+else-holds, in_default-via-in_default}

pub returns-in_err-number : goal.returns-in_err-number
returns-in_err-number c = handed_on _ c.from_residual.result c.from_residual.ensures.1 (node_refused _ _ c.in_err-number.ensures _)

pub returns-in-Ok : goal.returns-in-Ok
returns-in-Ok c = node_read _ _ _ _ c.in_ok-number.ensures _ c.in-Ok.ensures (sym c.if-holds.ensures) c.words.ensures

pub returns-in_default : goal.returns-in_default
returns-in_default c =
    node_unknown _ _ _ _ c.in_ok-number.ensures _
    (elim c.in_default.branch [
      | in_default-via-in-Ok+else-holds w ↦ ap (in_file _) (sym w.in-Ok.ensures) ∙ sym w.if-holds.ensures
      | in_default-via-in_default w ↦ not_in_file _ (grind arith) _
    ])
    (rw c.at.ensures refl)
