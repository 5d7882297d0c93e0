use native.Mathlib.Omega.{arith}
use lib.ListN.{take}
use Rattle.std.proofs.lemmas.Result.{err_from_is_err_and}
use Rattle.verifier.proofs.Ending.{check_breaks, check_short, check_meets, taken, answers}
use Rattle.verifier.proofs.Writing.{leaves}
use Rattle.verifier.proofs.checked.Goals as goal

pub returns-in_err-derivation : goal.returns-in_err-derivation
returns-in_err-derivation c =
    let p = err_from_is_err_and c.from_residual.result c.from_residual.ensures.1 in
    rw (p.1, p.2) (check_breaks c.args.table.now c.args.derived.now c.in_err-derivation.ensures)

pub returns-then-derived-derivation : goal.returns-then-derived-derivation
returns-then-derived-derivation c = check_short c.args.table.now c.args.derived.now c.in_ok-derivation.ensures c.if-derived-derivation.true c.at.ensures

pub returns : goal.returns
returns c =
    let t = c.args.table.now in
    let before = c.args.derived.now in
    let d = c.in_ok-derivation.ensures in
    let e = check_meets t before d c.if-derived-derivation.false in
    (answers t before d e, leaves (take c.in_ok-derivation.derivation.count c.in_ok-derivation.derivation.records) before e (omega (arith, taken t before d, c.if-derived-derivation.false)) (rw c.nodes.ensures at c.write_records.ensures))
