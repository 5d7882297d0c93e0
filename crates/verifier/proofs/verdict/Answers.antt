use mathlib.Core.Bool.{not}
use mathlib.Core.Path.{ap}
use Rattle.std.proofs.lemmas.Result.{err_from_is_err_and}
use Rattle.laws.proofs.Booleans.{on, off}
use Rattle.verifier.proofs.Ending.{wrong_length, right_length, node_breaks, all_meet, too_many}
use Rattle.verifier.proofs.verdict.Goals as goal

pub returns-then-not-length_right : goal.returns-then-not-length_right
returns-then-not-length_right c = wrong_length c.args.table.now (off _ c.length_right.ensures (ap not c.if-not-length_right.true)) c.at.ensures

pub derive-requires : goal.derive-requires
derive-requires c = right_length c.args.table.now (on _ c.length_right.ensures (ap not c.if-not-length_right.false))

pub returns-in_err-derivation : goal.returns-in_err-derivation
returns-in_err-derivation c =
    let p = err_from_is_err_and c.from_residual.result c.from_residual.ensures.1 in
    rw (p.1, p.2) (node_breaks c.args.table.now (on _ c.length_right.ensures (ap not c.if-not-length_right.false)) c.in_err-derivation.ensures)

pub returns-then-derivation-gt-TOTAL_LIMIT : goal.returns-then-derivation-gt-TOTAL_LIMIT
returns-then-derivation-gt-TOTAL_LIMIT c =
    too_many c.args.table.now (on _ c.length_right.ensures (ap not c.if-not-length_right.false)) c.in_ok-derivation.ensures c.if-derivation-gt-TOTAL_LIMIT.true c.at-then-derivation-gt-TOTAL_LIMIT.ensures

pub returns : goal.returns
returns c = all_meet c.args.table.now (on _ c.length_right.ensures (ap not c.if-not-length_right.false)) c.in_ok-derivation.ensures c.if-derivation-gt-TOTAL_LIMIT.false
