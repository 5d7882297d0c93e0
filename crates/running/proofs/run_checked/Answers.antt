use lib.ListN.{length}
use Rattle.std.proofs.lemmas.Result.{err_from_is_err_and}
use Rattle.running.proofs.Endings.{refusal_ends, check_accepts, breaks}
use Rattle.running.proofs.run_checked.Goals as goal

pub returns-in_err-derivation : goal.returns-in_err-derivation
returns-in_err-derivation c =
    let a = c.args in
    let p = err_from_is_err_and c.from_residual.result c.from_residual.ensures.1 in
    rw (p.1, p.2) (refusal_ends a.values.now a.flags.now (breaks a.table.now a.given.now a.known.now (length a.values.now) (length a.flags.now) c.in_err-derivation.ensures.is_check))

pub run_accepted-requires : goal.run_accepted-requires
run_accepted-requires c = (check_accepts c.args.table.now c.in_ok-derivation.ensures c.nodes-records.ensures, rw c.nodes-records.ensures c.in_ok-derivation.ensures.is_total)
