use Rattle.laws.proofs.Machine.{read_back_is, fit_at}
use Rattle.plan.specs.Types.{holds}
use Rattle.bounds.proofs.holds_zero.Goals as goal

pub returns : goal.returns
unfolding holds
returns c =
    let x = c.args.x in
    rw (read_back_is (fit_at x.low c.struct_told-2-1.given.0.1), read_back_is (fit_at x.high c.struct_told-2-1.given.1.0.1))
