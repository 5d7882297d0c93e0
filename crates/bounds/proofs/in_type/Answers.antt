use Rattle.laws.proofs.Machine.{read_back_is, fit_at}
use Rattle.plan.specs.Types.{holds, contains}
use Rattle.bounds.proofs.in_type.Goals as goal

pub returns : goal.returns
unfolding contains holds
returns c =
    let x = c.args.x in
    let range = c.type_range-range in
    let told = c.struct_told-1.given in
    rw (
      read_back_is (fit_at x.low c.struct_told-4-1.given.0.1),
      read_back_is (fit_at x.high c.struct_told-4-1.given.1.0.1),
      read_back_is (fit_at range.result.low told.0.1),
      read_back_is (fit_at range.result.high told.1.0.1),
      range.ensures,
    )
