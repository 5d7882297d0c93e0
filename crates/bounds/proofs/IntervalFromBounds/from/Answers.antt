use mathlib.Core.Path.{refl}
use Rattle.bounds.proofs.Readback.{fit32, fit32_small, widened_fits, widened}
use Rattle.bounds.proofs.IntervalFromBounds.from.Goals as goal

pub overflow_cast-result : goal.overflow_cast-result
overflow_cast-result c = widened_fits (fit32 c.args.b.low c.struct_told-1.given.0.1)

pub overflow_cast-result-2 : goal.overflow_cast-result-2
overflow_cast-result-2 c = widened_fits (fit32 c.args.b.high c.struct_told-2-1.given.1.0.1)

pub returns : goal.returns
returns c =
    let b = c.args.b in
    let low = fit32 b.low c.struct_told-2-1.given.0.1 in
    let high = fit32 b.high c.struct_told-2-1.given.1.0.1 in
    rw (widened low, widened high) (refl, record { low = fit32_small low; high = fit32_small high })
