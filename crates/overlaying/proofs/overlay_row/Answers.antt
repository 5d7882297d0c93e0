use Rattle.std.proofs.Common.{◌≡◌, arith}
use Rattle.views.specs.Views.{stride_of}
use Rattle.views.proofs.Steps.{stride_both}
use Rattle.overlaying.proofs.overlay_row.Goals as goal

pub returns-in-1-eq1 : goal.returns-in-1-eq1
returns-in-1-eq1 g c d =
    let e : c.args.a.stride ≡ stride_of 1 0 = stride_both (omega arith) (omega arith) in
    let f : c.args.b.stride ≡ stride_of 1 0 = stride_both (omega arith) (omega arith) in
    rw (e, f) (rw (c.unit.ensures, c.unit-in-1-eq1.ensures) at c.overlay_line.ensures d)

pub returns-in-1-eq0 : goal.returns-in-1-eq0
returns-in-1-eq0 g c d =
    let e : c.args.a.stride ≡ stride_of 1 0 = stride_both (omega arith) (omega arith) in
    let f : c.args.b.stride ≡ stride_of 0 0 = stride_both (omega arith) (omega arith) in
    rw (e, f) (rw (c.unit-in-1-eq0.ensures, c.still.ensures) at c.overlay_line-in-1-eq0.ensures d)
