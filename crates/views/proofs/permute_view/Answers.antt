use mathlib.Core.Path.{refl}
use Rattle.views.proofs.Steps.{picked}
use Rattle.views.proofs.permute_view.Goals as goal

pub returns : goal.returns
returns c =
    let a = c.args in
    let x0 = picked a.s a.row.r0 c.strides-t.ensures c.word.ensures c.up_by.ensures in
    let x1 = picked a.s a.row.r1 c.strides-t.ensures c.word-2.ensures c.up_by-2.ensures in
    let x2 = picked a.s a.row.r2 c.strides-t.ensures c.word-3.ensures c.up_by-3.ensures in
    let x3 = picked a.s a.row.r3 c.strides-t.ensures c.word-4.ensures c.up_by-4.ensures in
    rw (x0, x1, x2, x3) refl
