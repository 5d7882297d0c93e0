use Rattle.std.proofs.Common.{ℕ}
use Rattle.std.proofs.Math.IntN.{pos}
use Rattle.overlaying.specs.Overlay.{over_cell, over_value}
use Rattle.overlaying.proofs.Overlays.{front_read, whole_overlaid}
use Rattle.overlaying.proofs.overlay_values.Goals as goal

pub returns : goal.returns
returns c =
    let a = c.args in
    let p = c.split_at_mut-cells in
    let xs = p.result.0.now in
    let ys = p.result.1.now in
    let read = front_read xs ys (pos 0) p.ensures.value p.ensures.front_len in
    whole_overlaid xs ys a.grid.extents a.a a.b (over_cell (pos 0) xs a.flags.now) (over_value a.values.now a.flags.now) p.ensures.value p.ensures.front_len c.requires.0 c.requires.1
    (λ (k h : ℕ) u v. rw (read k u, read h v)) (c.overlay.ensures (pos 0))
