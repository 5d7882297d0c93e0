use Rattle.views.specs.Walks.{row_inside}
use Rattle.moving.proofs.row_inside.Goals as goal

pub returns : goal.returns
unfolding row_inside
returns c = rw (c.in_band-in0.ensures, c.in_band-in1.ensures, c.in_band-in2.ensures)
