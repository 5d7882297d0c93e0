use Rattle.shapes.specs.Rows.{is_shape_row, is_offset_row}
use Rattle.shapes.proofs.is_shape_row.Goals as goal

pub returns : goal.returns
unfolding is_shape_row is_offset_row
returns c = rw c.rank_of.ensures at c.is_offset_row.ensures
