use native.Mathlib.Omega.{arith}
use Rattle.views.proofs.RowPlaces.{rows_below}
use Rattle.reducing.proofs.grids.GridView.row.Goals as goal

pub row-requires : goal.row-requires
row-requires c = let grid = c.args.self.grid in (omega (arith, c.requires.0, grid.all_rows), rows_below grid.extents c.args.self.view c.requires.1)
