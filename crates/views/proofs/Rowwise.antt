-- A grid has no more rows than cells, and each row lies within its cells.
use Prim.Native.Nat.{ℕ, ◌+◌, ◌*◌, ◌≤◌, ◌<◌}
use native.Mathlib.Omega.{arith}
use native.Mathlib.Nat.{le-mul_of_pos_right}
use Rattle.laws.proofs.Numbering.{factor_pos}
use Rattle.plan.specs.declared.Row.{Row}
use Rattle.views.specs.declared.grids.Grid.{Grid}
use Rattle.views.specs.Views.{cells_of}
use Rattle.views.proofs.Axiswise.{fourth_pos, row_lt}
use Rattle.views.proofs.RowPlaces.{block_fits}

module _ (g : Row) (some : 0 < cells_of g) where
  pub rows_some : 0 < g.r0 * g.r1 * g.r2
  rows_some = omega (arith, row_lt g 0 some)

  module _ {n : ℕ} (few : cells_of g < n) where
    pub rows_few : g.r0 * g.r1 * g.r2 < n
    rows_few = omega (arith, le-mul_of_pos_right (g.r0 * g.r1 * g.r2) (fourth_pos g 0 some), few)

    pub outer_few : g.r0 * g.r1 < n
    outer_few =
        let third : 0 < g.r2 = factor_pos (g.r0 * g.r1) g.r2 0 rows_some in
        omega (arith, le-mul_of_pos_right (g.r0 * g.r1) third, rows_few)

-- row i of a grid lies within its cells
pub row_within : (grid : Grid) {i : ℕ} → i < grid.rows → i * grid.extents.r3 + grid.extents.r3 ≤ cells_of grid.extents
row_within grid h = rw (← grid.all_rows) (block_fits _ grid.rows grid.extents.r3 h)
