-- What movement leaves in a buffer l, whose d stands for a gap.
use Rattle.std.specs.Prelude.{ℕ, ◌+◌, ◌-◌, ◌^◌, ◌<◌, ◌≤◌, cond, List, get_or}
use Rattle.std.proofs.Math.Option.{Option, none, some}
use Rattle.laws.specs.Store.{store}
use Rattle.plan.specs.declared.Row.{Row}
use Rattle.views.specs.declared.View.{View}
use Rattle.views.specs.Strides.{Extents}
use Rattle.views.specs.Views.{cells_of, place}
use Rattle.views.specs.Walks.{in_band, row_inside, row_start, band_place}

-- from place `start` on, the cells that a view walks over
abbrev pub moved : {A : Type 0} → A → List A → Row → View → ℕ → List A
moved d l g v start = store l start (cells_of g) (λ (j : ℕ). get_or l (place g v j) d)

-- what stands at a place, or d where there is none
abbrev pub fetch : {A : Type 0} → A → List A → Option ℕ → A
fetch d l none = d
fetch d l (some p) = get_or l p d

-- from place `start` on, the cells of a source that begins at base within a larger grid
abbrev pub padded : {A : Type 0} → A → List A → Row → Row → Row → ℕ → ℕ → List A
padded d l r o s base start = store l start (cells_of r) (λ (j : ℕ). fetch d l (band_place r o s base j))

-- cell c of a row: n cells from p on, after `before` gaps; and of row i
abbrev pub band_cell : {A : Type 0} → A → List A → ℕ → ℕ → ℕ → ℕ → A
band_cell d l before n p c = cond (in_band before n c) (get_or l (p + (c - before)) d) d

abbrev pub row_cell : {A : Type 0} → A → List A → Row → Row → Row → ℕ → ℕ → ℕ → A
row_cell d l r o s base i c = cond (row_inside r o s i) (band_cell d l o.r3 s.r3 (row_start r o s base i) c) d

-- a source of grid s has its place in a result of grid r at offsets o
pub record Laid (r o s : Row) : Type 0 where
  pub extents : Extents s
  pub l0 : o.r0 + s.r0 ≤ r.r0
  pub l1 : o.r1 + s.r1 ≤ r.r1
  pub l2 : o.r2 + s.r2 ≤ r.r2
  pub l3 : o.r3 + s.r3 ≤ r.r3
  pub narrow : (r.r0 < 2 ^ 32) × (r.r1 < 2 ^ 32) × (r.r2 < 2 ^ 32) × (r.r3 < 2 ^ 32)
