-- The views of the movement operations and of operands. s is the source's grid, base the place of its first element.
use Rattle.std.specs.Prelude.{ℕ, zero, suc, ◌+◌, ◌*◌, ◌≤◌, ◌<◌, Bool, true, not, cond, List, ◌∷◌, map, eqb, get_or}
use Rattle.plan.specs.declared.Row.{Row}
use Rattle.plan.specs.Words.{list_of}
use Rattle.shapes.specs.Rules.{element_limit}
use Rattle.views.specs.declared.Stride.{Stride}
use Rattle.views.specs.declared.View.{View}

-- extents from 1 on, of at most 1048576 elements
pub record Extents (g : Row) : Type 0 where
  pub p0 : 0 < g.r0
  pub p1 : 0 < g.r1
  pub p2 : 0 < g.r2
  pub p3 : 0 < g.r3
  pub few : g.r0 * (g.r1 * (g.r2 * g.r3)) ≤ element_limit

-- row-major strides
abbrev pub strides_of : Row → Row
strides_of g = record { r0 = g.r1 * (g.r2 * g.r3); r1 = g.r2 * g.r3; r2 = g.r3; r3 = 1 }

-- what coordinates o add, by strides t
abbrev pub dot_of : Row → Row → ℕ
dot_of o t = o.r0 * t.r0 + (o.r1 * t.r1 + (o.r2 * t.r2 + o.r3 * t.r3))

abbrev pub up_by : ℕ → Stride
up_by n = record { up = n; down = 0 }

-- the strides of the source that the axes of the result take, those that are off adding nothing
abbrev pub masked_view : ℕ → Row → Bool → Bool → Bool → Bool → View
masked_view base s o0 o1 o2 o3 =
    let t = strides_of s in
    record { base = base; s0 = up_by (cond o0 t.r0 0); s1 = up_by (cond o1 t.r1 0); s2 = up_by (cond o2 t.r2 0); s3 = up_by (cond o3 t.r3 0) }

-- an operand that is broadcast, and EXPAND: an extent of 1 serves every coordinate
abbrev pub spread_view : ℕ → Row → View
spread_view base s = masked_view base s (not (eqb s.r0 1)) (not (eqb s.r1 1)) (not (eqb s.r2 1)) (not (eqb s.r3 1))

-- REDUCE: the axes kept, and those gathered over; an element is at the sum of the two places
abbrev pub kept_view : ℕ → Row → Row → View
kept_view base s f = masked_view base s (not (eqb f.r0 1)) (not (eqb f.r1 1)) (not (eqb f.r2 1)) (not (eqb f.r3 1))

abbrev pub gathered_view : Row → Row → View
gathered_view s f = masked_view 0 s (eqb f.r0 1) (eqb f.r1 1) (eqb f.r2 1) (eqb f.r3 1)

-- FLIP
abbrev pub flip_stride : ℕ → ℕ → Stride
flip_stride flag n = record { up = cond (eqb flag 1) 0 n; down = cond (eqb flag 1) n 0 }

abbrev pub flip_view : ℕ → Row → Row → View
flip_view base s f =
    let t = strides_of s in
    record { base = base; s0 = flip_stride f.r0 t.r0; s1 = flip_stride f.r1 t.r1; s2 = flip_stride f.r2 t.r2; s3 = flip_stride f.r3 t.r3 }

-- SHRINK begins at its offsets
abbrev pub shrink_view : ℕ → Row → Row → View
shrink_view base s o = masked_view (base + dot_of o (strides_of s)) s true true true true

-- PERMUTE
abbrev pub axis_stride : Row → ℕ → Stride
axis_stride s k = up_by (get_or (list_of (strides_of s)) k 0)

abbrev pub permute_view : ℕ → Row → Row → View
permute_view base s row =
    record { base = base; s0 = axis_stride s row.r0; s1 = axis_stride s row.r1; s2 = axis_stride s row.r2; s3 = axis_stride s row.r3 }

-- the axes of a permutation, with axes in front that stay
unfoldable pub axes_in_front : ℕ → List ℕ → List ℕ
axes_in_front zero row = row
axes_in_front (suc n) row = 0 ∷ map suc (axes_in_front n row)
