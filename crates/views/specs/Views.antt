-- Views: the place of each element of a result in a buffer. A grid is four extents, those of a lower rank with 1s in front.
use Rattle.std.specs.Prelude.{ℕ, ◌+◌, ◌*◌, ◌-◌, ◌/◌, ◌%◌}
use Rattle.plan.specs.declared.Row.{Row}
use Rattle.views.specs.declared.Stride.{Stride}
use Rattle.views.specs.declared.View.{View}

abbrev pub stride_of : ℕ → ℕ → Stride
stride_of up down = record { up = up; down = down }

-- what coordinate c adds along an axis of extent n: c steps up, and a step down for each coordinate after it; and the most that one adds
unfoldable pub step : ℕ → Stride → ℕ → ℕ
step n s c = c * s.up + (n - 1 - c) * s.down

unfoldable pub span : ℕ → Stride → ℕ
span n s = (n - 1) * (s.up + s.down)

-- rows, and cells in all
abbrev pub rows_of : Row → ℕ
rows_of g = g.r0 * g.r1 * g.r2

abbrev pub cells_of : Row → ℕ
cells_of g = rows_of g * g.r3

-- the place of row i, and of element j
unfoldable pub row_place : Row → View → ℕ → ℕ
row_place g v i =
    v.base
    + (step g.r0 v.s0 (i / g.r2 / g.r1) + (step g.r1 v.s1 (i / g.r2 % g.r1) + step g.r2 v.s2 (i % g.r2)))

unfoldable pub place : Row → View → ℕ → ℕ
place g v j = row_place g v (j / g.r3) + step g.r3 v.s3 (j % g.r3)

-- the last place of a row's first element, and of any element
unfoldable pub row_reach : Row → View → ℕ
row_reach g v = v.base + (span g.r0 v.s0 + (span g.r1 v.s1 + span g.r2 v.s2))

unfoldable pub reach : Row → View → ℕ
reach g v = row_reach g v + span g.r3 v.s3
