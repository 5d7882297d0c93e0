-- The last two axes of a grid taken as one.
use Rattle.std.specs.Prelude.{ℕ, ◌*◌, Bool, ◌&&◌, ◌||◌, cond, eqb}
use Rattle.plan.specs.declared.Row.{Row}
use Rattle.views.specs.declared.Stride.{Stride}
use Rattle.views.specs.declared.View.{View}
use Rattle.views.specs.Strides.{up_by}

-- a step of a is as long as n steps of b
abbrev pub as_long : ℕ → Stride → Stride → Bool
as_long n a b = eqb a.up (n * b.up) && eqb a.down (n * b.down)

-- a step along the third axis is as long as the whole fourth, or one of them has one coordinate
abbrev pub can_merge : Row → View → Bool
can_merge g v = eqb g.r3 1 || (eqb g.r2 1 || as_long g.r3 v.s2 v.s3)

abbrev pub merged_grid : Row → Row
merged_grid g = record { r0 = 1; r1 = g.r0; r2 = g.r1; r3 = g.r2 * g.r3 }

abbrev pub merged_view : Row → View → View
merged_view g v = record { base = v.base; s0 = up_by 0; s1 = v.s0; s2 = v.s1; s3 = cond (eqb g.r3 1) v.s2 v.s3 }
