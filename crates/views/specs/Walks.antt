-- What a view walks over.
use Rattle.std.specs.Prelude.{ℕ, ◌+◌, ◌*◌, ◌-◌, ◌/◌, ◌%◌, ◌<◌, ◌≡◌, Bool, ◌&&◌, cond, List, ◌++◌, leb, ltb, length, replicate}
use Rattle.std.proofs.Math.Option.{Option, none, some}
use Rattle.plan.specs.declared.Row.{Row}
use Rattle.plan.specs.declared.ElementNumber.{ElementNumber}
use Rattle.plan.specs.Words.{list_of}
use Rattle.views.specs.declared.View.{View}
use Rattle.views.specs.Views.{cells_of, place, reach}
use Rattle.views.specs.Strides.{strides_of}

-- the grid of extents s: with x in front, up to four
abbrev pub InFront : ℕ → List ℕ → Row → Type 0
InFront x s g = list_of g ≡ replicate (4 - length s) x ++ s

-- n elements, of a source of m that begins at base: element j is the source's element f j
pub record Walks (g : Row) (v : View) (base n m : ℕ) (f : ℕ → ℕ) : Type 0 where
  pub cells : cells_of g ≡ n
  pub at : (j : ℕ) → j < n → place g v j ≡ base + f j
  pub inside : reach g v < base + m

-- ---- PAD: a source of grid s within a result of grid r, from offsets o on

abbrev pub in_band : ℕ → ℕ → ℕ → Bool
in_band o n c = leb o c && ltb c (o + n)

-- row i of the result has cells of the source
unfoldable pub row_inside : Row → Row → Row → ℕ → Bool
row_inside r o s i =
    in_band o.r0 s.r0 (i / r.r2 / r.r1) && (in_band o.r1 s.r1 (i / r.r2 % r.r1) && in_band o.r2 s.r2 (i % r.r2))

-- where they begin
unfoldable pub row_start : Row → Row → Row → ℕ → ℕ → ℕ
row_start r o s base i =
    let t = strides_of s in
    base + ((i / r.r2 / r.r1 - o.r0) * t.r0 + ((i / r.r2 % r.r1 - o.r1) * t.r1 + (i % r.r2 - o.r2) * t.r2))

-- the place of element j; none where it is a gap
unfoldable pub band_place : Row → Row → Row → ℕ → ℕ → Option ℕ
band_place r o s base j =
    cond (row_inside r o s (j / r.r3) && in_band o.r3 s.r3 (j % r.r3))
    (some (row_start r o s base (j / r.r3) + (j % r.r3 - o.r3)))
    none

-- an element of a source that begins at base
abbrev pub from : ℕ → Option ElementNumber → Option ℕ
from base none = none
from base (some e) = some (base + e.0)
