-- Three sources along a row.
use Rattle.std.specs.Prelude.{ℕ, ◌+◌, ◌<◌, List, ℤ}
use Rattle.plan.specs.declared.Row.{Row}
use Rattle.views.specs.declared.Line.{Line}
use Rattle.views.specs.declared.View.{View}
use Rattle.views.specs.Views.{stride_of, step, span, row_place}
use Rattle.validity.specs.declared.Lines.{Lines}
use Rattle.validity.specs.Flags.{three}

-- the place of cell j of n along a line, and of the last
abbrev pub cell_place : ℕ → Line → ℕ → ℕ
cell_place n l j = l.place + step n l.stride j

abbrev pub last_place : ℕ → Line → ℕ
last_place n l = l.place + span n l.stride

-- n cells of each line are before a place
pub record Before (l : Lines) (n to : ℕ) : Type 0 where
  pub a : last_place n l.a < to
  pub b : last_place n l.b < to
  pub d : last_place n l.d < to

-- what three cells give, at cell j of n
abbrev pub along : {C : Type 0} → (ℤ → ℕ → ℤ → ℕ → ℤ → ℕ → C) → List ℤ → List ℕ → Lines → ℕ → ℕ → C
along f vs fs l n j = three f vs fs (cell_place n l.a j) (cell_place n l.b j) (cell_place n l.d j)

-- the same places, with steps of x along the first and of y along the other two
abbrev pub stepping : Lines → ℕ → ℕ → Lines
stepping l x y = record {
  a = record { place = l.a.place; stride = stride_of x 0 };
  b = record { place = l.b.place; stride = stride_of y 0 };
  d = record { place = l.d.place; stride = stride_of y 0 };
}

-- row i of three views
abbrev pub row_lines : Row → View → View → View → ℕ → Lines
row_lines g a b d i = record {
  a = record { place = row_place g a i; stride = a.s3 };
  b = record { place = row_place g b i; stride = b.s3 };
  d = record { place = row_place g d i; stride = d.s3 };
}
