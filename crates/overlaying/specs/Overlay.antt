-- What one view's cells laid over another's leave in the buffers.
use Rattle.std.specs.Prelude.{ℕ, cond, List, eqb, ℤ, pos, get_or}
use Rattle.laws.specs.Store.{store}
use Rattle.plan.specs.declared.Row.{Row}
use Rattle.views.specs.declared.View.{View}
use Rattle.views.specs.Views.{cells_of, place}

-- x where flag f says that it is known, else y
abbrev pub over : {A : Type 0} → ℕ → A → A → A
over f x y = cond (eqb f 1) x y

-- the cell at place k of l, where its flag says that it is known, laid over that at place h; d stands where there is none
abbrev pub over_cell : {A : Type 0} → A → List A → List ℕ → ℕ → ℕ → A
over_cell d l fs k h = over (get_or fs k 0) (get_or l k d) (get_or l h d)

-- the cell at place k laid over that at place l
abbrev pub over_value : List ℤ → List ℕ → ℕ → ℕ → ℤ
over_value vs fs k l = over (get_or fs k 0) (get_or vs k (pos 0)) (get_or vs l (pos 0))

abbrev pub over_flag : List ℕ → ℕ → ℕ → ℕ
over_flag fs k l = over (get_or fs k 0) 1 (get_or fs l 0)

-- from place `start` on, the cells of view a laid over those of view b
abbrev pub overlaid_values : List ℤ → List ℕ → Row → View → View → ℕ → List ℤ
overlaid_values vs fs g a b start = store vs start (cells_of g) (λ (j : ℕ). over_value vs fs (place g a j) (place g b j))

abbrev pub overlaid_flags : List ℕ → Row → View → View → ℕ → List ℕ
overlaid_flags fs g a b start = store fs start (cells_of g) (λ (j : ℕ). over_flag fs (place g a j) (place g b j))
