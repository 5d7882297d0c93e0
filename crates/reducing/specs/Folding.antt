-- What REDUCE leaves in the buffers. There a cell is a number and a flag: 1 known, 0 a gap, whose number is 0.
use Rattle.std.specs.Prelude.{ℕ, zero, suc, ◌+◌, min, cond, List, eqb, ℤ, pos, ◌+ℤ◌, get_or}
use Rattle.laws.specs.Integers.{max_z}
use Rattle.laws.specs.Store.{store}
use Rattle.plan.specs.declared.Row.{Row}
use Rattle.views.specs.declared.View.{View}
use Rattle.views.specs.Views.{cells_of, place}
use Rattle.validity.specs.Flags.{cleared_value}

-- z with v 0, .., v (m - 1) taken in one after another
unfoldable pub fold_from : {A : Type 0} → (A → A → A) → A → (ℕ → A) → ℕ → A
fold_from f z v zero = z
fold_from f z v (suc m) = f (fold_from f z v m) (v m)

-- "number 0 sum, 1 max"
abbrev pub combine_of : ℕ → ℤ → ℤ → ℤ
combine_of how = cond (eqb how 0) ◌+ℤ◌ max_z

-- where the i-th element that is gathered into element e stands
abbrev pub source : Row → View → Row → View → ℕ → ℕ → ℕ
source k kept g gathered e i = place k kept e + place g gathered i

-- a sum begins with 0, a maximum with its first number
abbrev pub first : ℕ → List ℤ → ℕ → ℤ
first how vs p = cond (eqb how 0) (pos 0) (get_or vs p (pos 0))

-- the flag of element e: 1 where all that it gathers are known; and its number
abbrev pub reduced_flag : List ℕ → Row → View → Row → View → ℕ → ℕ
reduced_flag fs k kept g gathered e =
    fold_from min (get_or fs (place k kept e) 0) (λ (i : ℕ). get_or fs (source k kept g gathered e i) 0) (cells_of g)

abbrev pub reduced_value : ℕ → List ℤ → List ℕ → Row → View → Row → View → ℕ → ℤ
reduced_value how vs fs k kept g gathered e =
    cleared_value (reduced_flag fs k kept g gathered e)
    (fold_from (combine_of how) (first how vs (place k kept e)) (λ (i : ℕ). get_or vs (source k kept g gathered e i) (pos 0)) (cells_of g))

abbrev pub reduced_flags : List ℕ → Row → View → Row → View → ℕ → List ℕ
reduced_flags fs k kept g gathered start = store fs start (cells_of k) (reduced_flag fs k kept g gathered)

abbrev pub reduced_values : ℕ → List ℤ → List ℕ → Row → View → Row → View → ℕ → List ℤ
reduced_values how vs fs k kept g gathered start = store vs start (cells_of k) (reduced_value how vs fs k kept g gathered)
