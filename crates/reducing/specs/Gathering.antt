-- Cells that take in others, in place; and which may.
use Rattle.std.specs.Prelude.{ℕ, ◌+◌, ◌<◌, ◌≤◌, List, get_or}
use Rattle.laws.specs.Store.{store}
use Rattle.views.specs.declared.Line.{Line}
use Rattle.views.specs.Views.{step, span}
use Rattle.reducing.specs.Folding.{fold_from}

-- the place of cell i of a line of n, and the last place that one has
abbrev pub along : ℕ → Line → ℕ → ℕ
along n line i = line.place + step n line.stride i

abbrev pub far : ℕ → Line → ℕ
far n line = line.place + span n line.stride

-- each of the n cells of l from `to` on takes in m cells, cell c those at from c 0, .., from c (m - 1)
abbrev pub taken : {A : Type 0} → (A → A → A) → A → List A → ℕ → ℕ → (ℕ → ℕ → ℕ) → ℕ → List A
taken f d l to n from m = store l to n (λ (c : ℕ). fold_from f (get_or l (to + c) d) (λ (i : ℕ). get_or l (from c i) d) m)

-- a row of n cells, each of which takes in a run of m
abbrev pub runs : ℕ → Line → ℕ → Line → ℕ → ℕ → ℕ
runs n kept m gathered c i = along n kept c + along m gathered i

-- the cells from a place on and before another may be taken in
abbrev pub AllIn : {A : Type 0} → (A → Type 0) → A → List A → ℕ → ℕ → Type 0
AllIn Fits d l low high = (p : ℕ) → low ≤ p → p < high → Fits (get_or l p d)

-- each of the n cells from `to` on has room for m such cells
abbrev pub Room : {A : Type 0} → (ℕ → A → Type 0) → A → List A → ℕ → ℕ → ℕ → Type 0
Room HasRoom d l to n m = (c : ℕ) → c < n → HasRoom m (get_or l (to + c) d)
