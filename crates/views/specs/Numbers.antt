-- Numbers in a buffer.
use Rattle.std.specs.Prelude.{ℕ, ◌<◌, ◌≤◌, List, ℤ, pos, get_or}
use Rattle.laws.proofs.Machine.{Small}
use Rattle.plan.specs.declared.Row.{Row}
use Rattle.views.specs.declared.View.{View}
use Rattle.views.specs.Views.{cells_of, place}

-- the numbers from a place on and before another are of 32 bits
abbrev pub SmallIn : List ℤ → ℕ → ℕ → Type 0
SmallIn vs low high = (p : ℕ) → low ≤ p → p < high → Small (get_or vs p (pos 0))

-- the numbers that a view finds are
abbrev pub SmallSeen : List ℤ → Row → View → Type 0
SmallSeen vs g v = (j : ℕ) → j < cells_of g → Small (get_or vs (place g v j) (pos 0))
