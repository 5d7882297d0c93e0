-- Walks that find the same places.
use Rattle.std.specs.Prelude.{ℕ, ◌≤◌, ◌<◌, ◌≡◌}
use Rattle.plan.specs.declared.Row.{Row}
use Rattle.views.specs.declared.View.{View}
use Rattle.views.specs.Views.{cells_of, place, reach}
use Rattle.walking.specs.declared.Walk.{Walk}

-- view u over grid h has the elements of view v over grid g, begins no earlier and reaches no further
pub record Alike (g : Row) (v : View) (h : Row) (u : View) : Type 0 where
  pub near : (j : ℕ) → j < cells_of g → place h u j ≡ place g v j
  pub far : reach h u ≤ reach g v
  pub begins : v.base ≤ u.base

-- the same of three views
pub record Still (w r : Walk) : Type 0 where
  pub cells : cells_of r.grid ≡ cells_of w.grid
  pub a : Alike w.grid w.a r.grid r.a
  pub b : Alike w.grid w.b r.grid r.b
  pub d : Alike w.grid w.d r.grid r.d

-- elements there are, and no place past the limit
pub record Reaches (w : Walk) (limit : ℕ) : Type 0 where
  pub some : 0 < cells_of w.grid
  pub few : cells_of w.grid < limit
  pub a : reach w.grid w.a < limit
  pub b : reach w.grid w.b < limit
  pub d : reach w.grid w.d < limit

-- no place of the three views past the limit
pub record Near (w : Walk) (limit : ℕ) : Type 0 where
  pub a : reach w.grid w.a < limit
  pub b : reach w.grid w.b < limit
  pub d : reach w.grid w.d < limit
