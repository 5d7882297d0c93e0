-- The flags that a binary operation and WHERE leave in their buffer, 1 known, 0 a gap; and numbers under flags.
use Rattle.std.specs.Prelude.{ℕ, ◌&&◌, cond, List, eqb, ℤ, pos, get_or}
use Rattle.laws.specs.Integers.{same_z}
use Rattle.laws.specs.Store.{store}
use Rattle.plan.specs.declared.Row.{Row}
use Rattle.plan.specs.Operations.{WHERE}
use Rattle.views.specs.declared.View.{View}
use Rattle.views.specs.Views.{cells_of, place}

-- the flag of the result, from three cells; a binary operation looks at two
unfoldable pub mix_flag : ℕ → ℤ → ℕ → ℤ → ℕ → ℤ → ℕ → ℕ
mix_flag op x f y g z h = cond (eqb op WHERE) (cond (eqb f 1) (cond (same_z x (pos 0)) h g) 0) (cond (eqb f 1 && eqb g 1) 1 0)

-- which source WHERE takes, 1 the second and 0 the third, and the flag of the side taken
abbrev pub side_of : ℤ → ℕ
side_of x = cond (same_z x (pos 0)) 0 1

abbrev pub side_flag : ℕ → ℕ → ℕ → ℕ → ℕ
side_flag s f g h = cond (eqb f 1) (cond (eqb s 0) h g) 0

-- from the side at place t and the flags at three places
abbrev pub chosen_flag : List ℕ → ℕ → ℕ → ℕ → ℕ → ℕ
chosen_flag fs t p q u = side_flag (get_or fs t 0) (get_or fs p 0) (get_or fs q 0) (get_or fs u 0)

-- a number under a flag: 0 in a gap
abbrev pub cleared_value : ℕ → ℤ → ℤ
cleared_value f x = cond (eqb f 1) x (pos 0)

-- from the cells at three places
abbrev pub three : {C : Type 0} → (ℤ → ℕ → ℤ → ℕ → ℤ → ℕ → C) → List ℤ → List ℕ → ℕ → ℕ → ℕ → C
three f vs fs p q u = f (get_or vs p (pos 0)) (get_or fs p 0) (get_or vs q (pos 0)) (get_or fs q 0) (get_or vs u (pos 0)) (get_or fs u 0)

-- the buffer with the flags of three views from place `start` on
abbrev pub mixed_flags : ℕ → List ℤ → List ℕ → Row → View → View → View → ℕ → List ℕ
mixed_flags op vs fs g a b d start = store fs start (cells_of g) (λ (j : ℕ). three (mix_flag op) vs fs (place g a j) (place g b j) (place g d j))
