-- The numbers that a binary operation and WHERE leave in their buffer. There the number of a gap is 0.
use Rattle.std.specs.Prelude.{ℕ, ◌<◌, ◌≤◌, ◌≡◌, cond, List, eqb, ℤ, pos, get_or}
use Rattle.laws.specs.Integers.{same_z}
use Rattle.laws.specs.Store.{store}
use Rattle.laws.proofs.Machine.{Small}
use Rattle.plan.specs.declared.Row.{Row}
use Rattle.plan.specs.declared.operations.Operation.{Operation}
use Rattle.plan.specs.Coded.{number_of}
use Rattle.plan.specs.Operations.{WHERE}
use Rattle.cells.specs.Cells.{binary}
use Rattle.views.specs.declared.Line.{Line}
use Rattle.views.specs.declared.View.{View}
use Rattle.views.specs.Views.{cells_of, place}
use Rattle.validity.specs.declared.Lines.{Lines}
use Rattle.validity.specs.Flags.{mix_flag, cleared_value, three}
use Rattle.validity.specs.Lines.{Before, cell_place}

-- the operation is a binary one or WHERE
abbrev pub Mixes : Operation → Type 0
Mixes op = (9 ≤ number_of op) × (number_of op < 19)

-- the number from three, whatever their flags: what WHERE chooses, or what a binary operation gives
unfoldable pub plain_value : ℕ → ℤ → ℤ → ℤ → ℤ
plain_value op x y z = cond (eqb op WHERE) (cond (same_z x (pos 0)) z y) (binary op x y)

-- the number of the result, from three cells. The side that WHERE chose brings its own number, 0 in a gap; so WHERE asks for its condition's flag,
-- a binary operation for the result's.
unfoldable pub mix_value : ℕ → ℤ → ℕ → ℤ → ℕ → ℤ → ℕ → ℤ
mix_value op x f y g z h = cleared_value (cond (eqb op WHERE) f (mix_flag op x f y g z h)) (plain_value op x y z)

-- what an operation gives for the numbers of three lines, at cell j of n
abbrev pub numbers_along : (ℤ → ℤ → ℤ → ℤ) → List ℤ → Lines → ℕ → ℕ → ℤ
numbers_along f vs l n j = f (get_or vs (cell_place n l.a j) (pos 0)) (get_or vs (cell_place n l.b j) (pos 0)) (get_or vs (cell_place n l.d j) (pos 0))

-- the buffer with the numbers of three views from place `start` on
abbrev pub mixed_values : ℕ → List ℤ → List ℕ → Row → View → View → View → ℕ → List ℤ
mixed_values op vs fs g a b d start = store vs start (cells_of g) (λ (j : ℕ). three (mix_value op) vs fs (place g a j) (place g b j) (place g d j))

-- the numbers along a line are of 32 bits
abbrev pub SmallAlong : List ℤ → ℕ → Line → Type 0
SmallAlong vs n l = (j : ℕ) → j < n → Small (get_or vs (cell_place n l j) (pos 0))

-- the sources of a row that is written from place `to` on: they are before it, and those that are computed with are of 32 bits
pub record Sources (vs : List ℤ) (l : Lines) (n to : ℕ) : Type 0 where
  pub before : Before l n to
  pub a : SmallAlong vs n l.a
  pub b : SmallAlong vs n l.b

-- no line goes down
pub record Rising (l : Lines) : Type 0 where
  pub a : l.a.stride.down ≡ 0
  pub b : l.b.stride.down ≡ 0
  pub d : l.d.stride.down ≡ 0

-- lines of n cells from cell i on
abbrev pub lines_from : Lines → ℕ → ℕ → Lines
lines_from l n i = record {
  a = record { place = cell_place n l.a i; stride = l.a.stride };
  b = record { place = cell_place n l.b i; stride = l.b.stride };
  d = record { place = cell_place n l.d i; stride = l.d.stride };
}
