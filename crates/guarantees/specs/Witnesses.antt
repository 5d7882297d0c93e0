-- The premises of demand 3 can be met: a plan that divides, two runs of it that differ under a gap, and inputs that are refused.
use Rattle.std.specs.Prelude.{ℕ, ◌≡◌, List, [], ◌∷◌, ◌++◌, ℤ, pos, negsuc}
use Rattle.plan.specs.Types.{between}
use Rattle.plan.specs.Words.{element}
use Rattle.rules.specs.Rules.{Derived}
use Rattle.cells.specs.Cells.{known, gap}
use Rattle.guarantees.specs.Questions.{i16, param, constant, binary}
use Rattle.guarantees.specs.Demand3.{Lent, answer, word, result_at, Proper, SameKnown}

-- two numbers of [−9,9] by the CONST 2
abbrev pub division : List ℤ
division = param 0 i16 (negsuc 8) (pos 9) (2 ∷ []) ++ constant i16 (pos 2) ++ binary 12 0 1

abbrev pub division_records : List Derived
division_records =
    record { dtype = i16; device = 1; bounds = between (negsuc 8) (pos 9); extents = 2 ∷ [] }
    ∷ record { dtype = i16; device = 0; bounds = between (pos 2) (pos 2); extents = [] }
    ∷ record { dtype = i16; device = 1; bounds = between (negsuc 4) (pos 4); extents = 2 ∷ [] }
    ∷ []

-- an input of two values and two flags; the buffers have one place more than is needed, or none
abbrev pub lend : ℤ → ℤ → ℕ → ℕ → Lent
lend first second flag other =
    record {
      values = first ∷ second ∷ [];
      flags = flag ∷ other ∷ [];
      value_buffer = pos 3 ∷ pos 3 ∷ pos 3 ∷ pos 3 ∷ pos 3 ∷ pos 3 ∷ [];
      flag_buffer = 3 ∷ 3 ∷ 3 ∷ 3 ∷ 3 ∷ [];
    }

-- −7, and a gap over a number that lies in no limits
abbrev pub over_large : Lent
over_large = lend (negsuc 6) (pos 99) 1 0

abbrev pub over_small : Lent
over_small = lend (negsuc 6) (negsuc 9223372036854775807) 1 0

pub record PremisesMet : Type 0 where
  pub first : Proper division division_records over_large
  pub second : Proper division division_records over_small
  pub same_known : SameKnown over_large over_small
  pub different : over_large.values ≡ over_small.values → ⊥
  -- a divisor is read: the floor of −7 / 2 is −4; and the gap is carried along
  pub divides : word division 2 0 ≡ pos 12
  pub quotient : result_at division division_records over_large 2 (element 0) ≡ known (negsuc 3)
  pub carried : result_at division division_records over_large 2 (element 1) ≡ gap
  pub answered : answer division over_large ≡ record { number = 0; place = 0; count = 1 }
  -- inputs that are refused: a flag of 7; a known number over its limit, and under it
  pub bad_flag : answer division (lend (negsuc 6) (pos 99) 1 7) ≡ record { number = 15; place = 1; count = 0 }
  pub too_large : answer division (lend (negsuc 6) (pos 10) 1 1) ≡ record { number = 16; place = 1; count = 0 }
  pub too_small : answer division (lend (negsuc 9) (pos 99) 1 1) ≡ record { number = 16; place = 0; count = 0 }
