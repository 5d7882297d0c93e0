-- How the code reads a run's input, and the flags of its output.
use Rattle.std.specs.Prelude.{ℕ, zero, suc, ◌+◌, ◌≡◌, true, cond, List, [], ◌∷◌, ℤ, pos, ◌==◌, slice_index, slice_index_or, Option, Some, None, Result, IfErr}
use Rattle.laws.specs.Lists.{among}
use Rattle.plan.specs.declared.faults.Fault.{Fault}
use Rattle.plan.specs.declared.faults.Refusal.{Refusal as Refused}
use Rattle.plan.specs.Answers.{Outcome, accepted, refuse}
use Rattle.plan.specs.Coded.{fault_number, outcome_of}
use Rattle.cells.specs.Cells.{Cell}
use Rattle.runner.specs.Inputs.{input_cell}

-- the cell at place p of a buffer of numbers and one of flags
abbrev pub cell_in : List ℤ → List ℕ → ℕ → Cell
cell_in vs fs p = input_cell (slice_index_or vs p (pos 0)) (slice_index fs p)

-- the gaps among n flags from place `from` on
unfoldable pub gaps_from : List ℕ → ℕ → ℕ → ℕ
gaps_from fs from zero = 0
gaps_from fs from (suc n) = gaps_from fs from n + cond (slice_index fs (from + n) == 1) 0 1

-- what is wrong at place p, as the outcome that it is
abbrev pub wrong_at : ℕ → Option Fault → Outcome Unit
wrong_at p None = accepted tt
wrong_at p (Some f) = refuse (fault_number f) p

-- 15 and 16
abbrev pub InputFault : Fault → Type 0
InputFault f = among (fault_number f) (15 ∷ 16 ∷ []) ≡ true

-- r is what the test of an input gives
pub record Scans (o : Outcome Unit) (r : Result Unit Refused) : Type 0 where
  pub is_test : o ≡ outcome_of (λ u. u) r
  pub named : IfErr r (λ e. InputFault e.fault)
