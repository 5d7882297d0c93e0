-- Signed numbers as the code reads them, by their bits: what was found of the number read holds of the number.
use Rattle.std.proofs.Common.{◌≡◌, ℕ, Bool, ◌&&◌, List, ℤ, pos, ◌+ℤ◌, w64, SFits}
use lib.Signed.{le_z}
use Rattle.laws.proofs.Machine.{read_back, read_back_is}
use Rattle.plan.specs.declared.Interval.{Interval}
use Rattle.plan.specs.Types.{between}
use Rattle.plan.specs.Answers.{Outcome}
use Rattle.runner.specs.Inputs.{input_cell, test_input}
use Rattle.runner.specs.Run.{value_of}
use Rattle.inputs.specs.Nodes.{test_part}

-- the two comparisons with the limits
pub inside_read : {t : Bool} (value low high : ℤ) → SFits w64 value → SFits w64 low → SFits w64 high
    → (le_z (read_back low) (read_back value) && le_z (read_back value) (read_back high)) ≡ t → (le_z low value && le_z value high) ≡ t
inside_read value low high v l h e = rw (read_back_is v, read_back_is l, read_back_is h) at e

-- a number lifted
pub lifted_read : {m : ℕ} (x : ℤ) → SFits w64 x → pos m ≡ read_back x +ℤ pos 9223372036854775808 → pos m ≡ x +ℤ pos 9223372036854775808
lifted_read x f e = rw (read_back_is f) at e

-- the number at a position, tested and as a cell
module _ (value : ℤ) (flag : ℕ) (v : SFits w64 value) where
  pub test_read : {o : Outcome Unit} (limits : Interval) (p : ℕ) → test_input limits (read_back value) flag p ≡ o → test_input limits value flag p ≡ o
  test_read limits p e = rw (read_back_is v) at e

  pub cell_read : {z : ℤ} → z ≡ value_of (input_cell (read_back value) flag) → z ≡ value_of (input_cell value flag)
  cell_read e = rw (read_back_is v) at e

-- a node's limits
pub limits_read : {o : Outcome Unit} (low high : ℤ) (values : List ℤ) (flags : List ℕ) (from n : ℕ) → SFits w64 low → SFits w64 high
    → test_part (between (read_back low) (read_back high)) values flags from n ≡ o → test_part (between low high) values flags from n ≡ o
limits_read low high values flags from n l h e = rw (read_back_is l, read_back_is h) at e
