use Prim.Native.Nat.{ℕ}
use mathlib.Core.Path.{◌≡◌, sym}
use native.Mathlib.Omega.{arith}
use lib.IntN.{pos}
use lib.ListN.{get_or-eq_default}
use Rattle.plan.specs.Types.{between, type_ranges, range_of}
use Rattle.plan.proofs.type_range.Goals as goal

-- a number that is no type
range_none : (t : ℕ) → (t ≡ 0 → ⊥) → (t ≡ 1 → ⊥) → (t ≡ 2 → ⊥) → (t ≡ 3 → ⊥) → between (pos 0) (pos 0) ≡ range_of t
unfolding range_of
range_none t h0 h1 h2 h3 = sym (get_or-eq_default type_ranges (between (pos 0) (pos 0)) {n = t} (omega arith))

pub returns-in-0 : goal.returns-in-0
unfolding range_of
returns-in-0 c = rw c.in-0.is

pub returns-in-1 : goal.returns-in-1
unfolding range_of
returns-in-1 c = rw c.in-1.is

pub returns-in-2 : goal.returns-in-2
unfolding range_of
returns-in-2 c = rw c.in-2.is

pub returns-in-3 : goal.returns-in-3
unfolding range_of
returns-in-3 c = rw c.in-3.is

pub returns-in_default : goal.returns-in_default
returns-in_default c = search range_none
