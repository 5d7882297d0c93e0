-- The premises of demand 3 can be met, and nothing is asked of the number under a gap.
use Prim.Native.Nat.{ℕ, zero, suc, ◌+◌, ◌<◌}
use mathlib.Core.Path.{◌≡◌, refl, ap}
use mathlib.Core.Logic.{◌⊎◌, inl, inr}
use mathlib.Core.List.{List}
use native.Mathlib.Omega.{arith}
use lib.IntN.{ℤ, pos, negsuc}
use lib.Signed.{◌≤ℤ◌}
use lib.ListN.{get_or}
use Rattle.laws.proofs.Parts.{arithℤ}
use Rattle.plan.specs.declared.ElementNumber.{ElementNumber}
use Rattle.plan.specs.Operations.{PARAM}
use Rattle.runner.specs.Inputs.{input_start}
use Rattle.guarantees.specs.Demand3.{Lent, word, elements, Proper}
use Rattle.guarantees.specs.Witnesses.{division, division_records, lend, over_large, over_small, PremisesMet}
use Rattle.guarantees.proofs.Everything.{everything}

-- whatever number lies under the gap
module _ (under : ℤ) where
  abbrev lent : Lent
  lent = lend (negsuc 6) under 1 0

  flags_right : (p : ℕ) → p < 2 → (get_or (lend (negsuc 6) under 1 0).flags p 0 ≡ 0) ⊎ (get_or (lend (negsuc 6) under 1 0).flags p 0 ≡ 1)
  flags_right zero h = inr refl
  flags_right (suc zero) h = inl refl
  flags_right (suc (suc p)) h = absurd (omega arith)

  known_right : (p : ℕ) → get_or (lend (negsuc 6) under 1 0).flags p 0 ≡ 1
      → (negsuc 8 ≤ℤ get_or (lend (negsuc 6) under 1 0).values p (pos 0)) × (get_or (lend (negsuc 6) under 1 0).values p (pos 0) ≤ℤ pos 9)
  known_right zero e = (omega arithℤ, omega arithℤ)
  known_right (suc zero) e = absurd (omega arith)
  known_right (suc (suc p)) e = absurd (omega arith)

  proper : Proper division division_records (lend (negsuc 6) under 1 0)
  unfolding everything
  proper =
      record {
        accepts = refl;
        values_length = refl;
        flags_length = refl;
        value_room = omega arith;
        flag_room = omega arith;
        zero_or_one = flags_right;
        in_limits = limits;
      }
    where
      limits : (n : ℕ) (e : ElementNumber) → n < 3 → word division n 0 ≡ pos PARAM → e.0 < elements division_records n
          → get_or (lend (negsuc 6) under 1 0).flags (input_start division division_records n + e.0) 0 ≡ 1
          → (word division n 7 ≤ℤ get_or (lend (negsuc 6) under 1 0).values (input_start division division_records n + e.0) (pos 0))
          × (get_or (lend (negsuc 6) under 1 0).values (input_start division division_records n + e.0) (pos 0) ≤ℤ word division n 8)
      limits zero e h q l f = known_right (input_start division division_records 0 + e.0) f
      limits (suc zero) e h q l f = absurd (omega arithℤ)
      limits (suc (suc zero)) e h q l f = absurd (omega arithℤ)
      limits (suc (suc (suc n))) e h q l f = absurd (omega arith)

-- the numbers are equal where the flag is 1
known_same : (p : ℕ) → p < 2 → get_or over_large.flags p 0 ≡ 1 → get_or over_large.values p (pos 0) ≡ get_or over_small.values p (pos 0)
known_same zero h e = refl
known_same (suc zero) h e = absurd (omega arith)
known_same (suc (suc p)) h e = absurd (omega arith)

pub premises_met : PremisesMet
unfolding everything
premises_met =
    record {
      first = proper (pos 99);
      second = proper (negsuc 9223372036854775807);
      same_known = record { flags = refl; known_numbers = known_same; value_buffers = refl; flag_buffers = refl };
      different = λ e. let z : pos 99 ≡ negsuc 9223372036854775807 = ap (λ (l : List ℤ). get_or l 1 (pos 0)) e in absurd (omega (arithℤ, z));
      divides = refl;
      quotient = refl;
      carried = refl;
      answered = refl;
      bad_flag = refl;
      too_large = refl;
      too_small = refl;
    }
