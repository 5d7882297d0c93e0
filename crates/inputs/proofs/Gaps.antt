-- The gaps among flags, counted one by one.
use Rattle.std.proofs.Common.{◌≡◌, ℕ, zero, suc, ◌+◌, ◌≤◌, Bool, true, false, cond, eqb, List, get_or, refl, add-zero, add_assoc, add-suc, add-one, arith}
use Rattle.inputs.specs.Scanning.{gaps_from}

module _ (flags : List ℕ) (from : ℕ) where
  pub gaps_none : 0 ≡ gaps_from flags from 0
  unfolding gaps_from
  gaps_none = refl

  -- one flag more
  pub gaps_more : (i gaps one : ℕ) → gaps ≡ gaps_from flags from i → one ≡ cond (eqb (get_or flags (from + i) 0) 1) 0 1 → gaps + one ≡ gaps_from flags from (i + 1)
  unfolding gaps_from
  gaps_more i gaps one e q = rw (add-one, e, q)

  -- m flags more
  gaps_join : (i m : ℕ) → gaps_from flags from i + gaps_from flags (from + i) m ≡ gaps_from flags from (i + m)
  unfolding gaps_from
  gaps_join i zero = rw (add-zero, add-zero)
  gaps_join i (suc m) = rw (add-suc, ← gaps_join i m, add_assoc, add_assoc)

  pub gaps_after : (i m gaps more : ℕ) → gaps ≡ gaps_from flags from i → more ≡ gaps_from flags (from + i) m → gaps + more ≡ gaps_from flags from (i + m)
  gaps_after i m gaps more e q = rw (e, q) (gaps_join i m)

  -- at most one for each flag
  pub gaps_few : (n : ℕ) → gaps_from flags from n ≤ n
  unfolding gaps_from
  gaps_few zero = omega arith
  gaps_few (suc n) = omega (arith, gaps_few n, at_most_one (eqb (get_or flags (from + n) 0) 1))
    where
      at_most_one : (b : Bool) → cond b 0 1 ≤ 1
      at_most_one true = omega arith
      at_most_one false = omega arith
