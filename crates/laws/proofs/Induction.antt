-- Induction over the numbers below a bound, from all smaller ones.
use Prim.Native.Nat.{ℕ, zero, suc, ◌<◌, ◌≤◌}
use mathlib.Core.Path.{◌≡◌, subst, sym}
use mathlib.Core.Logic.{⊎_elim}
use native.Mathlib.Omega.{arith}
use native.Mathlib.Nat.{eq-or-lt_of_le, not-suc-le-zero, le_of_suc-le-suc}

module _ (P : ℕ → Type 0) (n : ℕ) (step : (i : ℕ) → i < n → ((j : ℕ) → j < i → P j) → P i) where
  up_to : (m : ℕ) → m ≤ n → (j : ℕ) → j < m → P j
  up_to zero h j p = absurd (not-suc-le-zero p)
  up_to (suc m) h j p =
      let before = up_to m (omega arith) in
      ⊎_elim (λ (q : j ≡ m). subst P (sym q) (step m h before)) (λ (q : j < m). before j q) (eq-or-lt_of_le (le_of_suc-le-suc p))

  pub each_below : (i : ℕ) → i < n → P i
  each_below i h = up_to n (omega arith) i h
