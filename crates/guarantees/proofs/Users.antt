-- "words used", by operation and by word.
use Prim.Native.Nat.{ℕ, zero, suc, ◌≤◌}
use mathlib.Core.Path.{◌≡◌, refl, sym}
use mathlib.Core.Bool.{Bool, true, false, not, cond, false≢true}
use native.Mathlib.Omega.{arith}
use Rattle.laws.specs.Lists.{all_below, among}
use Rattle.laws.proofs.Booleans.{all_below_lem}
use Rattle.plan.specs.Operations.{uses}
use Rattle.guarantees.specs.Rules.{uses_word}

-- two tests say the same
abbrev alike : Bool → Bool → Bool
alike a b = cond a b (not b)

alike_is : (a b : Bool) → alike a b ≡ true → a ≡ b
alike_is true b e = sym e
alike_is false true e = absurd (false≢true e)
alike_is false false e = refl

tables_agree : all_below 24 (λ (o : ℕ). all_below 16 (λ (k : ℕ). alike (uses o (suc k)) (uses_word o (suc k)))) ≡ true
unfolding all_below uses among
tables_agree = refl

pub same_users : (o k : ℕ) → o ≤ 23 → 1 ≤ k → k ≤ 16 → uses o k ≡ uses_word o k
same_users o zero h a b = absurd (omega arith)
same_users o (suc k) h a b =
    alike_is (uses o (suc k)) (uses_word o (suc k))
    (all_below_lem 16 (λ (k : ℕ). alike (uses o (suc k)) (uses_word o (suc k))) (all_below_lem 24 (λ (o : ℕ). all_below 16 (λ (k : ℕ). alike (uses o (suc k)) (uses_word o (suc k)))) tables_agree o (omega arith)) k (omega arith))
