-- Words as counts, and the words of a node of a table.
use Prim.Native.Nat.{ℕ, ◌+◌, ◌*◌, ◌-◌, ◌<◌}
use mathlib.Core.Path.{◌≡◌, refl, ◌∙◌}
use mathlib.Core.Bool.{true, false}
use mathlib.Core.List.{List}
use native.Mathlib.Omega.{arith}
use lib.IntN.{ℤ, pos, negsuc, nat_abs}
use lib.Signed.{lt_z}
use lib.ListN.{get_or, take, drop}
use lib.Seq.{get_or-take, get_or-drop}
use mir.Syntax.{w64}
use mir.Val.{SFits}
use Rattle.laws.proofs.Machine.{read_back, read_back_is, arith_machine}
use Rattle.plan.specs.Words.{words_per_node, size_of, words_of}

-- size_of on both sides of its test
below : (z : ℤ) → lt_z z (pos 0) ≡ true → 18446744073709551615 ≡ size_of z
unfolding size_of
below (pos n) e = absurd (omega arith_machine)
below (negsuc n) e = refl

above : (z : ℤ) → lt_z z (pos 0) ≡ false → nat_abs z ≡ size_of z
unfolding size_of
above (pos n) e = refl
above (negsuc n) e = absurd (omega arith_machine)

-- the same of a word that is read from its bits
pub size_below : {z : ℤ} → SFits w64 z → lt_z (read_back z) (pos 0) ≡ true → 18446744073709551615 ≡ size_of z
size_below {z} f e = below z (rw (read_back_is f) at e)

pub size_above : {z : ℤ} → SFits w64 z → lt_z (read_back z) (pos 0) ≡ false → nat_abs (read_back z) ≡ size_of z
size_above {z} f e = rw (read_back_is f) (above z (rw (read_back_is f) at e))

-- word k of node n stands at 17·n + k of its table
pub word_at_lem : (t : List ℤ) (n k : ℕ) → k < words_per_node → get_or (words_of t n) k (pos 0) ≡ get_or t (words_per_node * n + k) (pos 0)
unfolding words_of
word_at_lem t n k h = get_or-take words_per_node (drop (words_per_node * n) t) k (pos 0) h ∙ get_or-drop (words_per_node * n) t k (pos 0)

-- the part of a table that is node n's, as the code takes it
pub words_part : (t : List ℤ) (n : ℕ) → take (words_per_node * n + 17 - words_per_node * n) (drop (words_per_node * n) t) ≡ words_of t n
unfolding words_of
words_part t n = let e : words_per_node * n + 17 - words_per_node * n ≡ 17 = omega arith in rw e
