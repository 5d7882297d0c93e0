-- Extents that a flag row keeps or makes 1.
use Prim.Native.Nat.{ℕ, ◌<◌}
use native.Mathlib.Omega.{arith}
use mathlib.Core.Path.{◌≡◌, refl}
use mathlib.Core.Bool.{Bool, true, false, not, cond}
use mathlib.Core.List.{List}
use borrow.Author.Tests.{eq-eqb, ne_eqb}
use lib.Dec.{eqb}
use lib.ListN.{length}
use Rattle.laws.specs.Lists.{tab}
use Rattle.laws.proofs.Booleans.{cond_both}
use Rattle.laws.proofs.Lists.{tab_same}
use Rattle.shapes.specs.declared.Shape.{Shape}
use Rattle.shapes.specs.Rows.{extents_of}
use Rattle.shapes.specs.Rules.{extent, word_of, flagged, gathered_extents}
use Rattle.shapes.specs.Shown.{words_in, shown}
use Rattle.shapes.proofs.Extents.{extents_positive}
use Rattle.shapes.proofs.Words.{extent_word, word_positive, word_after, extents_tab}
use Rattle.shaping.proofs.Axes.{shown_ranked}

-- a word: zero stays, an extent stays or becomes 1
abbrev pub kept_word : ℕ → Bool → ℕ
kept_word n one = cond (eqb n 0) 0 (cond one 1 n)

pub kept_zero : (n : ℕ) (one : Bool) → n ≡ 0 → 0 ≡ kept_word n one
kept_zero n one e = rw (eq-eqb n 0 e)

kept_extent : (n : ℕ) (one : Bool) → (n ≡ 0 → ⊥) → kept_word n one ≡ cond one 1 n
kept_extent n one p = rw (ne_eqb n 0 p)

pub kept_one : (n : ℕ) (one : Bool) → (n ≡ 0 → ⊥) → one ≡ true → 1 ≡ kept_word n one
kept_one n one p e = rw (kept_extent n one p, e)

pub kept_other : (n : ℕ) (one : Bool) → (n ≡ 0 → ⊥) → one ≡ false → n ≡ kept_word n one
kept_other n one p e = rw (kept_extent n one p, e)

pub ruleset kept_laws = (kept_zero, kept_one, kept_other)

-- four words
module _ (s : Shape) (one : ℕ → Bool) where
  pub kept_tab : extents_of (tab 4 (λ (k : ℕ). kept_word (word_of (words_in s) k) (one k))) ≡ tab (length (shown s)) (λ (k : ℕ). cond (one k) 1 (extent (shown s) k))
  kept_tab =
      extents_tab (length (shown s)) 4 (λ (k : ℕ). cond (one k) 1 (extent (shown s) k)) (λ (k : ℕ). kept_word (word_of (words_in s) k) (one k)) (shown_ranked s)
      (λ k h.
      let more : 0 < word_of (words_in s) k = word_positive (words_in s) k h in
      rw (kept_extent (word_of (words_in s) k) (one k) (λ e. omega arith), extent_word (words_in s) k h))
      (λ k h. cond_both (λ (n : ℕ). 0 < n) (one k) 1 (extent (shown s) k) (λ e. omega arith) (λ e. extents_positive (words_in s) k))
      (λ h. rw (word_after (words_in s)))

-- flags the other way round
pub gathered_tab : (s flags : List ℕ) → tab (length s) (λ (k : ℕ). cond (not (flagged flags k)) 1 (extent s k)) ≡ gathered_extents s flags
unfolding gathered_extents
gathered_tab s flags = tab_same (length s) _ _ (λ k h. cond_not (flagged flags k) 1 (extent s k))
  where
    cond_not : (b : Bool) (x y : ℕ) → cond (not b) x y ≡ cond b y x
    cond_not true x y = refl
    cond_not false x y = refl
