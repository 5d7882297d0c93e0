-- The text of a shape: its first extent, and those after it up to a zero.
use Prim.Native.Nat.{ℕ, zero, suc, ◌+◌, ◌<◌}
use mathlib.Core.Path.{◌≡◌, refl, ap, sym, ◌∙◌}
use mathlib.Core.List.{List, [], ◌∷◌, ◌++◌, append-nil, append_assoc}
use native.Mathlib.Numerals.{add-one}
use borrow.Author.Tests.{eq-eqb, ne_eqb}
use lib.ListN.{length, get_or, take, drop}
use lib.Seq.{take-suc, drop-cons}
use Rattle.shapes.specs.declared.Shape.{Shape}
use Rattle.shapes.specs.Rows.{extents_of}
use Rattle.shapes.specs.Shown.{shown}
use Rattle.verifier.specs.Listing.{decimal, joined, shape_text, minus}

joined_append : (xs ys : List ℕ) → joined (xs ++ ys) ≡ joined xs ++ joined ys
unfolding joined
joined_append [] ys = refl
joined_append (x ∷ xs) ys = rw (joined_append xs ys) (ap (λ (ws : List ℕ). 120 ∷ ws) (sym (append_assoc (decimal x) (joined xs) (joined ys))))

pub none_joined : (ws : List ℕ) → ws ≡ ws ++ joined []
unfolding joined
none_joined ws = sym (append-nil ws)

-- the words before place i are extents
abbrev pub AreExtents : List ℕ → ℕ → Type 0
AreExtents ns i = extents_of ns ≡ take i ns ++ extents_of (drop i ns)

-- no extent from a zero on, nor past the end
none_left : (ns : List ℕ) (i : ℕ) → get_or ns i 0 ≡ 0 → extents_of (drop i ns) ≡ []
unfolding extents_of
none_left [] zero e = refl
none_left [] (suc i) e = refl
none_left (n ∷ ns) zero e = rw (eq-eqb n 0 e) refl
none_left (n ∷ ns) (suc i) e = none_left ns i e

module _ (ns : List ℕ) (i : ℕ) (l : i < length ns) where
  pub one_more : AreExtents ns i → (get_or ns i 0 ≡ 0 → ⊥) → AreExtents ns (i + 1)
  unfolding extents_of
  one_more h z = h ∙ rw (add-one, take-suc ns i 0 l, drop-cons ns i 0 l, ne_eqb (get_or ns i 0) 0 z, append_assoc) refl

  joined_more : joined (take i ns) ++ 120 ∷ decimal (get_or ns i 0) ≡ joined (take (i + 1) ns)
  unfolding joined
  joined_more = rw (add-one, take-suc ns i 0 l, joined_append (take i ns) (get_or ns i 0 ∷ []), append-nil) refl

  pub longer : (ws : List ℕ) → (ws ++ joined (take i ns)) ++ 120 ∷ decimal (get_or ns i 0) ≡ ws ++ joined (take (i + 1) ns)
  longer ws = append_assoc ws (joined (take i ns)) (120 ∷ decimal (get_or ns i 0)) ∙ ap (λ (vs : List ℕ). ws ++ vs) joined_more

module _ (s : Shape) where
  abbrev pub after_first : List ℕ
  after_first = s.n1 ∷ s.n2 ∷ s.n3 ∷ []

  pub no_extent : s.n0 ≡ 0 → minus ∷ [] ≡ shape_text (shown s)
  unfolding extents_of shape_text
  no_extent z = rw (eq-eqb s.n0 0 z) refl

  module _ (h0 : s.n0 ≡ 0 → ⊥) where
    first_is : shown s ≡ s.n0 ∷ extents_of after_first
    unfolding extents_of
    first_is = rw (ne_eqb s.n0 0 h0) refl

    pub all_joined : (i : ℕ) → AreExtents after_first i → get_or after_first i 0 ≡ 0 → decimal s.n0 ++ joined (take i after_first) ≡ shape_text (shown s)
    unfolding shape_text
    all_joined i h z = sym (rw (first_is, h, none_left after_first i z, append-nil) refl)
