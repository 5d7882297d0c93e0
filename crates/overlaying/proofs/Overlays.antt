-- Rows laid over rows, one after another, into the part of a buffer behind what they are read from.
use Prim.Native.Nat.{ℕ, zero, suc, ◌+◌, ◌*◌, ◌-◌, ◌<◌}
use native.Mathlib.Omega.{arith}
use native.Mathlib.Nat.{zero-add}
use mathlib.Core.Path.{◌≡◌, refl, sym, ◌∙◌}
use mathlib.Core.List.{List, ◌++◌}
use mathlib.Core.Bool.{Bool, true, false, cond}
use lib.Dec.{eqb}
use borrow.Author.Tests.{eqb-true}
use lib.ListN.{length, get_or, set, get_or-append}
use Rattle.std.proofs.lemmas.List.{get_or_default, set-append_right}
use Rattle.laws.specs.Store.{store}
use Rattle.laws.proofs.Store.{store_block, store_same}
use Rattle.plan.specs.declared.Row.{Row}
use Rattle.views.specs.declared.View.{View}
use Rattle.views.specs.Views.{step, cells_of, row_place, place, reach}
use Rattle.views.proofs.RowPlaces.{place_row}
use Rattle.views.proofs.Steps.{place_le}
use Rattle.overlaying.specs.Overlay.{over, over_cell}

module _ {A : Type 0} (d : A) (l : List A) (fs : List ℕ) where
  -- one cell, read at places computed another way
  pub over_read : {p q k h : ℕ} {w x y : A} → k ≡ p → h ≡ q → k < length l → h < length l → w ≡ over (get_or fs k 0) x y → x ≡ get_or l k x → y ≡ get_or l h y
      → w ≡ over_cell d l fs p q
  over_read {p} {q} {k} {h} {w} {x} {y} ep eq hk hh ew ex ey =
      let first : x ≡ get_or l k d = ex ∙ get_or_default l k x d hk in
      let second : y ≡ get_or l h d = ey ∙ get_or_default l h y d hh in
      ew ∙ rw (first, second, ep, eq) refl

  -- after i rows, row i
  pub overlay_turn : (out : List A) (g : Row) (a b : View) (i : ℕ) {m end : List A} → m ≡ store out 0 (i * g.r3) (λ (j : ℕ). over_cell d l fs (place g a j) (place g b j))
      → end ≡ store m (i * g.r3) g.r3 (λ (c : ℕ). over_cell d l fs (row_place g a i + step g.r3 a.s3 c) (row_place g b i + step g.r3 b.s3 c))
      → end ≡ store out 0 ((i + 1) * g.r3) (λ (j : ℕ). over_cell d l fs (place g a j) (place g b j))
  overlay_turn out g a b i {m} {end} e f =
      store_block out m end 0 i g.r3 (λ (j : ℕ). over_cell d l fs (place g a j) (place g b j))
      (λ (c : ℕ). over_cell d l fs (row_place g a i + step g.r3 a.s3 c) (row_place g b i + step g.r3 b.s3 c)) e (rw zero-add f)
      (λ c w. rw (place_row g a i c w, place_row g b i c w))

-- what is written behind xs
store_behind : {A : Type 0} (xs ys : List A) (n : ℕ) (f : ℕ → A) → xs ++ store ys 0 n f ≡ store (xs ++ ys) (length xs) n f
unfolding store
store_behind xs ys zero f = refl
store_behind xs ys (suc n) f =
    let at : length xs + n - length xs ≡ 0 + n = omega arith in
    let behind : set (xs ++ store ys 0 n f) (length xs + n) (f n) ≡ xs ++ set (store ys 0 n f) (0 + n) (f n) = rw at at (set-append_right xs (store ys 0 n f) (length xs) (length xs + n) (f n) refl (omega arith)) in
    rw (← store_behind xs ys n f) (sym behind)

-- a flag that is 1 over another
own : (t : Bool) (f g : ℕ) → (t ≡ true → f ≡ 1) → cond t f g ≡ cond t 1 g
own true f g h = h refl
own false f g h = refl

pub over_own : (f g : ℕ) → over f f g ≡ over f 1 g
over_own f g = own (eqb f 1) f g (eqb-true f 1)

-- the whole buffer, of which xs is what lies before `start`
pub front_read : {A : Type 0} {l : List A} (xs ys : List A) {start : ℕ} (d : A) → l ≡ xs ++ ys → length xs ≡ start → (k : ℕ) → k < start → get_or xs k d ≡ get_or l k d
front_read xs ys d whole front k h = let inside : k < length xs = omega arith in rw (whole, get_or-append xs ys d k inside)

pub whole_overlaid : {A : Type 0} {l : List A} (xs ys : List A) (g : Row) (a b : View) (F G : ℕ → ℕ → A) {start : ℕ} {out : List A} → l ≡ xs ++ ys → length xs ≡ start
    → reach g a < start → reach g b < start → ((k h : ℕ) → k < start → h < start → F k h ≡ G k h) → out ≡ store ys 0 (cells_of g) (λ (j : ℕ). F (place g a j) (place g b j))
    → xs ++ out ≡ store l start (cells_of g) (λ (j : ℕ). G (place g a j) (place g b j))
whole_overlaid xs ys g a b F G whole front near-a near-b same e =
    rw (e, whole, ← front)
    (store_behind xs ys (cells_of g) (λ (j : ℕ). F (place g a j) (place g b j))
    ∙ store_same _ _ (cells_of g) _ _ (λ j h. same _ _ (omega (arith, place_le g a j h)) (omega (arith, place_le g b j h))))
