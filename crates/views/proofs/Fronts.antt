-- Grids: extents, words and coordinates with others in front.
use Prim.Native.Nat.{ℕ, zero, suc, ◌+◌, ◌*◌, ◌-◌, ◌≤◌, ◌<◌, suc-le-suc}
use mathlib.Core.Path.{◌≡◌, refl, ap, sym, ◌∙◌, subst}
use mathlib.Core.Bool.{Bool, true}
use mathlib.Core.List.{List, [], ◌∷◌, ◌++◌}
use native.Mathlib.Omega.{arith}
use native.Mathlib.Nat.{not-suc-le-zero, le_of_suc-le-suc, zero-lt-suc, zero-mul, zero-add, suc-add, mul-one, mul_assoc, add-mul}
use borrow.Author.Tests.{eqb-true, ltb-true, ltb-false}
use lib.Dec.{eqb, ltb}
use lib.ListN.{length, get_or, take, replicate, length-append, length-replicate, get_or-replicate, get_or-append}
use lib.Seq.{get_or-append-add, get_or-take, length-take-le}
use Rattle.laws.specs.Numbering.{count, ravel, coord}
use Rattle.laws.proofs.Booleans.{bool_cases, and_true}
use Rattle.laws.proofs.Numbering.{coord_front, coord_rest, count_front, ravel_same, ravel_same_below}
use Rattle.plan.specs.declared.Row.{Row}
use Rattle.plan.specs.Words.{list_of}
use Rattle.shapes.specs.Rules.{extent, word_of, same_rank, aligned}
use Rattle.shapes.proofs.Extents.{Positive, aligned_positive}
use Rattle.views.specs.Views.{cells_of}
use Rattle.views.specs.Strides.{Extents}
use Rattle.views.specs.Walks.{InFront}

-- ---- d in front of a list: those, and the rest

word_front : (d x : ℕ) (s : List ℕ) (y k : ℕ) → k < d → get_or (replicate d x ++ s) k y ≡ x
word_front d x s y k h =
    get_or-append (replicate d x) s y k (rw length-replicate h) ∙ get_or-replicate d k x y h

word_rest : (d x : ℕ) (s : List ℕ) (y k : ℕ) → get_or (replicate d x ++ s) (d + k) y ≡ get_or s k y
word_rest d x s y k = rw length-replicate at (get_or-append-add (replicate d x) s k y)

-- coordinates where the extents in front are 1
module _ (s : List ℕ) (e : ℕ) (h : e < count s) where
  coord_zero : (d k : ℕ) → k < d → coord (replicate d 1 ++ s) e k ≡ 0
  coord_zero zero k q = absurd (not-suc-le-zero q)
  coord_zero (suc d) zero q = coord_front (replicate d 1 ++ s) e (rw (count_front d s) h)
  coord_zero (suc d) (suc k) q =
      coord_rest (replicate d 1 ++ s) e (rw (count_front d s) h) k ∙ coord_zero d k (le_of_suc-le-suc q)

  coord_same : (d k : ℕ) → coord (replicate d 1 ++ s) e (d + k) ≡ coord s e k
  coord_same zero k = rw zero-add
  coord_same (suc d) k =
      rw suc-add (coord_rest (replicate d 1 ++ s) e (rw (count_front d s) h) (d + k) ∙ coord_same d k)

-- the element at coordinates that are 0 in front
ravel_rest : (d : ℕ) (s : List ℕ) (c : ℕ → ℕ) → ((k : ℕ) → k < d → c k ≡ 0) → ravel (replicate d 1 ++ s) c ≡ ravel s (λ (k : ℕ). c (d + k))
unfolding ravel
ravel_rest zero s c z = ravel_same s c (λ k. c (0 + k)) (λ k. rw zero-add)
ravel_rest (suc d) s c z =
    rw (z 0 (zero-lt-suc d), zero-mul, zero-add)
    (ravel_rest d s (λ k. c (suc k)) (λ k q. z (suc k) (suc-le-suc q)) ∙ ravel_same s _ _ (λ k. rw suc-add))

-- coordinates added
pub ravel_add : (s : List ℕ) (c d : ℕ → ℕ) → ravel s (λ (k : ℕ). c k + d k) ≡ ravel s c + ravel s d
unfolding ravel
ravel_add [] c d = refl
ravel_add (n ∷ ns) c d = rw (add-mul, ravel_add ns (λ k. c (suc k)) (λ k. d (suc k))) (omega arith)

-- ---- the grid of a shape

count_grid : (g : Row) → count (list_of g) ≡ g.r0 * (g.r1 * (g.r2 * g.r3))
unfolding count
count_grid g = rw mul-one

module _ (s : List ℕ) (g : Row) (front : InFront 1 s g) where
  pub grid_rank : length s ≤ 4
  grid_rank = omega (arith, simp (length-append, length-replicate) at (ap length front))

  pub grid_count : count (list_of g) ≡ count s
  grid_count = ap count front ∙ count_front (4 - length s) s

  grid_product : g.r0 * (g.r1 * (g.r2 * g.r3)) ≡ count s
  grid_product = sym (count_grid g) ∙ grid_count

  pub grid_cells : cells_of g ≡ count s
  grid_cells = simp mul_assoc grid_product

  pub grid_positive : Positive s → Positive (list_of g)
  unfolding aligned
  grid_positive p = subst Positive (sym front) (aligned_positive 4 s p)

  pub grid_extents : Positive s → count s ≤ 1048576 → Extents g
  grid_extents p few =
      let q = grid_positive p in
      record { p0 = q 0; p1 = q 1; p2 = q 2; p3 = q 3; few = rw grid_product few }

  -- what holds in front and at every axis of the shape holds along the grid
  pub grid_axes : (P : ℕ → Type 0) → ((k : ℕ) → k < 4 - length s → P k) → ((k : ℕ) → k < length s → P (4 - length s + k)) → (k : ℕ) → k < 4 → P k
  grid_axes P f g k h = bool_cases (ltb k (4 - length s)) (λ q. f k (ltb-true k _ q)) (λ q. rest (ltb-false k _ q))
    where
      rest : 4 - length s ≤ k → P k
      rest q =
          let same : 4 - length s + (k - (4 - length s)) ≡ k = omega arith in
          subst P same (g (k - (4 - length s)) (omega arith))

  pub extent_front : (k : ℕ) → k < 4 - length s → extent (list_of g) k ≡ 1
  extent_front k h = ap (λ (l : List ℕ). extent l k) front ∙ word_front (4 - length s) 1 s 1 k h

  pub extent_rest : (k : ℕ) → extent (list_of g) (4 - length s + k) ≡ extent s k
  extent_rest k = ap (λ (l : List ℕ). extent l (4 - length s + k)) front ∙ word_rest (4 - length s) 1 s 1 k

  -- the element of the grid at coordinates c is the shape's at d
  pub ravel_grid : (c d : ℕ → ℕ) → ((k : ℕ) → k < 4 - length s → c k ≡ 0) → ((k : ℕ) → k < length s → c (4 - length s + k) ≡ d k)
      → ravel (list_of g) c ≡ ravel s d
  ravel_grid c d z h =
      ap (λ (l : List ℕ). ravel l c) front ∙ ravel_rest (4 - length s) s c z ∙ ravel_same_below s (λ k. c (4 - length s + k)) d h

  module _ (e : ℕ) (h : e < count s) where
    pub grid_zero : (k : ℕ) → k < 4 - length s → coord (list_of g) e k ≡ 0
    grid_zero k q = ap (λ (l : List ℕ). coord l e k) front ∙ coord_zero s e h (4 - length s) k q

    pub grid_same : (k : ℕ) → coord (list_of g) e (4 - length s + k) ≡ coord s e k
    grid_same k = ap (λ (l : List ℕ). coord l e (4 - length s + k)) front ∙ coord_same s e h (4 - length s) k

-- ---- two shapes of the same rank

pub same_rank_lem : (s r : List ℕ) (p : ℕ → Bool) → same_rank s r p ≡ true → length s ≡ length r
unfolding same_rank
same_rank_lem s r p e = eqb-true _ _ (and_true (eqb (length s) (length r)) _ e).0

-- ---- the flags or offsets of a row over a grid

pub words_in_front : (n : ℕ) (row w : Row) → n ≤ 4 → list_of w ≡ replicate (4 - n) 0 ++ take n (list_of row) → InFront 0 (take n (list_of row)) w
words_in_front n row w h e = rw (length-take-le n (list_of row) h) e

module _ (n : ℕ) (row w : Row) (ranked : n ≤ 4) (front : InFront 0 (take n (list_of row)) w) where
  over : list_of w ≡ replicate (4 - n) 0 ++ take n (list_of row)
  over = rw (length-take-le n (list_of row) ranked) at front

  pub words_front : (k : ℕ) → k < 4 - n → word_of (list_of w) k ≡ 0
  words_front k h = ap (λ (l : List ℕ). word_of l k) over ∙ word_front (4 - n) 0 (take n (list_of row)) 0 k h

  pub words_rest : (k : ℕ) → k < n → word_of (list_of w) (4 - n + k) ≡ word_of (list_of row) k
  words_rest k h =
      ap (λ (l : List ℕ). word_of l (4 - n + k)) over ∙ word_rest (4 - n) 0 (take n (list_of row)) 0 k ∙ get_or-take n (list_of row) k 0 h
