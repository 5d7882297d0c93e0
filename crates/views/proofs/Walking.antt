-- What the views of operands and of the movement operations walk over.
use Prim.Native.Nat.{ℕ, ◌+◌, ◌-◌, ◌<◌}
use mathlib.Core.Path.{◌≡◌, refl, ap, sym, ◌∙◌}
use mathlib.Core.Bool.{Bool, true, false, not, cond}
use mathlib.Core.Logic.{◌⊎◌, inl, inr, ⊎_elim}
use mathlib.Core.List.{List}
use native.Mathlib.Omega.{arith}
use native.Mathlib.Nat.{mul-zero, mul-one, one-mul, zero-mul, add-zero, mod-eq_of_lt}
use borrow.Author.Tests.{eqb-true, eqb-false}
use lib.Dec.{eqb}
use lib.ListN.{length}
use Rattle.laws.specs.Numbering.{count, ravel, coord}
use Rattle.laws.proofs.Booleans.{bool_cases}
use Rattle.laws.proofs.Numbering.{ravel_lt, ravel_same}
use Rattle.plan.specs.declared.Row.{Row}
use Rattle.plan.specs.Words.{list_of, element}
use Rattle.shapes.specs.Rules.{extent}
use Rattle.shapes.specs.Sources.{broadcast_source, expand_source}
use Rattle.shapes.proofs.Extents.{Positive}
use Rattle.shapes.proofs.Broadcast.{Spreads, expand_spread}
use Rattle.views.specs.declared.View.{View}
use Rattle.views.specs.Views.{step, span, cells_of, row_place, place, row_reach, reach}
use Rattle.views.specs.Strides.{up_by, masked_view, spread_view}
use Rattle.views.specs.Walks.{InFront, Walks}
use Rattle.views.proofs.Fronts.{grid_rank, grid_count, grid_cells, grid_positive, grid_axes, extent_front, extent_rest, ravel_grid, grid_same}
use Rattle.views.proofs.Axiswise.{Along, axiswise, axis_reach}

-- ---- elements one after another

abbrev pub flat_grid : ℕ → Row
flat_grid n = record { r0 = 1; r1 = 1; r2 = 1; r3 = n }

abbrev pub flat_view : ℕ → View
flat_view base = record { base = base; s0 = up_by 0; s1 = up_by 0; s2 = up_by 0; s3 = up_by 1 }

pub flat_walks : (base n : ℕ) → 0 < n → Walks (flat_grid n) (flat_view base) base n n (λ (e : ℕ). e)
unfolding place row_place step reach row_reach span
flat_walks base n p = record { cells = one-mul n; at = at'; inside = inside' }
  where
    at' : (j : ℕ) → j < n → place (flat_grid n) (flat_view base) j ≡ base + j
    at' j h = simp (mul-zero, mul-one, add-zero, mod-eq_of_lt h)

    inside' : reach (flat_grid n) (flat_view base) < base + n
    inside' = omega arith

-- ---- walks

-- the same elements under another name
walks_same : {g : Row} {v : View} {base n m : ℕ} {f f' : ℕ → ℕ} → ((j : ℕ) → j < n → f j ≡ f' j) → Walks g v base n m f → Walks g v base n m f'
walks_same {base = base} e w = record { cells = w.cells; at = λ j h. w.at j h ∙ ap (λ (i : ℕ). base + i) (e j h); inside = w.inside }

-- coordinates below the extents of a grid stay within its source
pub grid_below : (s : List ℕ) (S : Row) → InFront 1 s S → (base : ℕ) (c : ℕ → ℕ) → ((k : ℕ) → k < 4 → c k < extent (list_of S) k) → base + ravel (list_of S) c < base + count s
grid_below s S under base c h = omega (arith, ravel_lt (list_of S) c h, grid_count s S under)

-- ---- an axis that is taken or left out

masked_along : (n t : ℕ) (b : Bool) → Along n (up_by (cond b t 0)) t (λ (c : ℕ). cond b c 0)
unfolding step
masked_along n t true c h = rw (mul-zero, add-zero)
masked_along n t false c h = simp (mul-zero, zero-mul)

module _ (R S : Row) (base : ℕ) (o : ℕ → Bool) where
  pub masked_place : (j : ℕ) → j < cells_of R
      → place R (masked_view base S (o 0) (o 1) (o 2) (o 3)) j ≡ base + ravel (list_of S) (λ (k : ℕ). cond (o k) (coord (list_of R) j k) 0)
  masked_place =
      axiswise R S (masked_view base S (o 0) (o 1) (o 2) (o 3)) (λ (k c : ℕ). cond (o k) c 0)
      (masked_along _ _ (o 0)) (masked_along _ _ (o 1)) (masked_along _ _ (o 2)) (masked_along _ _ (o 3))

  pub masked_reach : Positive (list_of R)
      → reach R (masked_view base S (o 0) (o 1) (o 2) (o 3)) ≡ base + ravel (list_of S) (λ (k : ℕ). cond (o k) (extent (list_of R) k - 1) 0)
  masked_reach p =
      axis_reach R S (masked_view base S (o 0) (o 1) (o 2) (o 3)) (λ (k c : ℕ). cond (o k) c 0)
      (masked_along _ _ (o 0)) (masked_along _ _ (o 1)) (masked_along _ _ (o 2)) (masked_along _ _ (o 3)) p
      ∙ ap (λ (i : ℕ). base + i) (ravel_same (list_of S) _ _ (λ k. none (o k) (extent (list_of R) k - 1)))
    where
      none : (b : Bool) (x : ℕ) → cond b x 0 + cond b 0 0 ≡ cond b x 0
      none true x = add-zero x
      none false x = refl

-- ---- an operand, and EXPAND

module _ (s r : List ℕ) (S R : Row) (base : ℕ) (under : InFront 1 s S) (over : InFront 1 r R) (p : Positive r) (f : Spreads s r) where
  -- axis k of the operand, counted along the grid from either rank
  places : (k : ℕ) → 4 - length s + k ≡ 4 - length r + (length r - length s + k)
  places k = omega (arith, grid_rank r R over, f.rank)

  -- along the grid too, an extent is 1 or the result's
  spread_axis : (k : ℕ) → k < 4 → (extent (list_of S) k ≡ 1) ⊎ (extent (list_of S) k ≡ extent (list_of R) k)
  spread_axis =
      grid_axes s S under (λ (k : ℕ). (extent (list_of S) k ≡ 1) ⊎ (extent (list_of S) k ≡ extent (list_of R) k))
      (λ k h. inl (extent_front s S under k h))
      (λ k h. ⊎_elim (λ one. inl (extent_rest s S under k ∙ one))
      (λ same. inr (extent_rest s S under k ∙ same ∙ sym (extent_rest r R over (length r - length s + k)) ∙ ap (λ (i : ℕ). extent (list_of R) i) (sym (places k))))
      (f.axis k h))

  spread_at : (e : ℕ) → e < count r
      → ravel (list_of S) (λ (k : ℕ). cond (not (eqb (extent (list_of S) k) 1)) (coord (list_of R) e k) 0) ≡ (broadcast_source s r (element e)).0
  unfolding broadcast_source
  spread_at e h =
      ravel_grid s S under _ _
      (λ k q. rw (extent_front s S under k q))
      (λ k q. rw (extent_rest s S under k, places k, grid_same r R over e h (length r - length s + k)) (swap (eqb (extent s k) 1) _))
    where
      swap : (b : Bool) (x : ℕ) → cond (not b) x 0 ≡ cond b 0 x
      swap true x = refl
      swap false x = refl

  pub spread_walks : Walks R (spread_view base S) base (count r) (count s) (λ (e : ℕ). (broadcast_source s r (element e)).0)
  spread_walks =
      record {
        cells = grid_cells r R over;
        at = λ j h. masked_place R S base (λ (k : ℕ). not (eqb (extent (list_of S) k) 1)) j (rw (grid_cells r R over) h) ∙ ap (λ (i : ℕ). base + i) (spread_at j h);
        inside = rw (masked_reach R S base (λ (k : ℕ). not (eqb (extent (list_of S) k) 1)) (grid_positive r R over p)) (grid_below s S under base _ below);
      }
    where
      below : (k : ℕ) → k < 4 → cond (not (eqb (extent (list_of S) k) 1)) (extent (list_of R) k - 1) 0 < extent (list_of S) k
      below k h =
          let q : 0 < extent (list_of R) k = grid_positive r R over p k in
          bool_cases (eqb (extent (list_of S) k) 1)
          (λ one. let z : extent (list_of S) k ≡ 1 = eqb-true _ 1 one in rw one (omega arith))
          (λ other. rw other (⊎_elim (λ one. absurd (eqb-false _ 1 other one)) (λ same. omega arith) (spread_axis k h)))

  pub expand_walks : length s ≡ length r → Walks R (spread_view base S) base (count r) (count s) (λ (e : ℕ). expand_source s r e)
  expand_walks l = walks_same (λ j h. sym (expand_spread s r j l)) spread_walks
