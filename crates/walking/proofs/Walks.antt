-- Walks with fewer axes.
use Prim.Native.Nat.{ℕ, suc, ◌*◌, ◌≤◌, ◌<◌}
use mathlib.Core.Path.{◌≡◌, refl, sym, ◌∙◌}
use mathlib.Core.Bool.{true}
use native.Mathlib.Omega.{arith}
use native.Mathlib.Nat.{zero-add, mul_assoc, mul_comm, one-mul}
use Rattle.laws.proofs.Numbering.{factor_pos}
use Rattle.plan.specs.declared.Row.{Row}
use Rattle.views.specs.declared.View.{View}
use Rattle.views.specs.Views.{cells_of, place, reach}
use Rattle.views.specs.Merging.{can_merge, merged_grid, merged_view}
use Rattle.views.specs.Walks.{Walks}
use Rattle.views.proofs.Steps.{cut}
use Rattle.views.proofs.Rowwise.{rows_some}
use Rattle.views.proofs.MergingAxes.{merged_walks}
use Rattle.walking.specs.declared.Walk.{Walk}
use Rattle.walking.specs.Alike.{Alike, Still, Reaches}

merged_alike : (g : Row) (v : View) → can_merge g v ≡ true → 0 < cells_of g → Alike g v (merged_grid g) (merged_view g v)
merged_alike g v can some =
    let own : Walks g v 0 (cells_of g) (suc (reach g v)) (place g v) = record { cells = refl; at = λ j h. sym (zero-add (place g v j)); inside = omega arith } in
    let w = merged_walks g v can some own in
    record { near = λ j h. w.at j h ∙ zero-add (place g v j); far = omega (arith, w.inside); begins = omega arith }

merged_cells : (g : Row) → cells_of (merged_grid g) ≡ cells_of g
merged_cells g = simp (one-mul, mul_assoc)

alike_then : {g h k : Row} {v u t : View} → cells_of h ≡ cells_of g → Alike g v h u → Alike h u k t → Alike g v k t
alike_then e p q = record { near = λ j l. q.near j (rw e l) ∙ p.near j l; far = omega (arith, p.far, q.far); begins = omega (arith, p.begins, q.begins) }

pub still_then : {w r t : Walk} → Still w r → Still r t → Still w t
still_then p q =
    record { cells = q.cells ∙ p.cells; a = alike_then p.cells p.a q.a; b = alike_then p.cells p.b q.b; d = alike_then p.cells p.d q.d }

pub still_reaches : {w r : Walk} {limit : ℕ} → Reaches w limit → Still w r → Reaches r limit
still_reaches h s =
    record {
      some = rw s.cells h.some;
      few = rw s.cells h.few;
      a = omega (arith, s.a.far, h.a);
      b = omega (arith, s.b.far, h.b);
      d = omega (arith, s.d.far, h.d);
    }

-- a plane has no more cells than the whole
module _ (g : Row) {n : ℕ} (some : 0 < cells_of g) (few : cells_of g < n) where
  pub plane_below : g.r2 * g.r3 < n
  plane_below =
      let whole : g.r0 * g.r1 * (g.r2 * g.r3) ≡ cells_of g = simp mul_assoc in
      let outer : 0 < g.r0 * g.r1 = factor_pos g.r2 (g.r0 * g.r1) 0 (rw mul_comm at (rows_some g some)) in
      let part : g.r2 * g.r3 ≤ cells_of g = cut (g.r0 * g.r1) (g.r2 * g.r3) outer (omega (arith, whole)) in
      omega (arith, few)

-- a walk whose last two axes are one
pub merged_still : (w : Walk) → 0 < cells_of w.grid → can_merge w.grid w.a ≡ true → can_merge w.grid w.b ≡ true → can_merge w.grid w.d ≡ true
    → Still w (record { grid = merged_grid w.grid; a = merged_view w.grid w.a; b = merged_view w.grid w.b; d = merged_view w.grid w.d })
merged_still w some a b d =
    record {
      cells = merged_cells w.grid;
      a = merged_alike w.grid w.a a some;
      b = merged_alike w.grid w.b b some;
      d = merged_alike w.grid w.d d some;
    }
