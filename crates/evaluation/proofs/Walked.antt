-- Cells that a view walks over.
use Prim.Native.Nat.{ℕ, ◌<◌}
use mathlib.Core.Path.{◌≡◌, refl, sym, ap, ◌∙◌}
use mathlib.Core.Bool.{true}
use mathlib.Core.List.{List}
use native.Mathlib.Omega.{arith}
use lib.IntN.{ℤ, pos}
use lib.ListN.{get_or}
use Rattle.laws.specs.Lists.{among}
use Rattle.laws.specs.Numbering.{count}
use Rattle.laws.specs.Store.{store}
use Rattle.laws.proofs.Store.{store_same}
use Rattle.plan.specs.declared.Node.{Node}
use Rattle.plan.specs.declared.Row.{Row}
use Rattle.plan.specs.Words.{element}
use Rattle.plan.proofs.ByOperation.{◌then◌, for_group}
use Rattle.shapes.specs.Sources.{source_element}
use Rattle.cells.specs.Cells.{gap, Field}
use Rattle.cells.specs.Nodes.{Operands, eval_cell}
use Rattle.runner.specs.Run.{value_of, flag_of}
use Rattle.views.specs.declared.View.{View}
use Rattle.views.specs.Views.{cells_of}
use Rattle.views.specs.Walks.{Walks}
use Rattle.views.proofs.Steps.{place_le}
use Rattle.moving.specs.Moved.{moved}
use Rattle.walking.specs.Alike.{Alike}
use Rattle.walking.specs.Movements.{viewed, viewed_from}
use Rattle.evaluation.specs.Standing.{Stands, Source, Evaluates}

-- the same places under another grid
pub moved_alike : {A : Type 0} (d : A) (l : List A) (g h : Row) (v u : View) (start : ℕ) → cells_of h ≡ cells_of g → Alike g v h u → moved d l h u start ≡ moved d l g v start
moved_alike d l g h v u start e a = rw e (store_same l start (cells_of g) _ _ (λ j w. ap (λ (p : ℕ). get_or l p d) (a.near j w)))

-- an element that is walked over is one of the source's
pub walk_below : {g : Row} {v : View} {base n m : ℕ} {f : ℕ → ℕ} → Walks g v base n m f → (j : ℕ) → j < n → f j < m
walk_below {g} {v} w j h = omega (arith, place_le g v j (rw w.cells h), w.at j h, w.inside)

-- what a walk leaves: of a field that stands at its base, the cells f 0, f 1, ..
module _ {g : Row} {v : View} {base n : ℕ} {f : ℕ → ℕ} (vs : List ℤ) (fs : List ℕ) (start : ℕ) (a : Field) (stands : Stands vs fs base a) (w : Walks g v base n (count a.extents) f) where
  walked_values : moved (pos 0) vs g v start ≡ store vs start n (λ (e : ℕ). value_of (get_or a.cells (f e) gap))
  walked_values = rw w.cells (store_same vs start n _ _ (λ e h. ap (λ (p : ℕ). get_or vs p (pos 0)) (w.at e h) ∙ stands.values (f e) (walk_below w e h)))

  walked_flags : moved 0 fs g v start ≡ store fs start n (λ (e : ℕ). flag_of (get_or a.cells (f e) gap))
  walked_flags = rw w.cells (store_same fs start n _ _ (λ e h. ap (λ (p : ℕ). get_or fs p 0) (w.at e h) ∙ stands.flags (f e) (walk_below w e h)))

-- PERMUTE, FLIP, EXPAND and SHRINK: the cell of the source's element
pub viewed_cell : (x : Node) (r : List ℕ) (o : Operands) (e : ℕ) → among x.op viewed ≡ true → eval_cell x r o (element e) ≡ get_or o.a.cells (viewed_from x o.a.extents r e) gap
unfolding eval_cell source_element viewed_from among
viewed_cell x r o e h =
    for_group (λ (op : ℕ). x.op ≡ op → eval_cell x r o (element e) ≡ get_or o.a.cells (viewed_from x o.a.extents r e) gap) x.op viewed
    ((λ q. rw q refl) then (λ q. rw q refl) then (λ q. rw q refl) then (λ q. rw q refl) then tt) h refl

-- what a walk over the first source leaves are the node's cells
pub walk_evaluates : {g : Row} {v : View} {base : ℕ} {f : ℕ → ℕ} (x : Node) (r s : List ℕ) (o : Operands) (vs : List ℤ) (fs : List ℕ) (start : ℕ) {vs' : List ℤ} {fs' : List ℕ}
    → Source vs fs base s o.a → Walks g v base (count r) (count s) f → ((e : ℕ) → eval_cell x r o (element e) ≡ get_or o.a.cells (f e) gap)
    → vs' ≡ moved (pos 0) vs g v start → fs' ≡ moved 0 fs g v start → Evaluates x r o vs fs start vs' fs'
walk_evaluates {g} {v} {base} {f} x r s o vs fs start from w cell ev ef =
    let walk : Walks g v base (count r) (count o.a.extents) f = rw from.shape w in
    record {
      values = ev ∙ walked_values vs fs start o.a from.stands walk ∙ store_same vs start (count r) _ _ (λ e h. ap value_of (sym (cell e)));
      flags = ef ∙ walked_flags vs fs start o.a from.stands walk ∙ store_same fs start (count r) _ _ (λ e h. ap flag_of (sym (cell e)));
    }
