-- FILL and KNOWN: cells laid over cells, and flags as numbers.
use Prim.Native.Nat.{ℕ, ◌+◌, ◌<◌}
use mathlib.Core.Path.{◌≡◌, refl, sym, ap, ◌∙◌}
use mathlib.Core.List.{List}
use lib.IntN.{ℤ, pos}
use lib.ListN.{get_or}
use Rattle.laws.specs.Lists.{among}
use Rattle.laws.specs.Numbering.{count}
use Rattle.laws.specs.Store.{store}
use Rattle.laws.proofs.Store.{store_same}
use Rattle.plan.specs.declared.Node.{Node}
use Rattle.plan.specs.declared.Row.{Row}
use Rattle.plan.specs.Operations.{FILL, KNOWN}
use Rattle.plan.specs.Words.{element}
use Rattle.cells.specs.Cells.{Cell, known, gap, fill_cell, known_cell}
use Rattle.cells.specs.Nodes.{Operands, eval_cell, broadcast_cell}
use Rattle.runner.specs.Run.{value_of, flag_of}
use Rattle.views.specs.declared.View.{View}
use Rattle.views.specs.Views.{cells_of, place}
use Rattle.overlaying.specs.Overlay.{over, over_value, over_flag, overlaid_values, overlaid_flags}
use Rattle.walking.specs.declared.Walk.{Walk}
use Rattle.walking.specs.Alike.{Still}
use Rattle.evaluation.specs.Standing.{Source, Evaluates}
use Rattle.evaluation.specs.Spread.{Spreading}
use Rattle.evaluation.proofs.Mixed.{value_at_lem, flag_at}

-- ---- two views over as few axes as they let there be

overlaid_still : {C : Type 0} (F : ℕ → ℕ → C) (l : List C) (w t : Walk) (start : ℕ) → Still w t
    → store l start (cells_of t.grid) (λ (j : ℕ). F (place t.grid t.a j) (place t.grid t.b j)) ≡ store l start (cells_of w.grid) (λ (j : ℕ). F (place w.grid w.a j) (place w.grid w.b j))
overlaid_still F l w t start s = rw s.cells (store_same l start (cells_of w.grid) _ _ (λ j h. rw (s.a.near j h, s.b.near j h) refl))

pub overlaid_both : (vs : List ℤ) (fs : List ℕ) (w t : Walk) (start : ℕ) {vs' : List ℤ} {fs' : List ℕ} → Still w t
    → vs' ≡ overlaid_values vs fs t.grid t.a t.b start → fs' ≡ overlaid_flags fs t.grid t.a t.b start
    → (vs' ≡ overlaid_values vs fs w.grid w.a w.b start) × (fs' ≡ overlaid_flags fs w.grid w.a w.b start)
overlaid_both vs fs w t start s ev ef = (ev ∙ overlaid_still (over_value vs fs) vs w t start s, ef ∙ overlaid_still (over_flag fs) fs w t start s)

-- ---- FILL

fill_cell_lem : (x : Node) (r : List ℕ) (o : Operands) (e : ℕ) → x.op ≡ FILL → eval_cell x r o (element e) ≡ fill_cell (broadcast_cell o.a r (element e)) (broadcast_cell o.b r (element e))
unfolding eval_cell among
fill_cell_lem x r o e q = rw q refl

over_value_lem : (c d : Cell) → over (flag_of c) (value_of c) (value_of d) ≡ value_of (fill_cell c d)
over_value_lem (known z) d = refl
over_value_lem gap d = refl

over_flag_lem : (c d : Cell) → over (flag_of c) 1 (flag_of d) ≡ flag_of (fill_cell c d)
over_flag_lem (known z) d = refl
over_flag_lem gap d = refl

module _ (x : Node) {R : Row} {va vb : View} {pa pb : ℕ} {s t : List ℕ} (r : List ℕ) (o : Operands) (vs : List ℤ) (fs : List ℕ) (start : ℕ) (q : x.op ≡ FILL)
    (wa : Spreading R va pa s r) (wb : Spreading R vb pb t r) (a : Source vs fs pa s o.a) (b : Source vs fs pb t o.b) where
  filled_value : (e : ℕ) → e < count r → over_value vs fs (place R va e) (place R vb e) ≡ value_of (eval_cell x r o (element e))
  filled_value e h =
      rw (flag_at r vs fs o.a a wa e h, value_at_lem r vs fs o.a a wa e h, value_at_lem r vs fs o.b b wb e h, fill_cell_lem x r o e q)
      (over_value_lem (broadcast_cell o.a r (element e)) (broadcast_cell o.b r (element e)))

  filled_flag : (e : ℕ) → e < count r → over_flag fs (place R va e) (place R vb e) ≡ flag_of (eval_cell x r o (element e))
  filled_flag e h =
      rw (flag_at r vs fs o.a a wa e h, flag_at r vs fs o.b b wb e h, fill_cell_lem x r o e q)
      (over_flag_lem (broadcast_cell o.a r (element e)) (broadcast_cell o.b r (element e)))

  pub fill_evaluates : {vs' : List ℤ} {fs' : List ℕ} → (vs' ≡ overlaid_values vs fs R va vb start) × (fs' ≡ overlaid_flags fs R va vb start) → Evaluates x r o vs fs start vs' fs'
  fill_evaluates m =
      record {
        values = m.0 ∙ rw wa.cells (store_same vs start (count r) _ _ filled_value);
        flags = m.1 ∙ rw wa.cells (store_same fs start (count r) _ _ filled_flag);
      }

-- ---- KNOWN

known_cell_lem : (x : Node) (r : List ℕ) (o : Operands) (e : ℕ) → x.op ≡ KNOWN → eval_cell x r o (element e) ≡ known_cell (get_or o.a.cells e gap)
unfolding eval_cell among
known_cell_lem x r o e q = rw q refl

flag_value : (c : Cell) → pos (flag_of c) ≡ value_of (known_cell c)
flag_value (known z) = refl
flag_value gap = refl

one_flag : (c : Cell) → 1 ≡ flag_of (known_cell c)
one_flag (known z) = refl
one_flag gap = refl

pub known_evaluates : (x : Node) (r : List ℕ) (o : Operands) (base : ℕ) (vs : List ℤ) (fs : List ℕ) (start : ℕ) {n : ℕ} {vs' : List ℤ} {fs' : List ℕ} → x.op ≡ KNOWN → n ≡ count r
    → Source vs fs base r o.a → vs' ≡ store vs start n (λ (j : ℕ). pos (get_or fs (base + j) 0)) → fs' ≡ store fs start n (λ (j : ℕ). 1) → Evaluates x r o vs fs start vs' fs'
known_evaluates x r o base vs fs start q e from ev ef =
    record {
      values =
          ev
          ∙ rw e
          (store_same vs start (count r) _ _
          (λ j h. ap pos (from.stands.flags j (rw from.shape h)) ∙ flag_value (get_or o.a.cells j gap) ∙ ap value_of (sym (known_cell_lem x r o j q))));
      flags = ef ∙ rw e (store_same fs start (count r) _ _ (λ j h. one_flag (get_or o.a.cells j gap) ∙ ap flag_of (sym (known_cell_lem x r o j q))));
    }
