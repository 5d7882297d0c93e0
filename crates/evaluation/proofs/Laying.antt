-- PAD: a source laid within gaps.
use Prim.Native.Nat.{ℕ, ◌+◌, ◌*◌, ◌-◌, ◌<◌, ◌≤◌}
use mathlib.Core.Path.{◌≡◌, refl, ◌∙◌}
use mathlib.Core.Bool.{true}
use mathlib.Core.Option.{Option, none, some}
use mathlib.Core.List.{List, ◌++◌}
use native.Mathlib.Nat.{mul_comm, mul-pos}
use native.Mathlib.Omega.{arith}
use borrow.Author.Tests.{leb-true}
use lib.Dec.{eqb, leb}
use lib.IntN.{ℤ, pos}
use lib.ListN.{length, take, replicate}
use Rattle.laws.specs.Lists.{among}
use Rattle.laws.specs.Numbering.{count}
use Rattle.laws.proofs.Booleans.{and_true, all_below_lem, cond_both}
use Rattle.laws.proofs.Store.{store_same}
use Rattle.plan.specs.declared.Node.{Node}
use Rattle.plan.specs.declared.Row.{Row}
use Rattle.plan.specs.declared.ElementNumber.{ElementNumber}
use Rattle.plan.specs.Operations.{PAD}
use Rattle.plan.specs.Words.{list_of, element}
use Rattle.shapes.specs.Rules.{extent, word_of, same_rank, shapes_agree}
use Rattle.shapes.specs.Sources.{in_source, pad_source, source_element, Below}
use Rattle.shapes.proofs.Extents.{extents_positive}
use Rattle.shapes.proofs.Sources.{pad_below}
use Rattle.cells.specs.Cells.{Field, cell_from}
use Rattle.cells.specs.Nodes.{Operands, eval_cell}
use Rattle.runner.specs.Run.{value_of, flag_of}
use Rattle.views.specs.Strides.{Extents}
use Rattle.views.specs.Walks.{InFront, band_place, from}
use Rattle.views.proofs.Fronts.{grid_cells, grid_extents, grid_axes, extent_front, extent_rest, words_in_front, words_front, words_rest, same_rank_lem}
use Rattle.views.proofs.Steps.{cut}
use Rattle.views.proofs.Padding.{pad_places}
use Rattle.moving.specs.Moved.{fetch, padded, Laid}
use Rattle.evaluation.specs.Standing.{Stands, Source, Evaluates, Padded}

pad_cell : (x : Node) (r : List ℕ) (o : Operands) (e : ℕ) → x.op ≡ PAD → eval_cell x r o (element e) ≡ cell_from o.a (pad_source o.a.extents r (list_of x.rowb) e)
unfolding eval_cell source_element among
pad_cell x r o e q = rw q refl

source_in : (s r o : List ℕ) (e : ℕ) → Below (count s) (pad_source s r o e)
unfolding pad_source
source_in s r o e = cond_both (Below (count s)) (in_source s r o e) _ none (λ b. pad_below s r o e b) (λ b. tt)

-- a cell of the source, or a gap
module _ (vs : List ℤ) (fs : List ℕ) (base : ℕ) (a : Field) (stands : Stands vs fs base a) where
  fetched_value : (q : Option ElementNumber) → Below (count a.extents) q → fetch (pos 0) vs (from base q) ≡ value_of (cell_from a q)
  fetched_value none h = refl
  fetched_value (some e) h = stands.values e.0 h

  fetched_flag : (q : Option ElementNumber) → Below (count a.extents) q → fetch 0 fs (from base q) ≡ flag_of (cell_from a q)
  fetched_flag none h = refl
  fetched_flag (some e) h = stands.flags e.0 h

module _ (x : Node) (s r : List ℕ) (S R O : Row) (p : Padded x s r) (under : InFront 1 s S) (over : InFront 1 r R)
    (offsets : list_of O ≡ replicate (4 - length s) 0 ++ take (length s) (list_of x.rowb)) where
  rule : same_rank s r (λ (k : ℕ). leb (word_of (list_of x.rowb) k + extent s k) (extent r k)) ≡ true
  unfolding shapes_agree among
  rule = rw p.result (rw p.operation at p.shapes)

  words : InFront 0 (take (length s) (list_of x.rowb)) O
  words = words_in_front (length s) x.rowb O p.ranked offsets

  fits : (k : ℕ) → k < length s → word_of (list_of x.rowb) k + extent s k ≤ extent r k
  unfolding same_rank
  fits k h = leb-true _ _ (all_below_lem (length s) (λ (k : ℕ). leb (word_of (list_of x.rowb) k + extent s k) (extent r k)) (and_true (eqb (length s) (length r)) _ rule).1 k h)

  along : (k : ℕ) → k < 4 → word_of (list_of O) k + extent (list_of S) k ≤ extent (list_of R) k
  along =
      let ranks : length s ≡ length r = same_rank_lem s r _ rule in
      grid_axes s S under (λ (k : ℕ). word_of (list_of O) k + extent (list_of S) k ≤ extent (list_of R) k)
      (λ k h. omega (arith, words_front (length s) x.rowb O p.ranked words k h, extent_front r R over k (rw ranks at h), extent_front s S under k h))
      (λ k h. rw (words_rest (length s) x.rowb O p.ranked words k h, extent_rest s S under k, ranks, extent_rest r R over k) (fits k h))

  whole : Extents R
  whole = grid_extents r R over (rw p.result (extents_positive (list_of x.rowa))) p.few.1

  pub pad_laid : Laid R O S
  pad_laid =
      let e = whole in
      let cube : R.r1 * (R.r2 * R.r3) ≤ 1048576 = cut R.r0 _ e.p0 e.few in
      let plane : R.r2 * R.r3 ≤ 1048576 = cut R.r1 _ e.p1 cube in
      let n3 : R.r3 ≤ 1048576 = cut R.r2 _ e.p2 plane in
      let n2 : R.r2 ≤ 1048576 = cut R.r3 _ e.p3 (rw mul_comm at plane) in
      let n1 : R.r1 ≤ 1048576 = cut (R.r2 * R.r3) _ (mul-pos e.p2 e.p3) (rw mul_comm at cube) in
      let n0 : R.r0 ≤ 1048576 = cut (R.r1 * (R.r2 * R.r3)) _ (mul-pos e.p1 (mul-pos e.p2 e.p3)) (rw mul_comm at e.few) in
      record {
        extents = grid_extents s S under p.positive p.few.0;
        l0 = along 0 (omega arith);
        l1 = along 1 (omega arith);
        l2 = along 2 (omega arith);
        l3 = along 3 (omega arith);
        narrow = (omega (arith, n0), omega (arith, n1), omega (arith, n2), omega (arith, n3));
      }

  -- where element e of the result finds its source's
  pub pad_place : (base e : ℕ) → e < count r → band_place R O S base e ≡ from base (pad_source s r (list_of x.rowb) e)
  pad_place base e h = pad_places s r S R O x.rowb base under over words rule e h

  module _ (base : ℕ) (o : Operands) (vs : List ℤ) (fs : List ℕ) (start : ℕ) (source : Source vs fs base s o.a) where
    place_is : (e : ℕ) → e < count r → band_place R O S base e ≡ from base (pad_source o.a.extents r (list_of x.rowb) e)
    place_is e h = rw source.shape (pad_place base e h)

    pub pad_evaluates : {vs' : List ℤ} {fs' : List ℕ} → vs' ≡ padded (pos 0) vs R O S base start → fs' ≡ padded 0 fs R O S base start → Evaluates x r o vs fs start vs' fs'
    pad_evaluates ev ef =
        let at : ℕ → Option ElementNumber = λ e. pad_source o.a.extents r (list_of x.rowb) e in
        let here : (e : ℕ) → Below (count o.a.extents) (at e) = λ e. source_in o.a.extents r (list_of x.rowb) e in
        record {
          values = ev ∙ rw (grid_cells r R over) (store_same vs start (count r) _ _ (λ e h. rw (place_is e h, pad_cell x r o e p.operation) (fetched_value vs fs base o.a source.stands (at e) (here e))));
          flags = ef ∙ rw (grid_cells r R over) (store_same fs start (count r) _ _ (λ e h. rw (place_is e h, pad_cell x r o e p.operation) (fetched_flag vs fs base o.a source.stands (at e) (here e))));
        }
