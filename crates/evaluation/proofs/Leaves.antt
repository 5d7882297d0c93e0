-- CONST, PARAM, and the operations that keep every cell's number.
use Prim.Native.Nat.{ℕ, ◌+◌, ◌<◌, ◌≤◌}
use mathlib.Core.Path.{◌≡◌, refl, sym, ap, ◌∙◌}
use mathlib.Core.Bool.{Bool, true, false, cond}
use mathlib.Core.List.{List, []}
use native.Mathlib.Nat.{add-zero}
use borrow.Author.Tests.{le-leb}
use lib.Dec.{eqb}
use lib.IntN.{ℤ, pos}
use lib.ListN.{get_or, set}
use Rattle.laws.specs.Lists.{among}
use Rattle.laws.specs.Numbering.{count}
use Rattle.laws.specs.Store.{store}
use Rattle.laws.proofs.Store.{store_same}
use Rattle.plan.specs.declared.Node.{Node}
use Rattle.plan.specs.Operations.{CONST, PARAM}
use Rattle.plan.specs.Words.{element}
use Rattle.plan.proofs.ByOperation.{◌then◌, for_group}
use Rattle.shapes.specs.Shown.{capped}
use Rattle.shapes.specs.Sources.{source_element}
use Rattle.cells.specs.Cells.{known, gap}
use Rattle.cells.specs.Nodes.{Operands, eval_cell}
use Rattle.runner.specs.Inputs.{input_cell}
use Rattle.runner.specs.Run.{value_of, flag_of}
use Rattle.moving.specs.Moved.{moved}
use Rattle.views.proofs.Walking.{flat_grid, flat_view, flat_walks}
use Rattle.inputs.specs.Scanning.{cell_in}
use Rattle.evaluation.specs.Standing.{Source, Evaluates, Given, copied}

-- a count that is within the limit
pub capped_is : {n m : ℕ} → n ≡ capped m → m ≤ 1048576 → n ≡ m
unfolding capped
capped_is {n} {m} e h = rw (le-leb m 1048576 h) at e

-- RESHAPE, CAST and LOAD
pub copied_cell : (x : Node) (r : List ℕ) (o : Operands) (e : ℕ) → among x.op copied ≡ true → eval_cell x r o (element e) ≡ get_or o.a.cells e gap
unfolding eval_cell source_element among
copied_cell x r o e h =
    for_group (λ (op : ℕ). x.op ≡ op → eval_cell x r o (element e) ≡ get_or o.a.cells e gap) x.op copied
    ((λ q. rw q refl) then (λ q. rw q refl) then (λ q. rw q refl) then tt) h refl

-- cells one after another
pub flat_moved : {A : Type 0} (d : A) (l : List A) (p n to : ℕ) → 0 < n → moved d l (flat_grid n) (flat_view p) to ≡ store l to n (λ (j : ℕ). get_or l (p + j) d)
flat_moved d l p n to some =
    let w = flat_walks p n some in
    rw w.cells (store_same l to n _ _ (λ j h. ap (λ (k : ℕ). get_or l k d) (w.at j h)))

-- RESHAPE, CAST and LOAD
pub copied_evaluates : (x : Node) (s r : List ℕ) (o : Operands) (base : ℕ) (vs : List ℤ) (fs : List ℕ) (start : ℕ) {n : ℕ} {vs' : List ℤ} {fs' : List ℕ} → among x.op copied ≡ true → n ≡ count r → count s ≡ count r
    → Source vs fs base s o.a → (vs' ≡ store vs start n (λ (j : ℕ). get_or vs (base + j) (pos 0))) × (fs' ≡ store fs start n (λ (j : ℕ). get_or fs (base + j) 0)) → Evaluates x r o vs fs start vs' fs'
copied_evaluates x s r o base vs fs start h e same from m =
    let there : (j : ℕ) → j < count r → j < count o.a.extents = λ j l. rw (from.shape, same) l in
    record {
      values = m.0 ∙ rw e (store_same vs start (count r) _ _ (λ j l. from.stands.values j (there j l) ∙ ap value_of (sym (copied_cell x r o j h))));
      flags = m.1 ∙ rw e (store_same fs start (count r) _ _ (λ j l. from.stands.flags j (there j l) ∙ ap flag_of (sym (copied_cell x r o j h))));
    }

-- CONST
const_cell : (x : Node) (r : List ℕ) (o : Operands) (e : ℕ) → x.op ≡ CONST → eval_cell x r o (element e) ≡ known x.number
unfolding eval_cell among
const_cell x r o e q = rw q refl

store_one : {A : Type 0} (l : List A) (s : ℕ) (f : ℕ → A) → set l s (f 0) ≡ store l s 1 f
unfolding store
store_one l s f = rw add-zero

pub const_evaluates : (x : Node) {r : List ℕ} (o : Operands) (vs : List ℤ) (fs : List ℕ) (start : ℕ) {vs' : List ℤ} {fs' : List ℕ} → x.op ≡ CONST → r ≡ []
    → vs' ≡ set vs start x.number → fs' ≡ set fs start 1 → Evaluates x r o vs fs start vs' fs'
unfolding count
const_evaluates x {r} o vs fs start q e ev ef =
    rw e
    (record {
      values = ev ∙ store_one vs start (λ (e : ℕ). x.number) ∙ store_same vs start 1 _ _ (λ e h. ap value_of (sym (const_cell x [] o e q)));
      flags = ef ∙ store_one fs start (λ (e : ℕ). 1) ∙ store_same fs start 1 _ _ (λ e h. ap flag_of (sym (const_cell x [] o e q)));
    })

-- PARAM
param_cell : (x : Node) (r : List ℕ) (o : Operands) (e : ℕ) → x.op ≡ PARAM → eval_cell x r o (element e) ≡ get_or o.input e gap
unfolding eval_cell among
param_cell x r o e q = rw q refl

input_flag : (value : ℤ) (flag : ℕ) → cond (eqb flag 1) 1 0 ≡ flag_of (input_cell value flag)
unfolding input_cell
input_flag value flag = by (eqb flag 1)
  where
    by : (b : Bool) → cond b 1 0 ≡ flag_of (cond b (known value) gap)
    by true = refl
    by false = refl

pub param_evaluates : (x : Node) (r : List ℕ) (o : Operands) (given : List ℤ) (flags : List ℕ) (from : ℕ) (vs : List ℤ) (fs : List ℕ) (start : ℕ) {n : ℕ} {vs' : List ℤ} {fs' : List ℕ}
    → x.op ≡ PARAM → n ≡ count r → Given given flags from r o.input
    → vs' ≡ store vs start n (λ (j : ℕ). value_of (cell_in given flags (from + j))) → fs' ≡ store fs start n (λ (j : ℕ). cond (eqb (get_or flags (from + j) 0) 1) 1 0)
    → Evaluates x r o vs fs start vs' fs'
param_evaluates x r o given flags from vs fs start q e input ev ef =
    record {
      values = ev ∙ rw e (store_same vs start (count r) _ _ (λ j h. ap value_of (sym (param_cell x r o j q ∙ input j h))));
      flags = ef ∙ rw e (store_same fs start (count r) _ _ (λ j h. input_flag (get_or given (from + j) (pos 0)) (get_or flags (from + j) 0) ∙ ap flag_of (sym (param_cell x r o j q ∙ input j h))));
    }
