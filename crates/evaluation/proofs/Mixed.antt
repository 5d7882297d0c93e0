-- Binary operations and WHERE over views of their sources.
use Prim.Native.Nat.{ℕ, ◌+◌, ◌<◌, ◌≤◌}
use mathlib.Core.Path.{◌≡◌, refl, sym, ap, ◌∙◌}
use mathlib.Core.Bool.{Bool, true, false, cond}
use mathlib.Core.List.{List}
use native.Mathlib.Omega.{arith}
use borrow.Author.Tests.{eqb-true, eqb-false, ne_eqb}
use lib.Dec.{eqb}
use lib.IntN.{ℤ, pos}
use lib.ListN.{get_or}
use Rattle.laws.specs.Integers.{same_z}
use Rattle.laws.specs.Lists.{among}
use Rattle.laws.specs.Numbering.{count}
use Rattle.laws.specs.Store.{store}
use Rattle.laws.proofs.Booleans.{bool_cases}
use Rattle.laws.proofs.Store.{store_same}
use Rattle.plan.specs.declared.Node.{Node}
use Rattle.plan.specs.declared.Row.{Row}
use Rattle.plan.specs.Operations.{WHERE, binaries}
use Rattle.plan.specs.Words.{element}
use Rattle.plan.proofs.ByOperation.{◌then◌, for_group}
use Rattle.cells.specs.Cells.{Cell, known, gap, Field, both, where_cell, binary}
use Rattle.cells.specs.Nodes.{Operands, eval_cell, broadcast_cell}
use Rattle.runner.specs.Run.{value_of, flag_of}
use Rattle.views.specs.declared.View.{View}
use Rattle.views.specs.Views.{cells_of, place, reach}
use Rattle.views.specs.Numbers.{SmallIn, SmallSeen}
use Rattle.views.proofs.Steps.{place_le}
use Rattle.validity.specs.Flags.{mix_flag, three, mixed_flags}
use Rattle.elementwise.specs.Mixing.{plain_value, mix_value, mixed_values}
use Rattle.walking.specs.declared.Walk.{Walk}
use Rattle.walking.specs.Alike.{Alike, Still, Near}
use Rattle.evaluation.specs.Standing.{Source, Evaluates}
use Rattle.evaluation.specs.Spread.{Spreading, Spread}
use Rattle.evaluation.proofs.Walked.{walk_below}
use Rattle.evaluation.proofs.Groups.{range_binaries}

-- ---- the same places

three_same : {C : Type 0} (F : ℤ → ℕ → ℤ → ℕ → ℤ → ℕ → C) (vs : List ℤ) (fs : List ℕ) {p p' q q' u u' : ℕ} → p ≡ p' → q ≡ q' → u ≡ u' → three F vs fs p q u ≡ three F vs fs p' q' u'
three_same F vs fs a b c = rw (a, b, c) refl

-- three views over as few axes as they let there be
mixed_still : {C : Type 0} (F : ℤ → ℕ → ℤ → ℕ → ℤ → ℕ → C) (vs : List ℤ) (fs : List ℕ) (l : List C) (w t : Walk) (start : ℕ) → Still w t
    → store l start (cells_of t.grid) (λ (j : ℕ). three F vs fs (place t.grid t.a j) (place t.grid t.b j) (place t.grid t.d j))
    ≡ store l start (cells_of w.grid) (λ (j : ℕ). three F vs fs (place w.grid w.a j) (place w.grid w.b j) (place w.grid w.d j))
mixed_still F vs fs l w t start s =
    rw s.cells (store_same l start (cells_of w.grid) _ _ (λ j h. three_same F vs fs (s.a.near j h) (s.b.near j h) (s.d.near j h)))

-- both buffers after a walk over fewer axes
pub mixed_both : (op : ℕ) (vs : List ℤ) (fs : List ℕ) (w t : Walk) (start : ℕ) {vs' : List ℤ} {fs' : List ℕ} → Still w t
    → (vs' ≡ mixed_values op vs fs t.grid t.a t.b t.d start) × (fs' ≡ mixed_flags op vs fs t.grid t.a t.b t.d start)
    → (vs' ≡ mixed_values op vs fs w.grid w.a w.b w.d start) × (fs' ≡ mixed_flags op vs fs w.grid w.a w.b w.d start)
mixed_both op vs fs w t start s e = (e.0 ∙ mixed_still (mix_value op) vs fs vs w t start s, e.1 ∙ mixed_still (mix_flag op) vs fs fs w t start s)

-- ---- the cell rules

-- numbers and flags of three cells
abbrev of_cells : {C : Type 0} → (ℤ → ℕ → ℤ → ℕ → ℤ → ℕ → C) → Cell → Cell → Cell → C
of_cells F a b d = F (value_of a) (flag_of a) (value_of b) (flag_of b) (value_of d) (flag_of d)

both_value : (op : ℕ) → (op ≡ WHERE → ⊥) → (a b d : Cell) → of_cells (mix_value op) a b d ≡ value_of (both (binary op) a b)
unfolding mix_value mix_flag plain_value
both_value op n (known x) (known y) d = rw (ne_eqb op WHERE n) refl
both_value op n (known x) gap d = rw (ne_eqb op WHERE n) refl
both_value op n gap b d = rw (ne_eqb op WHERE n) refl

both_flag : (op : ℕ) → (op ≡ WHERE → ⊥) → (a b d : Cell) → of_cells (mix_flag op) a b d ≡ flag_of (both (binary op) a b)
unfolding mix_flag
both_flag op n (known x) (known y) d = rw (ne_eqb op WHERE n) refl
both_flag op n (known x) gap d = rw (ne_eqb op WHERE n) refl
both_flag op n gap b d = rw (ne_eqb op WHERE n) refl

choose : {C : Type 0} (f : Cell → C) (b : Bool) (y z : Cell) → cond b (f z) (f y) ≡ f (cond b z y)
choose f true y z = refl
choose f false y z = refl

where_value : (op : ℕ) → op ≡ WHERE → (a b d : Cell) → of_cells (mix_value op) a b d ≡ value_of (where_cell a b d)
unfolding mix_value plain_value
where_value op q (known x) b d = rw q (choose value_of (same_z x (pos 0)) b d)
where_value op q gap b d = rw q refl

where_flag : (op : ℕ) → op ≡ WHERE → (a b d : Cell) → of_cells (mix_flag op) a b d ≡ flag_of (where_cell a b d)
unfolding mix_flag
where_flag op q (known x) b d = rw q (choose flag_of (same_z x (pos 0)) b d)
where_flag op q gap b d = rw q refl

binary_cell : (x : Node) (r : List ℕ) (o : Operands) (e : ℕ) → among x.op binaries ≡ true
    → eval_cell x r o (element e) ≡ both (binary x.op) (broadcast_cell o.a r (element e)) (broadcast_cell o.b r (element e))
unfolding eval_cell among
binary_cell x r o e h =
    for_group (λ (op : ℕ). x.op ≡ op → eval_cell x r o (element e) ≡ both (binary x.op) (broadcast_cell o.a r (element e)) (broadcast_cell o.b r (element e))) x.op binaries
    ((λ q. rw q refl) then (λ q. rw q refl) then (λ q. rw q refl) then (λ q. rw q refl) then (λ q. rw q refl) then (λ q. rw q refl) then (λ q. rw q refl) then (λ q. rw q refl) then (λ q. rw q refl) then tt) h refl

where_cell_lem : (x : Node) (r : List ℕ) (o : Operands) (e : ℕ) → x.op ≡ WHERE
    → eval_cell x r o (element e) ≡ where_cell (broadcast_cell o.a r (element e)) (broadcast_cell o.b r (element e)) (broadcast_cell o.c r (element e))
unfolding eval_cell among
where_cell_lem x r o e q = rw q refl

-- ---- what the views of the sources read

module _ {R : Row} {v : View} {base : ℕ} {s : List ℕ} (r : List ℕ) (vs : List ℤ) (fs : List ℕ) (f : Field) (source : Source vs fs base s f) (w : Spreading R v base s r) where
  same : Spreading R v base f.extents r
  same = rw source.shape w

  pub value_at_lem : (e : ℕ) → e < count r → get_or vs (place R v e) (pos 0) ≡ value_of (broadcast_cell f r (element e))
  value_at_lem e h = ap (λ (p : ℕ). get_or vs p (pos 0)) (same.at e h) ∙ source.stands.values _ (walk_below same e h)

  pub flag_at : (e : ℕ) → e < count r → get_or fs (place R v e) 0 ≡ flag_of (broadcast_cell f r (element e))
  flag_at e h = ap (λ (p : ℕ). get_or fs p 0) (same.at e h) ∙ source.stands.flags _ (walk_below same e h)

three_cells : {C : Type 0} (F : ℤ → ℕ → ℤ → ℕ → ℤ → ℕ → C) {x x' y y' z z' : ℤ} {f f' g g' h h' : ℕ} → x ≡ x' → f ≡ f' → y ≡ y' → g ≡ g' → z ≡ z' → h ≡ h' → F x f y g z h ≡ F x' f' y' g' z' h'
three_cells F a b c d e i = rw (a, b, c, d, e, i) refl

-- the cell of a source under element e
abbrev cell : List ℕ → Field → ℕ → Cell
cell r f e = broadcast_cell f r (element e)

read : {C : Type 0} (F : ℤ → ℕ → ℤ → ℕ → ℤ → ℕ → C) (r : List ℕ) (vs : List ℤ) (fs : List ℕ) {R : Row} {va vb vd : View} {pa pb pd : ℕ} {s t u : List ℕ} (f g h : Field)
    → Source vs fs pa s f → Source vs fs pb t g → Source vs fs pd u h → Spreading R va pa s r → Spreading R vb pb t r → Spreading R vd pd u r → (e : ℕ) → e < count r
    → three F vs fs (place R va e) (place R vb e) (place R vd e) ≡ of_cells F (cell r f e) (cell r g e) (cell r h e)
read F r vs fs f g h a b d wa wb wd e q =
    three_cells F (value_at_lem r vs fs f a wa e q) (flag_at r vs fs f a wa e q) (value_at_lem r vs fs g b wb e q) (flag_at r vs fs g b wb e q) (value_at_lem r vs fs h d wd e q) (flag_at r vs fs h d wd e q)

-- ---- a node whose sources stand in the buffers

module _ (x : Node) {s t u r : List ℕ} {pa pb pc : ℕ} {w : Walk} (o : Operands) (vs : List ℤ) (fs : List ℕ) (start : ℕ) (low : 9 ≤ x.op) (high : x.op < 19)
    (spread : Spread x s t u r pa pb pc w) (a : Source vs fs pa s o.a) (b : Source vs fs pb t o.b) (c : x.op ≡ WHERE → Source vs fs pc u o.c) where
  -- its cell is what F gives of its sources' cells, where F does so by the rules of both groups
  mixed_cell : {C : Type 0} (F : ℤ → ℕ → ℤ → ℕ → ℤ → ℕ → C) (G : Cell → C)
      → ((x.op ≡ WHERE → ⊥) → (a b d : Cell) → of_cells F a b d ≡ G (both (binary x.op) a b)) → (x.op ≡ WHERE → (a b d : Cell) → of_cells F a b d ≡ G (where_cell a b d))
      → (e : ℕ) → e < count r → three F vs fs (place w.grid w.a e) (place w.grid w.b e) (place w.grid w.d e) ≡ G (eval_cell x r o (element e))
  mixed_cell F G two-rule three-rule e h =
      bool_cases (eqb x.op WHERE)
      (λ is.
      let q : x.op ≡ WHERE = eqb-true x.op WHERE is in
      read F r vs fs o.a o.b o.c a b (c q) spread.first spread.second (spread.third q) e h ∙ three-rule q (cell r o.a e) (cell r o.b e) (cell r o.c e) ∙ ap G (sym (where_cell_lem x r o e q)))
      (λ is.
      let n : x.op ≡ WHERE → ⊥ = eqb-false x.op WHERE is in
      rw (spread.twice n)
      (read F r vs fs o.a o.b o.b a b b spread.first spread.second spread.second e h ∙ two-rule n (cell r o.a e) (cell r o.b e) (cell r o.b e) ∙ ap G (sym (binary_cell x r o e (range_binaries x.op low high n)))))

  pub mixed_evaluates : {vs' : List ℤ} {fs' : List ℕ}
      → (vs' ≡ mixed_values x.op vs fs w.grid w.a w.b w.d start) × (fs' ≡ mixed_flags x.op vs fs w.grid w.a w.b w.d start) → Evaluates x r o vs fs start vs' fs'
  mixed_evaluates m =
      record {
        values = m.0 ∙ rw spread.first.cells (store_same vs start (count r) _ _ (mixed_cell (mix_value x.op) value_of (both_value x.op) (where_value x.op)));
        flags = m.1 ∙ rw spread.first.cells (store_same fs start (count r) _ _ (mixed_cell (mix_flag x.op) flag_of (both_flag x.op) (where_flag x.op)));
      }

-- the places that its views read
pub spread_near : {x : Node} {s t u r : List ℕ} {pa pb pc : ℕ} {w : Walk} {limit : ℕ} → Spread x s t u r pa pb pc w
    → pa + count s ≤ limit → pb + count t ≤ limit → (x.op ≡ WHERE → pc + count u ≤ limit) → Near w limit
spread_near {x} {w = w} {limit} spread a b c = record { a = omega (arith, spread.first.inside); b = second; d = third }
  where
    second : reach w.grid w.b < limit
    second = omega (arith, spread.second.inside)

    third : reach w.grid w.d < limit
    third =
        bool_cases (eqb x.op WHERE)
        (λ is. let q : x.op ≡ WHERE = eqb-true x.op WHERE is in omega (arith, (spread.third q).inside, c q))
        (λ is. rw (spread.twice (eqb-false x.op WHERE is)) second)

-- numbers that views find: those of a walk over fewer axes, and those of a source that is broadcast
pub seen_alike : (vs : List ℤ) {g h : Row} {v u : View} → cells_of h ≡ cells_of g → Alike g v h u → SmallSeen vs g v → SmallSeen vs h u
seen_alike vs e a small j l = let k : j < cells_of _ = rw e at l in rw (a.near j k) (small j k)

pub spread_small : (vs : List ℤ) {R : Row} {v : View} {base : ℕ} (s r : List ℕ) → Spreading R v base s r → SmallIn vs base (base + count s) → SmallSeen vs R v
spread_small vs {R} {v} s r w small j l =
    small (place R v j) (omega (arith, w.at j (rw w.cells at l))) (omega (arith, place_le R v j l, w.inside))
