-- A cell lies within the bounds of its node, if its sources' cells lie within theirs.
use Prim.Native.Nat.{ℕ, suc, ◌+◌, ◌%◌, ◌<◌}
use mathlib.Core.Path.{◌≡◌, refl, ◌∙◌, subst}
use mathlib.Core.Bool.{Bool, true, false, not, cond}
use mathlib.Core.Option.{Option, none, some}
use mathlib.Core.List.{List, [], ◌∷◌, map}
use native.Mathlib.Omega.{arith}
use native.Mathlib.Nat.{add-zero}
use lib.IntN.{ℤ, pos, ◌+ℤ◌, ◌*ℤ◌}
use lib.Dec.{eqb, ltb}
use lib.ListN.{length, get_or, length-map}
use Rattle.laws.specs.Integers.{same_z, max_z}
use Rattle.laws.specs.Lists.{among}
use Rattle.laws.specs.Numbering.{count}
use Rattle.laws.proofs.Booleans.{cond_both}
use Rattle.laws.proofs.Parts.{arithℤ}
use Rattle.laws.proofs.Extremes.{max_z_of}
use Rattle.laws.proofs.Sums.{sum_one, sum_step}
use Rattle.plan.specs.declared.Interval.{Interval}
use Rattle.plan.specs.declared.Node.{Node}
use Rattle.plan.specs.declared.ElementNumber.{ElementNumber}
use Rattle.plan.specs.Operations.{CONST, PARAM, CAST, IDIV, MOD, WHERE, REDUCE, FILL, KNOWN, STACK, followed, binaries, is_operation, by_operation}
use Rattle.plan.specs.Types.{between, holds}
use Rattle.plan.specs.Words.{size_of, list_of, element, reads}
use Rattle.plan.proofs.ByOperation.{◌then◌, by_operation_lem, for_group, only}
use Rattle.shapes.specs.Sources.{source_element, broadcast_source, gathered}
use Rattle.shapes.proofs.Sources.{gathered_count_lem}
use Rattle.bounds.specs.Rules.{where_bounds, stack_bounds, gathered_count, reduce_bounds, bounds_rules, result_bounds}
use Rattle.bounds.proofs.Sound.{In, add_sound, mul_sound, max_sound, min_sound, idiv_sound, mod_sound, cmplt_sound, cmpne_sound, where_left, where_right}
use Rattle.cells.specs.Cells.{Cell, known, gap, Field, cell_at, cell_from, both, where_cell, fill_cell, known_cell, fold_cells, reduce_cells, binary, reduction}
use Rattle.cells.specs.Nodes.{Operands, broadcast_cell, stack_cell, cell_rules, eval_cell, eval_node}
use Rattle.cells.proofs.Tables.{cell_rules_lem}
use Rattle.cells.proofs.Nodes.{everywhere}

-- a known number within these bounds, or a gap
abbrev pub Bounded : Interval → Cell → Type 0
Bounded i gap = Unit
Bounded i (known z) = In z i

-- every cell of a field
abbrev pub Sound : Interval → Field → Type 0
Sound i f = (e : ElementNumber) → Bounded i (cell_at f e)

-- ---- movement

from_sound : (a : Interval) (f : Field) (o : Option ElementNumber) → Sound a f → Bounded a (cell_from f o)
from_sound a f none h = tt
from_sound a f (some e) h = h e

-- ---- binary operations

both_sound : (f : ℤ → ℤ → ℤ) (a b r : Interval) → ((x y : ℤ) → In x a → In y b → In (f x y) r) → (c d : Cell) → Bounded a c → Bounded b d → Bounded r (both f c d)
both_sound f a b r h gap d p q = tt
both_sound f a b r h (known x) gap p q = tt
both_sound f a b r h (known x) (known y) p q = h x y p q

-- rule 10, of an operation
abbrev pub NoZero : ℕ → Interval → Type 0
NoZero op b = among op (IDIV ∷ MOD ∷ []) ≡ true → not (holds b (pos 0)) ≡ true

module _ (x : Node) (s : List ℕ) (a b c : Interval) (u v : ℤ) (p : In u a) (q : In v b) where
  number_sound : among x.op binaries ≡ true → NoZero x.op b → In (binary x.op u v) (result_bounds x s a b c)
  unfolding binary result_bounds among
  number_sound =
      for_group (λ (k : ℕ). NoZero k b → In (binary k u v) (by_operation k (bounds_rules x s a b c) (between (pos 0) (pos 0)))) x.op binaries
      ((λ z. add_sound u v a b p q)
      then (λ z. mul_sound u v a b p q)
      then (λ z. max_sound u v a b p q)
      then (λ z. idiv_sound u v a b p q (z refl))
      then (λ z. mod_sound u v a b p q (z refl))
      then (λ z. cmplt_sound u v a b p q)
      then (λ z. cmpne_sound u v a b p q)
      then (λ z. min_sound u v a b p q)
      then (λ z. max_sound u v a b p q)
      then tt)

-- ---- WHERE

widen_left : (b c : Interval) (d : Cell) → Bounded b d → Bounded (where_bounds b c) d
widen_left b c gap p = tt
widen_left b c (known z) p = where_left z b c p

widen_right : (b c : Interval) (d : Cell) → Bounded c d → Bounded (where_bounds b c) d
widen_right b c gap p = tt
widen_right b c (known z) p = where_right z b c p

where_sound : (b c : Interval) (k d e : Cell) → Bounded b d → Bounded c e → Bounded (where_bounds b c) (where_cell k d e)
where_sound b c gap d e p q = tt
where_sound b c (known z) d e p q = cond_both (Bounded (where_bounds b c)) (same_z z (pos 0)) e d (λ f. widen_right b c e q) (λ f. widen_left b c d p)

-- ---- FILL, KNOWN and STACK

fill_sound : (a b : Interval) (c d : Cell) → Bounded a c → Bounded b d → Bounded (where_bounds a b) (fill_cell c d)
fill_sound a b (known z) d p q = where_left z a b p
fill_sound a b gap d p q = widen_right a b d q

known_sound : (c : Cell) → Bounded (between (pos 0) (pos 1)) (known_cell c)
known_sound (known z) = record { low = omega arithℤ; high = omega arithℤ }
known_sound gap = record { low = omega arithℤ; high = omega arithℤ }

module _ (a b c : Interval) (d : Cell) where
  stack_first : (third : Bool) → Bounded a d → Bounded (stack_bounds third a b c) d
  unfolding stack_bounds
  stack_first true p = widen_left (where_bounds a b) c d (widen_left a b d p)
  stack_first false p = widen_left a b d p

  stack_second : (third : Bool) → Bounded b d → Bounded (stack_bounds third a b c) d
  unfolding stack_bounds
  stack_second true p = widen_left (where_bounds a b) c d (widen_right a b d p)
  stack_second false p = widen_right a b d p

  stack_third : (third : Bool) → Bounded c d → (third ≡ false → d ≡ gap) → Bounded (stack_bounds third a b c) d
  unfolding stack_bounds
  stack_third true p empty = widen_right (where_bounds a b) c d p
  stack_third false p empty = rw (empty refl) tt

stack_sound : (third : Bool) (s : Operands) (a b c : Interval) → Sound a s.a → Sound b s.b → Sound c s.c → (third ≡ false → (e : ElementNumber) → cell_at s.c e ≡ gap)
    → (e : ElementNumber) → Bounded (stack_bounds third a b c) (stack_cell s e)
unfolding stack_cell
stack_sound third s a b c p q r empty e =
    let n = count s.a.extents in
    let o = element (e.0 % n) in
    cond_both (λ (f : Field). Bounded (stack_bounds third a b c) (cell_at f o)) (ltb e.0 n) s.a (cond (ltb e.0 (n + n)) s.b s.c)
    (λ l. stack_first a b c (cell_at s.a o) third (p o))
    (λ l.
    cond_both (λ (f : Field). Bounded (stack_bounds third a b c) (cell_at f o)) (ltb e.0 (n + n)) s.b s.c
    (λ l. stack_second a b c (cell_at s.b o) third (q o))
    (λ l. stack_third a b c (cell_at s.c o) third (r o) (λ t. empty t o)))

-- ---- REDUCE

abbrev Each : Interval → List Cell → Type 0
Each a [] = Unit
Each a (c ∷ cs) = Bounded a c × Each a cs

-- k times the bounds
abbrev times : ℕ → Interval → Interval
times k a = between (pos k *ℤ a.low) (pos k *ℤ a.high)

once : (a : Interval) (c : Cell) → Bounded a c → Bounded (times 1 a) c
once a gap p = tt
once a (known z) p = sum_one p

sum_sound : (a : Interval) (cs : List Cell) (k : ℕ) (c : Cell) → Bounded (times k a) c → Each a cs → Bounded (times (k + length cs) a) (fold_cells ◌+ℤ◌ c cs)
unfolding fold_cells
sum_sound a [] k c p q = rw add-zero p
sum_sound a (d ∷ ds) k c p q =
    let e : suc k + length ds ≡ k + suc (length ds) = omega arith in
    subst (λ (n : ℕ). Bounded (times n a) (fold_cells ◌+ℤ◌ (both ◌+ℤ◌ c d) ds)) e
    (sum_sound a ds (suc k) (both ◌+ℤ◌ c d) (both_sound ◌+ℤ◌ (times k a) a (times (suc k) a) (λ x y f g. sum_step k f g) c d p q.0) q.1)

max_fold : (a : Interval) (cs : List Cell) (c : Cell) → Bounded a c → Each a cs → Bounded a (fold_cells max_z c cs)
unfolding fold_cells
max_fold a [] c p q = p
max_fold a (d ∷ ds) c p q = max_fold a ds (both max_z c d) (both_sound max_z a a a (λ x y f g. max_z_of (λ z. In z a) x y f g) c d p q.0) q.1

reduce_by : (b : Bool) (a : Interval) (n : ℕ) (cs : List Cell) → length cs ≡ n → Each a cs → Bounded (cond b (times n a) a) (reduce_cells (cond b ◌+ℤ◌ max_z) cs)
reduce_by b a n [] l q = tt
reduce_by true a n (c ∷ cs) l q =
    let m : 1 + length cs ≡ n = omega arith in
    subst (λ (k : ℕ). Bounded (times k a) (fold_cells ◌+ℤ◌ c cs)) m (sum_sound a cs 1 c (once a c q.0) q.1)
reduce_by false a n (c ∷ cs) l q = max_fold a cs c q.0 q.1

each_map : (a : Interval) (f : Field) (es : List ElementNumber) → Sound a f → Each a (map (cell_at f) es)
each_map a f [] h = tt
each_map a f (e ∷ es) h = (h e, each_map a f es h)

reduce_sound : (number : ℤ) (flags : List ℕ) (f : Field) (a : Interval) (e : ElementNumber) → Sound a f
    → Bounded (reduce_bounds number (gathered_count f.extents flags) a) (reduce_cells (reduction number) (map (cell_at f) (gathered f.extents flags e)))
unfolding reduce_bounds reduction gathered_count
reduce_sound number flags f a e h =
    let g = gathered f.extents flags e in
    reduce_by (eqb (size_of number) 0) a _ (map (cell_at f) g) (length-map g (cell_at f) ∙ gathered_count_lem f.extents flags e) (each_map a f g h)

-- ---- every operation

followed_bounds : (x : Node) (s : List ℕ) (a b c : Interval) → among x.op followed ≡ true → result_bounds x s a b c ≡ a
unfolding result_bounds among
followed_bounds x s a b c =
    for_group (λ (k : ℕ). by_operation k (bounds_rules x s a b c) (between (pos 0) (pos 0)) ≡ a) x.op followed
    (refl then refl then refl then refl then refl then refl then refl then tt)

stacked_bounds : (x : Node) (s : List ℕ) (a b c : Interval) → x.op ≡ STACK → result_bounds x s a b c ≡ stack_bounds (reads x 3) a b c
unfolding result_bounds among
stacked_bounds x s a b c q = rw q refl

-- what a node's sources hold, and the input of a PARAM
pub record Supplied (x : Node) (r : List ℕ) (s : Operands) (a b c : Interval) : Type 0 where
  pub input : x.op ≡ PARAM → (e : ℕ) → e < count r → Bounded (between x.low x.high) (get_or s.input e gap)
  pub first : Sound a s.a
  pub second : Sound b s.b
  pub third : Sound c s.c
  -- a source that is not read has no cells
  pub unread : reads x 3 ≡ false → (e : ElementNumber) → cell_at s.c e ≡ gap

module _ (x : Node) (r : List ℕ) (s : Operands) (a b c : Interval) (known-op : is_operation x.op ≡ true) (div : NoZero x.op b) (h : Supplied x r s a b c) where
  abbrev Goal : Cell → Type 0
  Goal = Bounded (result_bounds x s.a.extents a b c)

  pub cell_sound : (e : ElementNumber) → e.0 < count r → Bounded (result_bounds x s.a.extents a b c) (eval_cell x r s e)
  unfolding eval_cell result_bounds among
  cell_sound e there =
      by_operation_lem Goal x.op (cell_rules x r s e) gap (cell_rules_lem x r s e) known-op
      ((λ m. rw (only x.op CONST m) (record { low = omega arithℤ; high = omega arithℤ }))
      then (λ m. rw (only x.op PARAM m) (h.input (only x.op PARAM m) e.0 there))
      then (λ m. rw (followed_bounds x s.a.extents a b c m) (from_sound a s.a (source_element x s.a.extents r e) h.first))
      then (λ m. rw (only x.op CAST m) (h.first e))
      then (λ m.
      both_sound (binary x.op) a b (result_bounds x s.a.extents a b c) (λ u v g k. number_sound x s.a.extents a b c u v g k m div) (broadcast_cell s.a r e) (broadcast_cell s.b r e)
      (h.first (broadcast_source s.a.extents r e)) (h.second (broadcast_source s.b.extents r e)))
      then (λ m.
      rw (only x.op WHERE m)
      (where_sound b c (broadcast_cell s.a r e) (broadcast_cell s.b r e) (broadcast_cell s.c r e) (h.second (broadcast_source s.b.extents r e)) (h.third (broadcast_source s.c.extents r e))))
      then (λ m. rw (only x.op REDUCE m) (reduce_sound x.number (list_of x.rowa) s.a a e h.first))
      then (λ m.
      rw (only x.op FILL m)
      (fill_sound a b (broadcast_cell s.a r e) (broadcast_cell s.b r e) (h.first (broadcast_source s.a.extents r e)) (h.second (broadcast_source s.b.extents r e))))
      then (λ m. rw (only x.op KNOWN m) (known_sound (cell_at s.a e)))
      then (λ m. rw (stacked_bounds x s.a.extents a b c (only x.op STACK m)) (stack_sound (reads x 3) s a b c h.first h.second h.third h.unread e))
      then tt)

  -- every cell of a node lies in the bounds that its rule gives
  pub node_sound : (e : ElementNumber) → Bounded (result_bounds x s.a.extents a b c) (get_or (eval_node x r s) e.0 gap)
  unfolding eval_node
  node_sound e = everywhere Goal (count r) _ tt (λ k q. cell_sound (element k) q) e.0
