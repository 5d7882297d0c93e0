-- Every extent of a result is at least 1, and its rank at most 4.
use Prim.Native.Nat.{ℕ, zero, suc, ◌-◌, ◌<◌, ◌≤◌, max, min}
use mathlib.Core.Path.{◌≡◌, ◌∙◌}
use mathlib.Core.Bool.{cond}
use mathlib.Core.List.{List, [], ◌∷◌, ◌++◌, map}
use native.Mathlib.Omega.{arith}
use native.Mathlib.Nat.{pos_of_ne-zero, zero-lt-suc}
use borrow.Author.Tests.{eqb-false}
use lib.Dec.{eqb}
use lib.ListN.{length, take, replicate, length-map, length-take}
use Rattle.laws.specs.Lists.{tab}
use Rattle.laws.specs.Numbering.{count}
use Rattle.laws.proofs.Booleans.{cond_both}
use Rattle.laws.proofs.Lists.{length_tab}
use Rattle.laws.proofs.Numbering.{count_pos}
use Rattle.plan.specs.declared.Node.{Node}
use Rattle.plan.specs.declared.Row.{Row}
use Rattle.plan.specs.Operations.{STACK}
use Rattle.plan.specs.Words.{list_of, size_of}
use Rattle.plan.proofs.ByOperation.{◌then◌, by_rows, only}
use Rattle.shapes.specs.Rows.{extents_of}
use Rattle.shapes.specs.Rules.{extent, flagged, aligned, broadcast, permuted, reduced, gathered_extents, result_rules, result_extents}

-- ---- extents of at least 1

abbrev pub Positive : List ℕ → Type 0
Positive s = (k : ℕ) → 0 < extent s k

pub positive_none : Positive []
positive_none k = zero-lt-suc 0

positive_cons : (n : ℕ) (ns : List ℕ) → 0 < n → Positive ns → Positive (n ∷ ns)
positive_cons n ns h p zero = h
positive_cons n ns h p (suc k) = p k

positive_tab : (n : ℕ) (f : ℕ → ℕ) → ((k : ℕ) → 0 < f k) → Positive (tab n f)
unfolding tab
positive_tab zero f h = positive_none
positive_tab (suc n) f h = positive_cons (f 0) (tab n (λ (k : ℕ). f (suc k))) (h 0) (positive_tab n (λ (k : ℕ). f (suc k)) (λ k. h (suc k)))

positive_map : (f : ℕ → ℕ) (xs : List ℕ) → ((k : ℕ) → 0 < f k) → Positive (map f xs)
positive_map f [] h = positive_none
positive_map f (x ∷ xs) h = positive_cons (f x) (map f xs) (h x) (positive_map f xs h)

pub extents_positive : (row : List ℕ) → Positive (extents_of row)
unfolding extents_of
extents_positive [] = positive_none
extents_positive (n ∷ ns) =
    cond_both Positive (eqb n 0) [] (n ∷ extents_of ns) (λ e. positive_none) (λ e. positive_cons n (extents_of ns) (pos_of_ne-zero (eqb-false n 0 e)) (extents_positive ns))

ones_positive : (n : ℕ) (s : List ℕ) → Positive s → Positive (replicate n 1 ++ s)
ones_positive zero s p = p
ones_positive (suc n) s p = positive_cons 1 (replicate n 1 ++ s) (zero-lt-suc 0) (ones_positive n s p)

pub aligned_positive : (n : ℕ) (s : List ℕ) → Positive s → Positive (aligned n s)
unfolding aligned
aligned_positive n s p = ones_positive (n - length s) s p

pub broadcast_positive : (s t : List ℕ) → Positive s → Positive t → Positive (broadcast s t)
unfolding broadcast
broadcast_positive s t p q =
    let n = max (length s) (length t) in
    positive_tab n _ (λ k. omega (arith, aligned_positive n s p k, aligned_positive n t q k))

-- along flagged axes or along the others the extent, else 1
either_positive : (flags s : List ℕ) → Positive s → (k : ℕ) → (0 < cond (flagged flags k) 1 (extent s k)) × (0 < cond (flagged flags k) (extent s k) 1)
either_positive flags s p k =
    (cond_both (λ (n : ℕ). 0 < n) (flagged flags k) 1 (extent s k) (λ e. zero-lt-suc 0) (λ e. p k), cond_both (λ (n : ℕ). 0 < n) (flagged flags k) (extent s k) 1 (λ e. p k) (λ e. zero-lt-suc 0))

pub reduced_positive : (s flags : List ℕ) → Positive s → Positive (reduced s flags)
unfolding reduced
reduced_positive s flags p = positive_tab (length s) _ (λ k. (either_positive flags s p k).0)

pub gathered_positive : (s flags : List ℕ) → Positive s → Positive (gathered_extents s flags)
unfolding gathered_extents
gathered_positive s flags p = positive_tab (length s) _ (λ k. (either_positive flags s p k).1)

permuted_positive : (s row : List ℕ) → Positive s → Positive (permuted s row)
unfolding permuted
permuted_positive s row p = positive_map (λ (a : ℕ). extent s a) (take (length s) row) p

-- ---- rank at most 4

abbrev pub Ranked : List ℕ → Type 0
Ranked s = length s ≤ 4

pub extents_length : (row : List ℕ) → length (extents_of row) ≤ length row
unfolding extents_of
extents_length [] = omega arith
extents_length (n ∷ ns) =
    cond_both (λ (s : List ℕ). length s ≤ suc (length ns)) (eqb n 0) [] (n ∷ extents_of ns) (λ e. omega arith) (λ e. omega (arith, extents_length ns))

pub broadcast_length : (s t : List ℕ) → length (broadcast s t) ≡ max (length s) (length t)
unfolding broadcast
broadcast_length s t = length_tab (max (length s) (length t)) _

pub reduced_length : (s flags : List ℕ) → length (reduced s flags) ≡ length s
unfolding reduced
reduced_length s flags = length_tab (length s) _

pub gathered_length : (s flags : List ℕ) → length (gathered_extents s flags) ≡ length s
unfolding gathered_extents
gathered_length s flags = length_tab (length s) _

pub permuted_length : (s row : List ℕ) → length (permuted s row) ≡ min (length s) (length row)
unfolding permuted
permuted_length s row = length-map (take (length s) row) (λ (a : ℕ). extent s a) ∙ length-take (length s) row

-- ---- every result

-- what the extents of a node are, where they are those of its sources
pub record Extents (s : List ℕ) : Type 0 where
  pub positive : Positive s
  pub ranked : Ranked s

pub no_extents : Extents []
no_extents = record { positive = positive_none; ranked = omega arith }

module _ (x : Node) (s t u : List ℕ) (p : Extents s) (q : Extents t) (r : Extents u) (stack : x.op ≡ STACK → (0 < size_of x.number) × (length s ≤ 3)) where
  row_extents : (row : Row) → Extents (extents_of (list_of row))
  row_extents row = record { positive = extents_positive (list_of row); ranked = extents_length (list_of row) }

  two_extents : Extents (broadcast s t)
  two_extents = record { positive = broadcast_positive s t p.positive q.positive; ranked = rw broadcast_length (omega (arith, p.ranked, q.ranked)) }

  three_extents : Extents (broadcast (broadcast s t) u)
  three_extents =
      record {
        positive = broadcast_positive (broadcast s t) u two_extents.positive r.positive;
        ranked = rw broadcast_length (omega (arith, two_extents.ranked, r.ranked));
      }

  stack_extents : (0 < size_of x.number) × (length s ≤ 3) → Extents (size_of x.number ∷ s)
  stack_extents h = record { positive = positive_cons (size_of x.number) s h.0 p.positive; ranked = omega (arith, h.1) }

  pub result_extents_lem : Extents (result_extents x s t u)
  unfolding result_extents
  result_extents_lem =
      by_rows Extents x.op (result_rules x s t u) []
      ((λ e. no_extents)
      then (λ e. row_extents x.rowa)
      then (λ e. record { positive = permuted_positive s (list_of x.rowa) p.positive; ranked = rw permuted_length (omega (arith, p.ranked)) })
      then (λ e. p)
      then (λ e. two_extents)
      then (λ e. three_extents)
      then (λ e. record { positive = reduced_positive s (list_of x.rowa) p.positive; ranked = rw reduced_length p.ranked })
      then (λ e. stack_extents (stack (only x.op STACK e)))
      then tt)
      no_extents

-- a node has at least one element
pub some_element : (s : List ℕ) → Positive s → 0 < count s
some_element s p = count_pos s (λ k h. p k)
