-- A broadcast operand is read inside its extents.
use Prim.Native.Nat.{ℕ, ◌+◌, ◌-◌, ◌<◌, ◌≤◌, max}
use mathlib.Core.Path.{◌≡◌, refl, ap, sym, ◌∙◌}
use mathlib.Core.Bool.{true, false, ◌&&◌, cond}
use mathlib.Core.Logic.{◌⊎◌, inl, inr, ⊎_elim}
use mathlib.Core.List.{List, []}
use native.Mathlib.Omega.{arith}
use borrow.Author.Tests.{eqb-true, eqb-false}
use lib.Dec.{eqb}
use lib.ListN.{length, replicate, length-replicate, get_or-append, get_or-replicate}
use lib.Seq.{get_or-append-add}
use Rattle.laws.specs.Lists.{among}
use Rattle.laws.specs.Numbering.{count, coord}
use Rattle.laws.proofs.Booleans.{bool_cases, and_true, or_true, all_below_lem}
use Rattle.laws.proofs.Lists.{get_or_tab}
use Rattle.laws.proofs.Numbering.{Stands, ravel_stands, ravel_same, coord_lt}
use Rattle.plan.specs.declared.ElementNumber.{ElementNumber}
use Rattle.plan.specs.declared.Node.{Node}
use Rattle.plan.specs.Operations.{WHERE, FILL, binaries, by_operation}
use Rattle.plan.proofs.ByOperation.{◌then◌, for_group}
use Rattle.plan.specs.Words.{element}
use Rattle.shapes.specs.Rules.{extent, equal_or_one, aligned, can_broadcast, broadcast, shape_rules, shapes_agree, result_rules, result_extents}
use Rattle.shapes.specs.Sources.{expand_source, broadcast_source}
use Rattle.shapes.proofs.Extents.{Positive, aligned_positive, broadcast_positive, broadcast_length}

-- each extent of s is 1 or the extent of r at the same place from the right
pub record Spreads (s r : List ℕ) : Type 0 where
  pub rank : length s ≤ length r
  pub axis : (k : ℕ) → k < length s → (extent s k ≡ 1) ⊎ (extent s k ≡ extent r (length r - length s + k))

spreads_trans : {s r q : List ℕ} → Spreads s r → Spreads r q → Spreads s q
spreads_trans {s} {r} {q} f g = record { rank = omega (arith, f.rank, g.rank); axis = axis' }
  where
    axis' : (k : ℕ) → k < length s → (extent s k ≡ 1) ⊎ (extent s k ≡ extent q (length q - length s + k))
    axis' k h =
        let j : length r - length s + k < length r = omega (arith, f.rank) in
        let same : length q - length r + (length r - length s + k) ≡ length q - length s + k = omega (arith, f.rank, g.rank) in
        ⊎_elim inl
        (λ e. ⊎_elim (λ one. inl (e ∙ one)) (λ more. inr (e ∙ more ∙ ap (λ (i : ℕ). extent q i) same)) (g.axis (length r - length s + k) j))
        (f.axis k h)

-- the element under an element of the result, and that it is one of the operand's
pub spread_stands : {s r : List ℕ} → Spreads s r → (e : ElementNumber) → e.0 < count r
    → Stands s (λ (k : ℕ). cond (eqb (extent s k) 1) 0 (coord r e.0 (length r - length s + k))) (broadcast_source s r e).0
unfolding broadcast_source
spread_stands {s} {r} f e h = ravel_stands s _ below
  where
    below : (k : ℕ) → k < length s → cond (eqb (extent s k) 1) 0 (coord r e.0 (length r - length s + k)) < extent s k
    below k q =
        let inside : coord r e.0 (length r - length s + k) < extent r (length r - length s + k) = coord_lt r e.0 h (length r - length s + k) (omega (arith, f.rank)) in
        bool_cases (eqb (extent s k) 1)
        (λ one. let z : extent s k ≡ 1 = eqb-true (extent s k) 1 one in rw one (omega arith))
        (λ other. rw other (⊎_elim (λ one. absurd (eqb-false (extent s k) 1 other one)) (λ same. omega arith) (f.axis k q)))

pub spread_below : {s r : List ℕ} → Spreads s r → (e : ElementNumber) → e.0 < count r → (broadcast_source s r e).0 < count s
spread_below f e h = (spread_stands f e h).inside

-- EXPAND reads as a broadcast of the same rank does
pub expand_spread : (s r : List ℕ) (e : ℕ) → length s ≡ length r → expand_source s r e ≡ (broadcast_source s r (element e)).0
unfolding expand_source broadcast_source
expand_spread s r e l =
    ravel_same s _ _ (λ k. let z : length r - length s + k ≡ k = omega arith in rw z refl)

-- ---- the shapes of a broadcast

pub aligned_at : (n : ℕ) (s : List ℕ) (k : ℕ) → extent (aligned n s) (n - length s + k) ≡ extent s k
unfolding aligned
aligned_at n s k = rw length-replicate at (get_or-append-add (replicate (n - length s) 1) s k 1)

pub aligned_front : (n : ℕ) (s : List ℕ) (k : ℕ) → k < n - length s → extent (aligned n s) k ≡ 1
unfolding aligned
aligned_front n s k h = get_or-append (replicate (n - length s) 1) s 1 k (rw length-replicate h) ∙ get_or-replicate (n - length s) k 1 1 h

spread : (s r : List ℕ) → length s ≤ length r
    → ((j : ℕ) → j < length r → (extent (aligned (length r) s) j ≡ 1) ⊎ (extent (aligned (length r) s) j ≡ extent r j)) → Spreads s r
spread s r l h =
    record {
      rank = l;
      axis = λ k q. rw (aligned_at (length r) s k) at (h (length r - length s + k) (omega arith));
    }

-- two extents that are equal or 1, and the larger of them
meets : (a b m : ℕ) → 0 < a → 0 < b → equal_or_one a b ≡ true → m ≡ max a b → ((a ≡ 1) ⊎ (a ≡ m)) × ((b ≡ 1) ⊎ (b ≡ m))
meets a b m p q e l =
    or_true (eqb a b) _ e (λ same. let z : a ≡ b = eqb-true a b same in (inr (omega arith), inr (omega arith))) λ e.
    or_true (eqb a 1) (eqb b 1) e
    (λ one. let z : a ≡ 1 = eqb-true a 1 one in (inl z, inr (omega arith)))
    (λ one. let z : b ≡ 1 = eqb-true b 1 one in (inr (omega arith), inl z))

module _ (s t : List ℕ) (p : Positive s) (q : Positive t) (agree : can_broadcast s t ≡ true) where
  abbrev rank : ℕ
  rank = max (length s) (length t)

  axes : (j : ℕ) → j < max (length s) (length t)
      → ((extent (aligned (max (length s) (length t)) s) j ≡ 1) ⊎ (extent (aligned (max (length s) (length t)) s) j ≡ extent (broadcast s t) j))
      × ((extent (aligned (max (length s) (length t)) t) j ≡ 1) ⊎ (extent (aligned (max (length s) (length t)) t) j ≡ extent (broadcast s t) j))
  unfolding can_broadcast broadcast
  axes j h =
      meets (extent (aligned rank s) j) (extent (aligned rank t) j) (extent (broadcast s t) j) (aligned_positive rank s p j) (aligned_positive rank t q j)
      (all_below_lem rank (λ (k : ℕ). equal_or_one (extent (aligned rank s) k) (extent (aligned rank t) k)) agree j h)
      (get_or_tab rank (λ (k : ℕ). max (extent (aligned rank s) k) (extent (aligned rank t) k)) j 1 h)

  spreads_left : Spreads s (broadcast s t)
  spreads_left = spread s (broadcast s t) (rw broadcast_length (omega arith)) (rw (broadcast_length s t) (λ j h. (axes j h).0))

  spreads_right : Spreads t (broadcast s t)
  spreads_right = spread t (broadcast s t) (rw broadcast_length (omega arith)) (rw (broadcast_length s t) (λ j h. (axes j h).1))

-- ---- the operands of a binary operation and of a WHERE

module _ (x : Node) (s t u : List ℕ) where
  binary_extents : among x.op binaries ≡ true → result_extents x s t u ≡ broadcast s t
  unfolding result_extents among
  binary_extents =
      for_group (λ (k : ℕ). by_operation k (result_rules x s t u) [] ≡ broadcast s t) x.op binaries
      (refl then refl then refl then refl then refl then refl then refl then refl then refl then tt)

  binary_agree : among x.op binaries ≡ true → shapes_agree x s t u ≡ can_broadcast s t
  unfolding shapes_agree among
  binary_agree =
      for_group (λ (k : ℕ). by_operation k (shape_rules x s t u) false ≡ can_broadcast s t) x.op binaries
      (refl then refl then refl then refl then refl then refl then refl then refl then refl then tt)

  module _ (p : Positive s) (q : Positive t) (agree : shapes_agree x s t u ≡ true) where
    pub binary_spreads : among x.op binaries ≡ true → Spreads s (result_extents x s t u) × Spreads t (result_extents x s t u)
    binary_spreads b =
        let a : can_broadcast s t ≡ true = sym (binary_agree b) ∙ agree in
        rw (binary_extents b) (spreads_left s t p q a, spreads_right s t p q a)

    pub fill_spreads : x.op ≡ FILL → Spreads s (result_extents x s t u) × Spreads t (result_extents x s t u)
    unfolding shapes_agree result_extents among
    fill_spreads w =
        let a : can_broadcast s t ≡ true = rw w at agree in
        rw w (spreads_left s t p q a, spreads_right s t p q a)

    pub where_spreads : Positive u → x.op ≡ WHERE → Spreads s (result_extents x s t u) × Spreads t (result_extents x s t u) × Spreads u (result_extents x s t u)
    unfolding shapes_agree result_extents among
    where_spreads r w =
        let both : (can_broadcast s t && can_broadcast (broadcast s t) u) ≡ true = rw w at agree in
        let a = and_true (can_broadcast s t) (can_broadcast (broadcast s t) u) both in
        let outer = spreads_left (broadcast s t) u (broadcast_positive s t p q) r a.1 in
        rw w
        (spreads_trans (spreads_left s t p q a.0) outer, spreads_trans (spreads_right s t p q a.0) outer, spreads_right (broadcast s t) u (broadcast_positive s t p q) r a.1)
