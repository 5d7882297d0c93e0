-- Rule 8: the tests of shapes, and what they say axis by axis.
use Prim.Native.Nat.{ℕ, ◌+◌, ◌-◌, ◌<◌, ◌≤◌, max}
use mathlib.Core.Path.{◌≡◌, refl, sym, ◌∙◌}
use mathlib.Core.Bool.{Bool, true, false, ◌&&◌, ◌||◌, not}
use mathlib.Core.Logic.{◌⊎◌, inl, inr, ⊎_elim}
use mathlib.Core.List.{List}
use native.Mathlib.Omega.{arith}
use borrow.Author.Tests.{eqb-true, eq-eqb, ltb-true, ltb-false, leb-true, le-leb}
use lib.Dec.{eqb, ltb, leb}
use lib.IntN.{ℤ, pos}
use lib.ListN.{length, get_or}
use Rattle.laws.specs.Lists.{among}
use Rattle.laws.specs.Numbering.{count}
use Rattle.laws.proofs.Booleans.{bool_cases, and_true, and_true_of, or_true, all_below_lem, all_below_of}
use Rattle.laws.proofs.Lists.{get_or_tab}
use Rattle.plan.specs.declared.Node.{Node}
use Rattle.plan.specs.Operations.{by_operation}
use Rattle.plan.specs.Words.{list_of, reads}
use Rattle.plan.proofs.ByOperation.{◌then◌, for_range}
use Rattle.shapes.specs.Rows.{extents_of}
use Rattle.shapes.specs.Rules.{extent, word_of, same_rank, aligned, equal_or_one, can_broadcast, broadcast, same_shape, shape_rules, shapes_agree}
use Rattle.shapes.proofs.Broadcast.{aligned_at, aligned_front}
use Rattle.shapes.proofs.Extents.{broadcast_length}
use Rattle.shapes.proofs.Stacking.{same_shape_lem, stack_agree, stack_second, stack_third, stack_rank}
use Rattle.guarantees.specs.Demand3.{word}
use Rattle.guarantees.specs.Rules.{Exactly, from_last, Broadcasts, Rule8}

-- ---- two extents

abbrev Meet : ℕ → ℕ → Type 0
Meet a b = (a ≡ b) ⊎ ((a ≡ 1) ⊎ (b ≡ 1))

test_meet : (a b : ℕ) → equal_or_one a b ≡ true → Meet a b
test_meet a b e = or_true (eqb a b) _ e (λ z. inl (eqb-true a b z)) (λ z. or_true (eqb a 1) (eqb b 1) z (λ y. inr (inl (eqb-true a 1 y))) (λ y. inr (inr (eqb-true b 1 y))))

meet_test : (a b : ℕ) → Meet a b → equal_or_one a b ≡ true
meet_test a b =
    ⊎_elim (λ z. rw (eq-eqb a b z) refl)
    (⊎_elim
    (λ z. bool_cases (eqb a b) (λ y. rw y refl) (λ y. rw (y, eq-eqb a 1 z) refl))
    (λ z. bool_cases (eqb a b) (λ y. rw y refl) (λ y. rw y (bool_cases (eqb a 1) (λ x. rw x refl) (λ x. rw (x, eq-eqb b 1 z) refl)))))

-- ---- axes from the last

-- extent i from the last of s, 1 where s has no such axis
module _ (n : ℕ) (s : List ℕ) (l : length s ≤ n) (i : ℕ) (h : i < n) where
  pub within : i < length s → extent (aligned n s) (n - 1 - i) ≡ from_last s i
  within q = let z : n - 1 - i ≡ n - length s + (length s - 1 - i) = omega arith in rw z (aligned_at n s (length s - 1 - i))

  pub past : length s ≤ i → extent (aligned n s) (n - 1 - i) ≡ 1
  past q = aligned_front n s (n - 1 - i) (omega arith)

module _ (s t : List ℕ) where
  abbrev n : ℕ
  n = max (length s) (length t)

  broadcast_says : Exactly (can_broadcast s t ≡ true) (Broadcasts s t)
  unfolding can_broadcast
  broadcast_says = (
    λ e i a b.
        let w = test_meet (extent (aligned n s) (n - 1 - i)) (extent (aligned n t) (n - 1 - i)) (all_below_lem n (λ (k : ℕ). equal_or_one (extent (aligned n s) k) (extent (aligned n t) k)) e (n - 1 - i) (omega arith)) in
        rw (within n s (omega arith) i (omega arith) a, within n t (omega arith) i (omega arith) b) at w,
    λ h. all_below_of n (λ (k : ℕ). equal_or_one (extent (aligned n s) k) (extent (aligned n t) k)) (λ k l. meet_test _ _ (at h k l)),
  )
    where
      at : Broadcasts s t → (k : ℕ) → k < max (length s) (length t) → Meet (extent (aligned (max (length s) (length t)) s) k) (extent (aligned (max (length s) (length t)) t) k)
      at h k l =
          let i = n - 1 - k in
          let z : k ≡ n - 1 - i = omega arith in
          bool_cases (ltb i (length s))
          (λ a. bool_cases (ltb i (length t))
          (λ b. rw (z, within n s (omega arith) i (omega arith) (ltb-true i _ a), within n t (omega arith) i (omega arith) (ltb-true i _ b)) (h i (ltb-true i _ a) (ltb-true i _ b)))
          (λ b. inr (inr (rw z (past n t (omega arith) i (omega arith) (ltb-false i _ b))))))
          (λ a. inr (inl (rw z (past n s (omega arith) i (omega arith) (ltb-false i _ a)))))

  -- an axis of both together
  pub last_both : (i : ℕ) → i < max (length s) (length t) → from_last (broadcast s t) i ≡ max (extent (aligned (max (length s) (length t)) s) (max (length s) (length t) - 1 - i)) (extent (aligned (max (length s) (length t)) t) (max (length s) (length t) - 1 - i))
  unfolding broadcast
  last_both i h = rw (broadcast_length s t) (get_or_tab n (λ (k : ℕ). max (extent (aligned n s) k) (extent (aligned n t) k)) (n - 1 - i) 1 (omega arith))

-- ---- three sources

-- the larger of two that meet meets a third where both do
both_meet : (a b c : ℕ) → 1 ≤ a → 1 ≤ b → Meet a b → Meet a c → Meet b c → Meet (max a b) c
both_meet a b c p q ab ac bc =
    ⊎_elim
    (λ z. ⊎_elim (λ y. inl (omega (arith, z, y))) (⊎_elim (λ y. inr (inl (omega (arith, z, y)))) (λ y. inr (inr y))) ac)
    (⊎_elim
    (λ z. ⊎_elim (λ y. inl (omega (arith, z, y))) (⊎_elim (λ y. inr (inl (omega (arith, z, y)))) (λ y. inr (inr y))) bc)
    (λ z. ⊎_elim (λ y. inl (omega (arith, z, y))) (⊎_elim (λ y. inr (inl (omega (arith, z, y)))) (λ y. inr (inr y))) ac))
    ab

meet_both : (a b c : ℕ) → 1 ≤ a → 1 ≤ b → Meet a b → Meet (max a b) c → Meet a c × Meet b c
meet_both a b c p q ab m =
    ⊎_elim
    (λ y.
    ⊎_elim (λ z. (inl (omega (arith, y, z)), inl (omega (arith, y, z))))
    (⊎_elim (λ z. (inr (inl z), inl (omega (arith, y, z)))) (λ z. (inl (omega (arith, y, z)), inr (inl z)))) ab)
    (⊎_elim (λ y. (inr (inl (omega (arith, y, p, q))), inr (inl (omega (arith, y, p, q))))) (λ y. (inr (inr y), inr (inr y))))
    m

module _ (s t u : List ℕ) (ps : (k : ℕ) → 1 ≤ get_or s k 1) (pt : (k : ℕ) → 1 ≤ get_or t k 1) where
  abbrev m : ℕ
  m = max (length s) (length t)

  -- extent i from the last of each, 1 past its rank
  abbrev side_of : List ℕ → ℕ → ℕ
  side_of v i = extent (aligned m v) (m - 1 - i)

  some : (v : List ℕ) → ((k : ℕ) → 1 ≤ get_or v k 1) → length v ≤ max (length s) (length t) → (i : ℕ) → i < max (length s) (length t)
      → 1 ≤ extent (aligned (max (length s) (length t)) v) (max (length s) (length t) - 1 - i)
  some v p l i h =
      bool_cases (ltb i (length v)) (λ a. rw (within m v l i h (ltb-true i _ a)) (p (length v - 1 - i))) (λ a. rw (past m v l i h (ltb-false i _ a)) (omega arith))

  -- that they meet, of every axis that either has
  sides_meet : Broadcasts s t → (i : ℕ) → i < max (length s) (length t) → Meet (side_of s i) (side_of t i)
  sides_meet h i l =
      bool_cases (ltb i (length s))
      (λ a. bool_cases (ltb i (length t))
      (λ b. rw (within m s (omega arith) i l (ltb-true i _ a), within m t (omega arith) i l (ltb-true i _ b)) (h i (ltb-true i _ a) (ltb-true i _ b)))
      (λ b. inr (inr (past m t (omega arith) i l (ltb-false i _ b)))))
      (λ a. inr (inl (past m s (omega arith) i l (ltb-false i _ a))))

  three_say : Exactly ((can_broadcast s t && can_broadcast (broadcast s t) u) ≡ true) (Broadcasts s t × Broadcasts s u × Broadcasts t u)
  three_say = (
    λ e.
        let w = and_true (can_broadcast s t) (can_broadcast (broadcast s t) u) e in
        let st = (broadcast_says s t).0 w.0 in
        let bu = (broadcast_says (broadcast s t) u).0 w.1 in (
          st,
          λ i a b. rw (within m s (omega arith) i (omega arith) a) at (pairs st bu i (omega arith) b).0,
          λ i a b. rw (within m t (omega arith) i (omega arith) a) at (pairs st bu i (omega arith) b).1,
        ),
    λ h.
        and_true_of _ _ ((broadcast_says s t).1 h.0)
        ((broadcast_says (broadcast s t) u).1 (λ i a b.
        let l : i < m = rw (broadcast_length s t) at a in
        rw (last_both s t i l) (both_meet _ _ _ (some s ps (omega arith) i l) (some t pt (omega arith) i l) (sides_meet h.0 i l) (side s (omega arith) h.1 i l b) (side t (omega arith) h.2 i l b)))),
  )
    where
      pairs : Broadcasts s t → Broadcasts (broadcast s t) u → (i : ℕ) → i < max (length s) (length t) → i < length u → Meet (side_of s i) (from_last u i) × Meet (side_of t i) (from_last u i)
      pairs st bu i l b =
          meet_both (side_of s i) (side_of t i) (from_last u i) (some s ps (omega arith) i l) (some t pt (omega arith) i l) (sides_meet st i l)
          (rw (last_both s t i l) at (bu i (rw (broadcast_length s t) l) b))

      side : (v : List ℕ) → length v ≤ max (length s) (length t) → Broadcasts v u → (i : ℕ) → i < max (length s) (length t) → i < length u → Meet (side_of v i) (from_last u i)
      side v k h i l b =
          bool_cases (ltb i (length v)) (λ a. rw (within m v k i l (ltb-true i _ a)) (h i (ltb-true i _ a) b)) (λ a. inr (inl (past m v k i l (ltb-false i _ a))))

-- ---- the operations by the rows of rule 8

data Row8 (o : ℕ) : Type 0 where
  free : (o < 4) ⊎ ((o ≡ 8) ⊎ ((o ≡ 19) ⊎ ((o ≡ 20) ⊎ (o ≡ 22)))) → Row8 o
  reshapes : o ≡ 4 → Row8 o
  expands : o ≡ 5 → Row8 o
  pads : o ≡ 6 → Row8 o
  shrinks : o ≡ 7 → Row8 o
  two : 9 ≤ o → o ≤ 17 → Row8 o
  three : o ≡ 18 → Row8 o
  fills : o ≡ 21 → Row8 o
  stacks : o ≡ 23 → Row8 o

which : (o : ℕ) → o ≤ 23 → Row8 o
which o h =
    for_range Row8 o 0 24
    (free (inl (omega arith)) then free (inl (omega arith)) then free (inl (omega arith)) then free (inl (omega arith)) then reshapes refl then expands refl then pads refl then shrinks refl then free (inr (inl refl))
    then two (omega arith) (omega arith) then two (omega arith) (omega arith) then two (omega arith) (omega arith) then two (omega arith) (omega arith) then two (omega arith) (omega arith) then two (omega arith) (omega arith)
    then two (omega arith) (omega arith) then two (omega arith) (omega arith) then two (omega arith) (omega arith) then three refl then free (inr (inr (inl refl))) then free (inr (inr (inr (inl refl)))) then fills refl then free (inr (inr (inr (inr refl)))) then stacks refl then tt) (omega arith) (omega arith)

-- same rank, and a test of each axis
axes_say : (s r : List ℕ) (p : ℕ → Bool) (P : ℕ → Type 0) → ((k : ℕ) → k < length s → Exactly (p k ≡ true) (P k)) → Exactly (same_rank s r p ≡ true) ((length s ≡ length r) × ((k : ℕ) → k < length s → P k))
unfolding same_rank
axes_say s r p P h = (
  λ e. let w = and_true (eqb (length s) (length r)) _ e in (eqb-true _ _ w.0, λ k l. (h k l).0 (all_below_lem (length s) p w.1 k l)),
  λ w. and_true_of _ _ (eq-eqb _ _ w.0) (all_below_of (length s) p (λ k l. (h k l).1 (w.1 k l))),
)

one_or : (a b : ℕ) → Exactly ((eqb a 1 || eqb a b) ≡ true) ((a ≡ 1) ⊎ (a ≡ b))
one_or a b = (
  λ e. or_true (eqb a 1) (eqb a b) e (λ z. inl (eqb-true a 1 z)) (λ z. inr (eqb-true a b z)),
  ⊎_elim (λ z. rw (eq-eqb a 1 z) refl) (λ z. bool_cases (eqb a 1) (λ y. rw y refl) (λ y. rw (y, eq-eqb a b z) refl)),
)

shape_says : (s t : List ℕ) → Exactly (same_shape s t ≡ true) (t ≡ s)
unfolding same_shape
shape_says s t = (
  same_shape_lem s t,
  λ e. rw e ((axes_say s s _ (λ (k : ℕ). get_or s k 1 ≡ get_or s k 1) (λ k l. (λ _. refl, λ _. eq-eqb (get_or s k 1) (get_or s k 1) refl))).1 (refl, λ k l. refl)),
)

at_most : (a b : ℕ) → Exactly (leb a b ≡ true) (a ≤ b)
at_most a b = (leb-true a b, le-leb a b)

module _ (table : List ℤ) (n : ℕ) (x : Node) (o : ℕ) (is : x.op ≡ o) (known : o ≤ 23) (s t u r : List ℕ) (offset : ℕ → ℕ) (ps : (k : ℕ) → 1 ≤ get_or s k 1) (pt : (k : ℕ) → 1 ≤ get_or t k 1)
    (row : 4 ≤ o → o ≤ 7 → extents_of (list_of x.rowa) ≡ r) (offsets : (o ≡ 6) ⊎ (o ≡ 7) → (k : ℕ) → k < length s → word_of (list_of x.rowb) k ≡ offset k)
    (third : o ≡ 23 → Exactly (reads x 3 ≡ true) (word table n 5 ≡ pos 3)) where
  row_4 : o ≡ 4 → shapes_agree x s t u ≡ eqb (count s) (count r)
  unfolding shapes_agree among
  row_4 z = rw (is, z, row (omega (arith, z)) (omega (arith, z))) refl

  row_5 : o ≡ 5 → shapes_agree x s t u ≡ same_rank s r (λ (k : ℕ). eqb (extent s k) 1 || eqb (extent s k) (extent r k))
  unfolding shapes_agree among
  row_5 z = rw (is, z, row (omega (arith, z)) (omega (arith, z))) refl

  row_6 : o ≡ 6 → shapes_agree x s t u ≡ same_rank s r (λ (k : ℕ). leb (word_of (list_of x.rowb) k + extent s k) (extent r k))
  unfolding shapes_agree among
  row_6 z = rw (is, z, row (omega (arith, z)) (omega (arith, z))) refl

  row_7 : o ≡ 7 → shapes_agree x s t u ≡ same_rank s r (λ (k : ℕ). leb (word_of (list_of x.rowb) k + extent r k) (extent s k))
  unfolding shapes_agree among
  row_7 z = rw (is, z, row (omega (arith, z)) (omega (arith, z))) refl

  row_two : 9 ≤ o → o ≤ 17 → shapes_agree x s t u ≡ can_broadcast s t
  unfolding shapes_agree among
  row_two low high =
      for_range (λ (k : ℕ). by_operation k (shape_rules x s t u) false ≡ can_broadcast s t) x.op 9 9
      (refl then refl then refl then refl then refl then refl then refl then refl then refl then tt) (rw is low) (rw is (omega arith))

  row_18 : o ≡ 18 → shapes_agree x s t u ≡ (can_broadcast s t && can_broadcast (broadcast s t) u)
  unfolding shapes_agree among
  row_18 z = rw (is, z) refl

  row_21 : o ≡ 21 → shapes_agree x s t u ≡ can_broadcast s t
  unfolding shapes_agree among
  row_21 z = rw (is, z) refl

  row_free : (o < 4) ⊎ ((o ≡ 8) ⊎ ((o ≡ 19) ⊎ ((o ≡ 20) ⊎ (o ≡ 22)))) → shapes_agree x s t u ≡ true
  unfolding shapes_agree among
  row_free =
      ⊎_elim
      (λ (l : o < 4). for_range (λ (k : ℕ). by_operation k (shape_rules x s t u) false ≡ true) x.op 0 4 (refl then refl then refl then refl then tt) (omega arith) (rw is l))
      (⊎_elim (λ z. rw (is, z) refl) (⊎_elim (λ z. rw (is, z) refl) (⊎_elim (λ z. rw (is, z) refl) (λ z. rw (is, z) refl))))

  expand_says : Exactly (same_rank s r (λ (k : ℕ). eqb (extent s k) 1 || eqb (extent s k) (extent r k)) ≡ true) ((length s ≡ length r) × ((k : ℕ) → k < length s → (get_or s k 1 ≡ 1) ⊎ (get_or s k 1 ≡ get_or r k 1)))
  expand_says = axes_say s r _ _ (λ k l. one_or (get_or s k 1) (get_or r k 1))

  pad_says : o ≡ 6 → Exactly (same_rank s r (λ (k : ℕ). leb (word_of (list_of x.rowb) k + extent s k) (extent r k)) ≡ true) ((length s ≡ length r) × ((k : ℕ) → k < length s → offset k + get_or s k 1 ≤ get_or r k 1))
  pad_says z = axes_say s r _ _ (λ k l. rw (offsets (inl z) k l) (at_most (offset k + get_or s k 1) (get_or r k 1)))

  shrink_says : o ≡ 7 → Exactly (same_rank s r (λ (k : ℕ). leb (word_of (list_of x.rowb) k + extent r k) (extent s k)) ≡ true) ((length s ≡ length r) × ((k : ℕ) → k < length s → offset k + get_or r k 1 ≤ get_or s k 1))
  shrink_says z = axes_say s r _ _ (λ k l. rw (offsets (inr z) k l) (at_most (offset k + get_or r k 1) (get_or s k 1)))

  stack_says : o ≡ 23 → Exactly (shapes_agree x s t u ≡ true) ((t ≡ s) × (length s ≤ 3) × (word table n 5 ≡ pos 3 → u ≡ s))
  stack_says z = (
    λ e. (stack_second x s t u (is ∙ z) e, stack_rank x s t u (is ∙ z) e, λ w. stack_third x s t u (is ∙ z) e ((third z).1 w)),
    λ w.
        stack_agree x s t u (is ∙ z)
        ∙ and_true_of (same_shape s t) _ ((shape_says s t).1 w.0)
        (and_true_of (not (reads x 3) || same_shape s u) (leb (length s) 3) (bool_cases (reads x 3) (λ b. rw b ((shape_says s u).1 (w.2 ((third z).0 b)))) (λ b. rw b refl)) (le-leb (length s) 3 w.1)),
  )

  pub shapes_say : Exactly (shapes_agree x s t u ≡ true) (Rule8 table n o s t u r offset)
  shapes_say = (
    λ e.
        record {
          reshape = λ z. eqb-true (count s) (count r) (sym (row_4 z) ∙ e);
          expand = λ z. expand_says.0 (sym (row_5 z) ∙ e);
          pad = λ z. (pad_says z).0 (sym (row_6 z) ∙ e);
          shrink = λ z. (shrink_says z).0 (sym (row_7 z) ∙ e);
          two = λ low high. (broadcast_says s t).0 (sym (row_two low high) ∙ e);
          three = λ z. (three_say s t u ps pt).0 (sym (row_18 z) ∙ e);
          fill = λ z. (broadcast_says s t).0 (sym (row_21 z) ∙ e);
          stack = λ z. let w = (stack_says z).0 e in (w.0, w.1);
          stack_third = λ z. ((stack_says z).0 e).2;
        },
    λ w. decided w (which o known),
  )
    where
      decided : Rule8 table n o s t u r offset → Row8 o → shapes_agree x s t u ≡ true
      decided w (free z) = row_free z
      decided w (reshapes z) = row_4 z ∙ eq-eqb _ _ (w.reshape z)
      decided w (expands z) = row_5 z ∙ expand_says.1 (w.expand z)
      decided w (pads z) = row_6 z ∙ (pad_says z).1 (w.pad z)
      decided w (shrinks z) = row_7 z ∙ (shrink_says z).1 (w.shrink z)
      decided w (two low high) = row_two low high ∙ (broadcast_says s t).1 (w.two low high)
      decided w (three z) = row_18 z ∙ (three_say s t u ps pt).1 (w.three z)
      decided w (fills z) = row_21 z ∙ (broadcast_says s t).1 (w.fill z)
      decided w (stacks z) = (stack_says z).1 ((w.stack z).0, (w.stack z).1, w.stack_third z)
