-- The derived record in the paper's words.
use Prim.Native.Nat.{ℕ, suc, ◌+◌, ◌*◌, ◌-◌, ◌<◌, ◌≤◌, max}
use mathlib.Core.Path.{◌≡◌, refl, ap, sym, ◌∙◌}
use mathlib.Core.Bool.{Bool, true, false, cond}
use mathlib.Core.Logic.{◌⊎◌, inl, inr, ⊎_elim}
use mathlib.Core.List.{List, [], ◌∷◌}
use native.Mathlib.Omega.{arith}
use borrow.Author.Tests.{eq-eqb, ne_eqb, eqb-false}
use lib.IntN.{ℤ, pos, negsuc}
use lib.Signed.{◌≤ℤ◌, ◌<ℤ◌, lt_z, le_z}
use lib.Dec.{eqb}
use lib.ListN.{length, get_or, take}
use Rattle.laws.specs.Lists.{tab, among}
use Rattle.laws.specs.Numbering.{count}
use Rattle.laws.specs.Integers.{same_z, min_z, max_z, min4, max4, floor_div}
use Rattle.laws.proofs.Booleans.{bool_cases, and_true}
use Rattle.laws.proofs.Lists.{get_or_tab, get_or_map, tab_same}
use native.Mathlib.Nat.{add-zero, zero-add, add_assoc}
use lib.Seq.{get_or-take, length-take-le}
use Rattle.laws.proofs.Extremes.{min_z_of, max_z_of, min_z_le_left, min_z_le_right, le_max_z_left, le_max_z_right, min4_below, max4_above}
use Rattle.laws.proofs.Floor.{floor_up, floor_down}
use Rattle.laws.proofs.Order.{same_is, is_same}
use Rattle.laws.proofs.Parts.{arithℤ, lt_z_false, le_z_true, le_lt_z, le_le_z}
use Rattle.plan.specs.declared.Interval.{Interval}
use Rattle.plan.specs.declared.Node.{Node}
use Rattle.plan.specs.Operations.{by_operation}
use Rattle.plan.specs.Types.{between}
use Rattle.plan.specs.Words.{size_of, node_at, list_of}
use Rattle.plan.proofs.ByOperation.{◌then◌, for_range}
use Rattle.shapes.specs.Rows.{extents_of}
use Rattle.shapes.specs.Rules.{extent, word_of, flagged, broadcast, permuted, reduced, gathered_extents, result_rules, result_extents}
use Rattle.shapes.proofs.Extents.{broadcast_length, broadcast_positive, reduced_length, permuted_length}
use Rattle.bounds.specs.Rules.{corners, add_bounds, mul_bounds, max_bounds, idiv_bounds, mod_bounds, min_bounds, where_bounds, cmplt_bounds, disjoint, all_ends_equal, cmpne_bounds, gathered_count, reduce_bounds, stack_bounds, bounds_rules, result_bounds}
use Rattle.rules.specs.Rules.{Derived, join_device, derived_of, result_type}
use Rattle.rules.proofs.DeviceRule.{device_none, device_param, device_load, device_joined}
use Rattle.verifier.specs.Meets.{rule_holds}
use Rattle.verifier.specs.Check.{first, second, third, derive_node}
use Rattle.guarantees.specs.Demand3.{word, as_count}
use Rattle.guarantees.specs.Rules.{ReadsSource, source, Rule9}
use Rattle.guarantees.specs.Values.{Floor}
use Rattle.guarantees.specs.Records.{TypeIs, DeviceIs, MaxOf, MinOf, LeastOf, GreatestOf, Extremes, Between, if_flagged, flagged_product, BoundsAre, Joined, ExtentsAre, RecordsSay}
use Rattle.guarantees.proofs.Words.{size_is, as_count_lem, first_node, second_node, third_node, number_word, low_word, high_word, dtype_size, device_size, row_a_at}
use Rattle.guarantees.proofs.RowWords.{row_is}
use Rattle.guarantees.proofs.ShapeWords.{within, past, last_both}
use Rattle.guarantees.proofs.Rules.{Share, agree_pairs, number_is, op_is, is_operation_lem, reads_says, reads_not, reads_or, Device, device_of, says_9, first_is, second_is, third_is, reads_1, reads_2, reads_3}

-- ---- least and greatest

max_of : (p q : ℤ) → MaxOf (max_z p q) p q
max_of p q = (le_max_z_left p q, le_max_z_right p q, max_z_of (λ (z : ℤ). (z ≡ p) ⊎ (z ≡ q)) p q (inl refl) (inr refl))

min_of : (p q : ℤ) → MinOf (min_z p q) p q
min_of p q = (min_z_le_left p q, min_z_le_right p q, min_z_of (λ (z : ℤ). (z ≡ p) ⊎ (z ≡ q)) p q (inl refl) (inr refl))

least_of : (p q r : ℤ) → LeastOf (min_z (min_z p q) r) p q r
least_of p q r = (
  omega (arithℤ, min_z_le_left p q, min_z_le_left (min_z p q) r),
  omega (arithℤ, min_z_le_right p q, min_z_le_left (min_z p q) r),
  min_z_le_right (min_z p q) r,
  min_z_of One (min_z p q) r (min_z_of One p q (inl refl) (inr (inl refl))) (inr (inr refl)),
)
  where
    One : ℤ → Type 0
    One z = (z ≡ p) ⊎ ((z ≡ q) ⊎ (z ≡ r))

greatest_of : (p q r : ℤ) → GreatestOf (max_z (max_z p q) r) p q r
greatest_of p q r = (
  omega (arithℤ, le_max_z_left p q, le_max_z_left (max_z p q) r),
  omega (arithℤ, le_max_z_right p q, le_max_z_left (max_z p q) r),
  le_max_z_right (max_z p q) r,
  max_z_of One (max_z p q) r (max_z_of One p q (inl refl) (inr (inl refl))) (inr (inr refl)),
)
  where
    One : ℤ → Type 0
    One z = (z ≡ p) ⊎ ((z ≡ q) ⊎ (z ≡ r))

extremes : (p q r s : ℤ) → Extremes (min4 p q r s) (max4 p q r s) p q r s
unfolding min4 max4
extremes p q r s =
    let b = min4_below p q r s in
    let a = max4_above p q r s in
    record {
      below = (b.of_0, b.of_1, b.of_2, b.of_3);
      above = (a.of_0, a.of_1, a.of_2, a.of_3);
      least = min_z_of One (min_z p q) (min_z r s) (min_z_of One p q (inl refl) (inr (inl refl))) (min_z_of One r s (inr (inr (inl refl))) (inr (inr (inr refl))));
      greatest = max_z_of One (max_z p q) (max_z r s) (max_z_of One p q (inl refl) (inr (inl refl))) (max_z_of One r s (inr (inr (inl refl))) (inr (inr (inr refl))));
    }
  where
    One : ℤ → Type 0
    One z = (z ≡ p) ⊎ ((z ≡ q) ⊎ ((z ≡ r) ⊎ (z ≡ s)))

floor : (x y : ℤ) → Floor x y (floor_div x y)
floor x y = (floor_up x y, floor_down x y)

ends : {d e : Interval} → d ≡ e → Between d e.low e.high
ends q = (ap (λ (i : Interval). i.low) q, ap (λ (i : Interval). i.high) q)

sized : (w : ℤ) → pos 0 ≤ℤ w → pos (size_of w) ≡ w
unfolding size_of
sized (pos k) h = refl
sized (negsuc k) h = absurd (omega (arithℤ, h))

-- tests of order
lt_true : {x y : ℤ} → x <ℤ y → lt_z x y ≡ true
lt_true {x} {y} l = bool_cases (lt_z x y) (λ e. e) (λ e. absurd (omega (arithℤ, l, lt_z_false x y e)))

lt_false : {x y : ℤ} → x <ℤ y → le_z y x ≡ false
lt_false {x} {y} l = bool_cases (le_z y x) (λ e. absurd (omega (arithℤ, l, le_z_true y x e))) (λ e. e)

-- ---- devices that agree

abbrev Joins : ℕ → ℕ → ℕ → Type 0
Joins d e f =
    ((d ≡ 0 → ⊥) → join_device (join_device d e) f ≡ d) × ((e ≡ 0 → ⊥) → join_device (join_device d e) f ≡ e) × ((f ≡ 0 → ⊥) → join_device (join_device d e) f ≡ f)
    × (d ≡ 0 → e ≡ 0 → f ≡ 0 → join_device (join_device d e) f ≡ 0)

joins : (d e f : ℕ) → Share d e → Share d f → Share e f → Joins d e f
unfolding join_device
joins d e f de df ef = (
  λ y. rw (ne_eqb d 0 y, ne_eqb d 0 y) refl,
  λ y. bool_cases (eqb d 0) (λ z. rw (z, ne_eqb e 0 y) refl) (λ z. rw (z, z) (other (eqb-false d 0 z) y de)),
  λ y. bool_cases (eqb d 0)
      (λ z. rw z (bool_cases (eqb e 0) (λ w. rw w refl) (λ w. rw w (other (eqb-false e 0 w) y ef))))
      (λ z. rw (z, z) (other (eqb-false d 0 z) y df)),
  λ x y z. rw (x, y, z) refl,
)
  where
    other : {a b : ℕ} → (a ≡ 0 → ⊥) → (b ≡ 0 → ⊥) → Share a b → a ≡ b
    other p r = ⊎_elim (λ z. absurd (p z)) (⊎_elim (λ z. absurd (r z)) (λ z. z))

-- ---- shapes

module _ (x : Node) (s u v : List ℕ) (k : ℕ) (is : x.op ≡ k) where
  shape_row : result_extents x s u v ≡ by_operation k (result_rules x s u v) []
  unfolding result_extents
  shape_row = ap (λ (j : ℕ). by_operation j (result_rules x s u v) []) is

-- "the larger wins"
joined : (s u : List ℕ) → ((k : ℕ) → 1 ≤ get_or s k 1) → ((k : ℕ) → 1 ≤ get_or u k 1) → Joined s u (broadcast s u)
joined s u p q =
    record {
      rank = broadcast_length s u;
      both = λ i a b. last_both s u i (omega arith) ∙ rw (within m s (omega arith) i (omega arith) a, within m u (omega arith) i (omega arith) b) refl;
      first = λ i a b. last_both s u i (omega arith) ∙ rw (within m s (omega arith) i (omega arith) a, past m u (omega arith) i (omega arith) b) (omega (arith, p (length s - 1 - i)));
      second = λ i a b. last_both s u i (omega arith) ∙ rw (past m s (omega arith) i (omega arith) a, within m u (omega arith) i (omega arith) b) (omega (arith, q (length u - 1 - i)));
    }
  where
    m : ℕ
    m = max (length s) (length u)

-- PERMUTE and REDUCE
permuted_says : (s row : List ℕ) → length row ≡ 4 → length s ≤ 4 → length (permuted s row) ≡ length s
permuted_says s row long h = permuted_length s row ∙ omega (arith, long)

permuted_at : (s row : List ℕ) → length row ≡ 4 → length s ≤ 4 → (k m : ℕ) → k < length s → word_of row k ≡ m → get_or (permuted s row) k 1 ≡ get_or s m 1
unfolding permuted
permuted_at s row long h k m l w =
    let there : k < length (take (length s) row) = rw (length-take-le (length s) row (omega (arith, long))) l in
    get_or_map (λ (a : ℕ). extent s a) (take (length s) row) k 1 0 there ∙ ap (λ (a : ℕ). extent s a) (get_or-take (length s) row k 0 l ∙ w)

reduced_at : (s flags : List ℕ) (k : ℕ) → k < length s → (word_of flags k ≡ 1 → get_or (reduced s flags) k 1 ≡ 1) × ((word_of flags k ≡ 1 → ⊥) → get_or (reduced s flags) k 1 ≡ get_or s k 1)
unfolding reduced
reduced_at s flags k l =
    let at = get_or_tab (length s) (λ (k : ℕ). cond (flagged flags k) 1 (extent s k)) k 1 l in
    (λ f. at ∙ rw (eq-eqb (word_of flags k) 1 f) refl, λ f. at ∙ rw (ne_eqb (word_of flags k) 1 f) refl)

-- "n is the product of flagged extents": from word k on, of axes j, j + 1, ..
flagged_from : (t : List ℤ) (n : ℕ) (flags : List ℕ) (s : List ℕ) (j k : ℕ) → ((i : ℕ) → i < length s → word_of flags (j + i) ≡ as_count (word t n (k + i)))
    → count (tab (length s) (λ (i : ℕ). cond (flagged flags (j + i)) (extent s i) 1)) ≡ flagged_product t n k s
unfolding count tab flagged_product
flagged_from t n flags [] j k h = refl
flagged_from t n flags (e ∷ s) j k h =
    let here : word_of flags j ≡ as_count (word t n k) = rw (add-zero, add-zero) at (h 0 (omega arith)) in
    let rest = flagged_from t n flags s (j + 1) (k + 1) (λ i l. rw (add_assoc, add_assoc, one_more i) (h (suc i) (omega arith))) in
    rw (add-zero, here)
    (ap (λ (m : ℕ). if_flagged (word t n k) e * m) (ap count (tab_same (length s) _ _ (λ i l. rw (next i) refl)) ∙ rest))
  where
    one_more : (i : ℕ) → 1 + i ≡ suc i
    one_more i = omega arith

    next : (i : ℕ) → j + suc i ≡ j + 1 + i
    next i = omega arith

-- ---- the rows of the bounds, of any node

module _ (x : Node) (s : List ℕ) (a b c : Interval) (k : ℕ) (is : x.op ≡ k) where
  bounds_row : result_bounds x s a b c ≡ by_operation k (bounds_rules x s a b c) (between (pos 0) (pos 0))
  unfolding result_bounds
  bounds_row = ap (λ (j : ℕ). by_operation j (bounds_rules x s a b c) (between (pos 0) (pos 0))) is

-- CMPLT and CMPNE
less_row : (a b : Interval) → (a.high <ℤ b.low → cmplt_bounds a b ≡ between (pos 1) (pos 1)) × (b.low ≤ℤ a.high → b.high ≤ℤ a.low → cmplt_bounds a b ≡ between (pos 0) (pos 0))
    × (b.low ≤ℤ a.high → a.low <ℤ b.high → cmplt_bounds a b ≡ between (pos 0) (pos 1))
unfolding cmplt_bounds
less_row a b = (
  λ l. rw (lt_true l) refl,
  λ l m. rw (le_lt_z l, le_le_z m) refl,
  λ l m. rw (le_lt_z l, lt_false m) refl,
)

differs_row : (a b : Interval) → ((a.high <ℤ b.low) ⊎ (b.high <ℤ a.low) → cmpne_bounds a b ≡ between (pos 1) (pos 1))
    × (a.low ≡ a.high → b.low ≡ b.high → a.low ≡ b.low → cmpne_bounds a b ≡ between (pos 0) (pos 0))
    × (b.low ≤ℤ a.high → a.low ≤ℤ b.high → ((a.low ≡ a.high) × (b.low ≡ b.high) × (a.low ≡ b.low) → ⊥) → cmpne_bounds a b ≡ between (pos 0) (pos 1))
unfolding cmpne_bounds disjoint all_ends_equal
differs_row a b = (
  ⊎_elim (λ l. rw (lt_true l) refl) (λ l. bool_cases (lt_z a.high b.low) (λ e. rw e refl) (λ e. rw (e, lt_true l) refl)),
  λ p q r. rw (← p, ← q, r, is_same b.low, le_lt_z (same_le b.low)) refl,
  λ l m n. rw (le_lt_z l, le_lt_z m) (cond_false (all_ends_equal a b) (λ e. n (three e))),
)
  where
    same_le : (z : ℤ) → z ≤ℤ z
    same_le z = omega arithℤ

    cond_false : (t : Bool) → (t ≡ true → ⊥) → cond t (between (pos 0) (pos 0)) (between (pos 0) (pos 1)) ≡ between (pos 0) (pos 1)
    cond_false t h = bool_cases t (λ e. absurd (h e)) (λ e. rw e refl)

    three : all_ends_equal a b ≡ true → (a.low ≡ a.high) × (b.low ≡ b.high) × (a.low ≡ b.low)
    three e =
        let f = and_true (same_z a.low a.high) _ e in
        let g = and_true (same_z b.low b.high) (same_z a.low b.low) f.1 in
        (same_is f.0, same_is g.0, same_is g.1)

-- ---- the bounds of node n

module _ (t : List ℤ) (n : ℕ) (earlier : List Derived) (o : ℕ) (q : word t n 0 ≡ pos o) (known : o ≤ 23) where
  abbrev d : Interval
  d = (derive_node t n earlier).bounds

  abbrev a : Interval
  a = (source t n earlier 1).bounds

  abbrev b : Interval
  b = (source t n earlier 2).bounds

  abbrev c : Interval
  c = (source t n earlier 3).bounds

  from_two : ((9 ≤ o) × (o ≤ 18)) ⊎ ((o ≡ 21) ⊎ (o ≡ 23)) → 2 ≤ o
  from_two = ⊎_elim (λ (w : (9 ≤ o) × (o ≤ 18)). omega (arith, w.0)) (⊎_elim (λ z. omega (arith, z)) (λ z. omega (arith, z)))

  -- the row of operation k, with the sources that it reads
  none_used : (k : ℕ) → o ≡ k → (derive_node t n earlier).bounds ≡ by_operation k (bounds_rules (node_at t n) (first (node_at t n) earlier).extents (first (node_at t n) earlier).bounds (second (node_at t n) earlier).bounds (third (node_at t n) earlier).bounds) (between (pos 0) (pos 0))
  unfolding derive_node derived_of
  none_used k z = bounds_row (node_at t n) _ _ _ _ k (op_is t n earlier o q known ∙ z)

  one_used : (k : ℕ) → o ≡ k → 2 ≤ o → (derive_node t n earlier).bounds
      ≡ by_operation k (bounds_rules (node_at t n) (source t n earlier 1).extents (source t n earlier 1).bounds (second (node_at t n) earlier).bounds (third (node_at t n) earlier).bounds) (between (pos 0) (pos 0))
  one_used k z h = none_used k z ∙ rw (first_is t n earlier o q known (reads_1 t n earlier o q known h)) refl

  two_used : (k : ℕ) → o ≡ k → ((9 ≤ o) × (o ≤ 18)) ⊎ ((o ≡ 21) ⊎ (o ≡ 23)) → (derive_node t n earlier).bounds
      ≡ by_operation k (bounds_rules (node_at t n) (source t n earlier 1).extents (source t n earlier 1).bounds (source t n earlier 2).bounds (third (node_at t n) earlier).bounds) (between (pos 0) (pos 0))
  two_used k z h = one_used k z (from_two h) ∙ rw (second_is t n earlier o q known (reads_2 t n earlier o q known h)) refl

  three_used : (k : ℕ) → o ≡ k → ((9 ≤ o) × (o ≤ 18)) ⊎ ((o ≡ 21) ⊎ (o ≡ 23)) → (o ≡ 18) ⊎ ((o ≡ 23) × (word t n 5 ≡ pos 3)) → (derive_node t n earlier).bounds
      ≡ by_operation k (bounds_rules (node_at t n) (source t n earlier 1).extents (source t n earlier 1).bounds (source t n earlier 2).bounds (source t n earlier 3).bounds) (between (pos 0) (pos 0))
  three_used k z h w = two_used k z h ∙ rw (third_is t n earlier o q known (reads_3 t n earlier o q known w)) refl

  two_at : (k : ℕ) → 9 ≤ k → k ≤ 17 → o ≡ k → (derive_node t n earlier).bounds
      ≡ by_operation k (bounds_rules (node_at t n) (source t n earlier 1).extents (source t n earlier 1).bounds (source t n earlier 2).bounds (third (node_at t n) earlier).bounds) (between (pos 0) (pos 0))
  two_at k l h z = two_used k z (inl (omega (arith, z), omega (arith, z)))

  kept_at : ((2 ≤ o) × (o ≤ 8)) ⊎ (o ≡ 20) → Between (derive_node t n earlier).bounds (source t n earlier 1).bounds.low (source t n earlier 1).bounds.high
  unfolding among
  kept_at =
      ⊎_elim
      (λ (h : (2 ≤ o) × (o ≤ 8)).
      for_range (λ (k : ℕ). o ≡ k → Between d a.low a.high) o 2 7
      ((λ z. ends (one_used 2 z h.0)) then (λ z. ends (one_used 3 z h.0)) then (λ z. ends (one_used 4 z h.0)) then (λ z. ends (one_used 5 z h.0)) then (λ z. ends (one_used 6 z h.0)) then (λ z. ends (one_used 7 z h.0))
      then (λ z. ends (one_used 8 z h.0)) then tt) h.0 (omega (arith, h.1)) refl)
      (λ z. ends (one_used 20 z (omega (arith, z))))

  -- with number 2 a STACK does not read word 3
  of_two : o ≡ 23 → word t n 5 ≡ pos 2 → ReadsSource t n o 3 → ⊥
  of_two z w u = absurd (omega (arith, (number_is t n earlier 2 (omega arith)).1 w, (number_is t n earlier 3 (omega arith)).1 (u.1 z refl)))

  pair_at : o ≡ 23 → word t n 5 ≡ pos 2 → (derive_node t n earlier).bounds ≡ where_bounds (source t n earlier 1).bounds (source t n earlier 2).bounds
  unfolding among stack_bounds
  pair_at z w =
      two_used 23 z (inr (inr z)) ∙ ap (λ (has : Bool). stack_bounds has a b (third (node_at t n) earlier).bounds) (reads_not t n earlier o q known 3 (omega arith) (omega arith) (of_two z w))

  triple_at : o ≡ 23 → word t n 5 ≡ pos 3 → (derive_node t n earlier).bounds ≡ where_bounds (where_bounds (source t n earlier 1).bounds (source t n earlier 2).bounds) (source t n earlier 3).bounds
  unfolding among stack_bounds
  triple_at z w =
      three_used 23 z (inr (inr z)) (inr (z, w))
      ∙ ap (λ (has : Bool). stack_bounds has a b c) ((reads_says t n earlier o q known 3 (omega arith) (omega arith)).1 (reads_3 t n earlier o q known (inr (z, w))))

  module _ (flagged : gathered_count (source t n earlier 1).extents (list_of (node_at t n).rowa) ≡ flagged_product t n 9 (source t n earlier 1).extents) where
    bounds_are : BoundsAre t n o (source t n earlier 1).bounds (source t n earlier 2).bounds (source t n earlier 3).bounds (derive_node t n earlier).bounds (source t n earlier 1).extents
    unfolding among add_bounds mul_bounds corners max_bounds idiv_bounds mod_bounds min_bounds where_bounds reduce_bounds stack_bounds size_of
    bounds_are =
        record {
          constant = λ z. let e = ends (none_used 0 z) in rw (number_word t n) at e;
          given = λ z. let e = ends (none_used 1 z) in rw (low_word t n, high_word t n) at e;
          kept = kept_at;
          add = λ z. ends (two_at 9 (omega arith) (omega arith) z);
          mul = λ z. rw (two_at 10 (omega arith) (omega arith) z) (extremes _ _ _ _);
          max = λ z. rw (two_at 11 (omega arith) (omega arith) z) (max_of _ _, max_of _ _);
          idiv = λ z. (floor_div a.low b.low, floor_div a.low b.high, floor_div a.high b.low, floor_div a.high b.high, floor _ _, floor _ _, floor _ _, floor _ _, rw (two_at 12 (omega arith) (omega arith) z) (extremes _ _ _ _));
          mod_up = λ z l. ends (two_at 13 (omega arith) (omega arith) z ∙ rw (lt_true l) refl);
          mod_down = λ z l. ends (two_at 13 (omega arith) (omega arith) z ∙ rw (le_lt_z l) refl);
          less = λ z l. ends (two_at 14 (omega arith) (omega arith) z ∙ (less_row a b).0 l);
          not_less = λ z l m. ends (two_at 14 (omega arith) (omega arith) z ∙ (less_row a b).1 l m);
          may_be_less = λ z l m. ends (two_at 14 (omega arith) (omega arith) z ∙ (less_row a b).2 l m);
          disjoint = λ z l. ends (two_at 15 (omega arith) (omega arith) z ∙ (differs_row a b).0 l);
          all_equal = λ z u v w. ends (two_at 15 (omega arith) (omega arith) z ∙ (differs_row a b).1 u v w);
          may_differ = λ z l m w. ends (two_at 15 (omega arith) (omega arith) z ∙ (differs_row a b).2 l m w);
          and = λ z. rw (two_at 16 (omega arith) (omega arith) z) (min_of _ _, min_of _ _);
          or = λ z. rw (two_at 17 (omega arith) (omega arith) z) (max_of _ _, max_of _ _);
          chosen = λ z. rw (three_used 18 z (inl (omega (arith, z), omega (arith, z))) (inl z)) (min_of _ _, max_of _ _);
          sum = λ z w. ends (one_used 19 z (omega (arith, z)) ∙ rw (number_word t n, w, flagged) refl);
          greatest = λ z w. ends (one_used 19 z (omega (arith, z)) ∙ rw (number_word t n, w) refl);
          filled = λ z. rw (two_used 21 z (inr (inl z))) (min_of _ _, max_of _ _);
          tells = λ z. ends (one_used 22 z (omega (arith, z)));
          stack_two = λ z w. rw (pair_at z w) (min_of _ _, max_of _ _);
          stack_three = λ z w. rw (triple_at z w) (least_of _ _ _, greatest_of _ _ _);
        }

  -- ---- its type

  type_is : pos 0 ≤ℤ word t n 4 → TypeIs t n earlier o (derive_node t n earlier).dtype
  unfolding derive_node derived_of result_type among
  type_is h =
      record {
        named = ⊎_elim (λ z. word_4 (rw (is 0 z) refl)) (⊎_elim (λ z. word_4 (rw (is 1 z) refl)) (λ z. word_4 (rw (is 8 z) refl)));
        bool = λ low high. for_range (λ (k : ℕ). (node_at t n).op ≡ k → (derive_node t n earlier).dtype ≡ 0) o 14 4 ((λ z. rw z refl) then (λ z. rw z refl) then (λ z. rw z refl) then (λ z. rw z refl) then tt) low (omega arith) op;
        tells = λ z. rw (is 22 z) refl;
        chosen = λ z. rw (← second_is t n earlier o q known (reads_2 t n earlier o q known (inl (omega (arith, z), omega (arith, z)))), is 18 z) refl;
        kept = ⊎_elim
            (λ (m : (2 ≤ o) × (o ≤ 7)). first_type m.0 (for_range (λ (k : ℕ). (node_at t n).op ≡ k → (derive_node t n earlier).dtype ≡ (first (node_at t n) earlier).dtype) o 2 6
            ((λ z. rw z refl) then (λ z. rw z refl) then (λ z. rw z refl) then (λ z. rw z refl) then (λ z. rw z refl) then (λ z. rw z refl) then tt) m.0 (omega (arith, m.1)) op))
            (⊎_elim
            (λ (m : (9 ≤ o) × (o ≤ 13)). first_type (omega (arith, m.0)) (for_range (λ (k : ℕ). (node_at t n).op ≡ k → (derive_node t n earlier).dtype ≡ (first (node_at t n) earlier).dtype) o 9 5
            ((λ z. rw z refl) then (λ z. rw z refl) then (λ z. rw z refl) then (λ z. rw z refl) then (λ z. rw z refl) then tt) m.0 (omega (arith, m.1)) op))
            (⊎_elim
            (λ (m : (19 ≤ o) × (o ≤ 21)). first_type (omega (arith, m.0)) (for_range (λ (k : ℕ). (node_at t n).op ≡ k → (derive_node t n earlier).dtype ≡ (first (node_at t n) earlier).dtype) o 19 3
            ((λ z. rw z refl) then (λ z. rw z refl) then (λ z. rw z refl) then tt) m.0 (omega (arith, m.1)) op))
            (λ z. first_type (omega (arith, z)) (rw (is 23 z) refl))));
      }
    where
      op : (node_at t n).op ≡ o
      op = op_is t n earlier o q known

      is : (k : ℕ) → o ≡ k → (node_at t n).op ≡ k
      is k z = op ∙ z

      word_4 : (derive_node t n earlier).dtype ≡ (node_at t n).dtype → pos (derive_node t n earlier).dtype ≡ word t n 4
      word_4 e = ap pos (e ∙ dtype_size t n) ∙ sized (word t n 4) h

      first_type : 2 ≤ o → (derive_node t n earlier).dtype ≡ (first (node_at t n) earlier).dtype → (derive_node t n earlier).dtype ≡ (source t n earlier 1).dtype
      first_type m e = e ∙ ap (λ (d : Derived). d.dtype) (first_is t n earlier o q known (reads_1 t n earlier o q known m))

  -- ---- its device

  device_is : pos 0 ≤ℤ word t n 6 → Rule9 t n earlier o → DeviceIs t n earlier o (derive_node t n earlier).device
  unfolding derive_node derived_of rule_holds among
  device_is h rule =
      record {
        none = λ z. sym (device_none (node_at t n) _ _ _ (op ∙ z));
        named = ⊎_elim (λ z. word_6 (sym (device_param (node_at t n) _ _ _ (op ∙ z)))) (λ z. word_6 (sym (device_load (node_at t n) _ _ _ (op ∙ z))));
        taken = λ low other k k1 k3 u z.
            for_range (λ (j : ℕ). ReadsSource t n o j → ((source t n earlier j).device ≡ 0 → ⊥) → (derive_node t n earlier).device ≡ (source t n earlier j).device) k 1 3
            ((λ v y. joined low other ∙ all.0 (λ e. y (sym (d1.0 v) ∙ e)) ∙ d1.0 v) then (λ v y. joined low other ∙ all.1 (λ e. y (sym (d2.0 v) ∙ e)) ∙ d2.0 v)
            then (λ v y. joined low other ∙ all.2 (λ e. y (sym (d3.0 v) ∙ e)) ∙ d3.0 v) then tt) k1 (omega arith) u z;
        zero = λ low other w. joined low other ∙ all.3 (absent 1 (omega arith) (omega arith) d1 (w 1 (omega arith) (omega arith))) (absent 2 (omega arith) (omega arith) d2 (w 2 (omega arith) (omega arith))) (absent 3 (omega arith) (omega arith) d3 (w 3 (omega arith) (omega arith)));
      }
    where
      op : (node_at t n).op ≡ o
      op = op_is t n earlier o q known

      word_6 : (derive_node t n earlier).device ≡ (node_at t n).device → pos (derive_node t n earlier).device ≡ word t n 6
      word_6 e = ap pos (e ∙ device_size t n) ∙ sized (word t n 6) h

      d1 : Device t n earlier o q known 1 (first (node_at t n) earlier).device
      d1 = device_of t n earlier o q known 1 (node_at t n).source1 (omega arith) (omega arith) (first_node t n)

      d2 : Device t n earlier o q known 2 (second (node_at t n) earlier).device
      d2 = device_of t n earlier o q known 2 (node_at t n).source2 (omega arith) (omega arith) (second_node t n)

      d3 : Device t n earlier o q known 3 (third (node_at t n) earlier).device
      d3 = device_of t n earlier o q known 3 (node_at t n).source3 (omega arith) (omega arith) (third_node t n)

      absent : {d : ℕ} (k : ℕ) → 1 ≤ k → k ≤ 3 → Device t n earlier o q known k d → (ReadsSource t n o k → (source t n earlier k).device ≡ 0) → d ≡ 0
      absent k k1 k3 p w = reads_or t n earlier o q known k k1 k3 (λ u. p.0 u ∙ w u) (λ u. p.1 u)

      all : Joins (first (node_at t n) earlier).device (second (node_at t n) earlier).device (third (node_at t n) earlier).device
      all = let s = agree_pairs _ _ _ ((says_9 t n earlier o q known).1 rule) in joins _ _ _ s.0 s.1 s.2

      joined : 2 ≤ o → (o ≡ 20 → ⊥) → (derive_node t n earlier).device ≡ join_device (join_device (first (node_at t n) earlier).device (second (node_at t n) earlier).device) (third (node_at t n) earlier).device
      joined low other = sym (device_joined (node_at t n) _ _ _ (λ z. absurd (omega (arith, z, op))) (λ z. absurd (omega (arith, z, op))) (λ z. other (sym op ∙ z)) (is_operation_lem t n earlier o q known))

  -- ---- its extents

  shape_at : (k : ℕ) → o ≡ k → (derive_node t n earlier).extents ≡ by_operation k (result_rules (node_at t n) (first (node_at t n) earlier).extents (second (node_at t n) earlier).extents (third (node_at t n) earlier).extents) []
  unfolding derive_node derived_of
  shape_at k z = shape_row (node_at t n) _ _ _ k (op_is t n earlier o q known ∙ z)

  shape_one : (k : ℕ) → o ≡ k → 2 ≤ o → (derive_node t n earlier).extents ≡ by_operation k (result_rules (node_at t n) (source t n earlier 1).extents (second (node_at t n) earlier).extents (third (node_at t n) earlier).extents) []
  shape_one k z h = shape_at k z ∙ rw (first_is t n earlier o q known (reads_1 t n earlier o q known h)) refl

  shape_two : (k : ℕ) → o ≡ k → ((9 ≤ o) × (o ≤ 18)) ⊎ ((o ≡ 21) ⊎ (o ≡ 23)) → (derive_node t n earlier).extents ≡ by_operation k (result_rules (node_at t n) (source t n earlier 1).extents (source t n earlier 2).extents (third (node_at t n) earlier).extents) []
  shape_two k z h = shape_one k z (from_two h) ∙ rw (second_is t n earlier o q known (reads_2 t n earlier o q known h)) refl

  shape_three : o ≡ 18 → (derive_node t n earlier).extents ≡ broadcast (broadcast (source t n earlier 1).extents (source t n earlier 2).extents) (source t n earlier 3).extents
  unfolding among
  shape_three z = shape_two 18 z (inl (omega (arith, z), omega (arith, z))) ∙ rw (third_is t n earlier o q known (reads_3 t n earlier o q known (inl z))) refl

  module _ (ranked : length (source t n earlier 1).extents ≤ 4) (positive : (j k : ℕ) → 1 ≤ get_or (source t n earlier j).extents k 1) where
    abbrev s : List ℕ
    s = (source t n earlier 1).extents

    abbrev u : List ℕ
    u = (source t n earlier 2).extents

    abbrev r : List ℕ
    r = (derive_node t n earlier).extents

    from_row : (o ≡ 1) ⊎ ((4 ≤ o) × (o ≤ 7)) → (derive_node t n earlier).extents ≡ extents_of (list_of (node_at t n).rowa)
    unfolding among
    from_row =
        ⊎_elim (shape_at 1)
        (λ (h : (4 ≤ o) × (o ≤ 7)).
        for_range (λ (k : ℕ). o ≡ k → r ≡ extents_of (list_of (node_at t n).rowa)) o 4 4 (shape_at 4 then shape_at 5 then shape_at 6 then shape_at 7 then tt) h.0 (omega (arith, h.1)) refl)

    joined_at : (k : ℕ) → o ≡ k → ((9 ≤ o) × (o ≤ 18)) ⊎ ((o ≡ 21) ⊎ (o ≡ 23)) → by_operation k (result_rules (node_at t n) (source t n earlier 1).extents (source t n earlier 2).extents (third (node_at t n) earlier).extents) [] ≡ broadcast (source t n earlier 1).extents (source t n earlier 2).extents → Joined (source t n earlier 1).extents (source t n earlier 2).extents (derive_node t n earlier).extents
    joined_at k z h e = rw (shape_two k z h ∙ e) (joined s u (positive 1) (positive 2))

    small_word : {w : ℤ} (m : ℕ) → w ≡ pos m → size_of w ≡ m
    unfolding size_of
    small_word m e = rw e refl

    -- a flag as a word and as a count
    flag_word : (k : ℕ) → k < length (source t n earlier 1).extents → {A B : Type 0} → (word_of (list_of (node_at t n).rowa) k ≡ 1 → A) × ((word_of (list_of (node_at t n).rowa) k ≡ 1 → ⊥) → B)
        → (word t n (9 + k) ≡ pos 1 → A) × ((word t n (9 + k) ≡ pos 1 → ⊥) → B)
    flag_word k l w =
        let at = row_a_at t n k (omega arith) in
        (λ e. w.0 (at ∙ small_word 1 e), λ f. w.1 (λ e. f (size_is (word t n (9 + k)) 1 (sym at ∙ e) (omega arith))))

    extents_are : ExtentsAre t n o (source t n earlier 1).extents (source t n earlier 2).extents (source t n earlier 3).extents (derive_node t n earlier).extents
    unfolding among
    extents_are =
        record {
          none = shape_at 0;
          row = λ h x w. from_row h ∙ row_is t n 9 (list_of (node_at t n).rowa) refl (row_a_at t n) x w;
          permuted = λ z. rw (shape_one 2 z (omega (arith, z))) (permuted_says s (list_of (node_at t n).rowa) refl ranked, λ k m l w. permuted_at s (list_of (node_at t n).rowa) refl ranked k m l (row_a_at t n k (omega arith) ∙ small_word m w));
          same = ⊎_elim (λ z. shape_one 3 z (omega (arith, z))) (⊎_elim (λ z. shape_one 8 z (omega (arith, z))) (⊎_elim (λ z. shape_one 20 z (omega (arith, z))) (λ z. shape_one 22 z (omega (arith, z)))));
          two = λ low high.
              for_range (λ (k : ℕ). o ≡ k → Joined s u r) o 9 9
              ((λ z. joined_at 9 z (inl (low, omega arith)) refl) then (λ z. joined_at 10 z (inl (low, omega arith)) refl) then (λ z. joined_at 11 z (inl (low, omega arith)) refl) then (λ z. joined_at 12 z (inl (low, omega arith)) refl) then (λ z. joined_at 13 z (inl (low, omega arith)) refl) then (λ z. joined_at 14 z (inl (low, omega arith)) refl) then (λ z. joined_at 15 z (inl (low, omega arith)) refl) then (λ z. joined_at 16 z (inl (low, omega arith)) refl) then (λ z. joined_at 17 z (inl (low, omega arith)) refl) then tt) low (omega arith) refl;
          three = λ z. (broadcast s u, joined s u (positive 1) (positive 2), rw (shape_three z) (joined (broadcast s u) (source t n earlier 3).extents (broadcast_positive s u (positive 1) (positive 2)) (positive 3)));
          reduced = λ z. rw (shape_one 19 z (omega (arith, z))) (reduced_length s (list_of (node_at t n).rowa), λ k l. flag_word k l (reduced_at s (list_of (node_at t n).rowa) k l));
          filled = λ z. joined_at 21 z (inr (inl z)) refl;
          stacked = λ z m w. shape_one 23 z (omega (arith, z)) ∙ ap (λ (j : ℕ). j ∷ s) (ap size_of (number_word t n) ∙ small_word m w);
        }

-- ---- all of it

flagged_count : (t : List ℤ) (n : ℕ) (s : List ℕ) → length s ≤ 4 → gathered_count s (list_of (node_at t n).rowa) ≡ flagged_product t n 9 s
unfolding gathered_count gathered_extents
flagged_count t n s h =
    ap count (tab_same (length s) (λ (i : ℕ). cond (flagged flags i) (extent s i) 1) (λ (i : ℕ). cond (flagged flags (0 + i)) (extent s i) 1) (λ i l. rw (zero-add) refl))
    ∙ flagged_from t n flags s 0 9 (λ i l. rw zero-add (row_a_at t n i (omega arith) ∙ as_count_lem (word t n (9 + i))))
  where
    flags : List ℕ
    flags = list_of (node_at t n).rowa

pub records_say : RecordsSay
records_say =
    record {
      dtype = type_is;
      device = device_is;
      bounds = λ t n earlier o q known h. bounds_are t n earlier o q known (flagged_count t n (source t n earlier 1).extents h);
      extents = extents_are;
    }
