-- The rules by their tests and in the paper's words.
use Prim.Native.Nat.{ℕ, zero, suc, ◌+◌, ◌<◌, ◌≤◌}
use mathlib.Core.Path.{◌≡◌, refl, ap, sym, ◌∙◌, subst}
use mathlib.Core.Bool.{Bool, true, false, ◌&&◌, ◌||◌, not, false≢true, true≢false}
use mathlib.Core.Logic.{◌⊎◌, inl, inr, ⊎_elim}
use mathlib.Core.List.{List, [], ◌∷◌}
use native.Mathlib.Omega.{arith}
use borrow.Author.Tests.{eqb-true, eqb-false, eq-eqb, ne_eqb, ltb-true, ltb-false, lt-ltb, leb-true, le-leb}
use lib.IntN.{ℤ, pos}
use lib.Signed.{◌≤ℤ◌, ◌<ℤ◌, le_z}
use lib.Dec.{eqb, ltb, leb}
use lib.ListN.{length, get_or}
use Rattle.laws.specs.Lists.{among}
use Rattle.laws.specs.Numbering.{count}
use Rattle.laws.proofs.Booleans.{bool_cases, and_true, and_true_of, or_true, all_below_lem, all_below_of}
use Rattle.laws.proofs.Parts.{of_le, le_z_true, le_le_z}
use Rattle.plan.specs.declared.Interval.{Interval}
use Rattle.plan.specs.declared.NodeNumber.{NodeNumber}
use Rattle.plan.specs.Operations.{uses, is_operation}
use Rattle.plan.specs.Types.{holds, contains, range_of}
use Rattle.plan.specs.Words.{size_of, node_at, params_before, list_of, in_number, reads, unused_zero}
use Rattle.shapes.specs.Rows.{is_shape_row, is_flag_row, is_offset_row, is_permutation}
use Rattle.shapes.specs.Rules.{shapes_agree}
use Rattle.plan.proofs.ByOperation.{◌then◌, for_range, stack_third}
use Rattle.plan.proofs.Decoding.{word_at_lem}
use Rattle.bounds.proofs.Sound.{held, holding}
use Rattle.rules.specs.Rules.{Derived, source_of, implies, sources_earlier, type_named, types_agree, device_named, param_right, rows_right, shape_right, one_device, join_device, devices_agree, divisor_right, bounds_in_type, derived_of}
use Rattle.rules.proofs.RowRule.{rows_const, rows_param, rows_permute, rows_flip, rows_shape, rows_offset, rows_any, rows_reduce, rows_load, rows_none, rows_stack}
use Rattle.rules.proofs.TypeRule.{types_any, types_arithmetic, types_differ, types_logical, types_where, types_reduce, types_fill, types_stack, types_load}
use Rattle.verifier.specs.Check.{first, second, third, derive_node}
use Rattle.verifier.specs.Meets.{rule_holds}
use Rattle.verifier.proofs.Nodes.{sources_before}
use Rattle.guarantees.specs.Demand3.{word, as_count}
use Rattle.guarantees.specs.Rules.{Exactly, From, uses_word, ReadsSource, source, Rule2, Rule3, Rule4, Rule5, Rule6, RowOf, ShapeRow, PermutationRow, Rule7, IsRow, Rule8, Rule9, Rule10, InType, Rule11, RulesSay}
use Rattle.guarantees.proofs.Users.{same_users}
use Rattle.guarantees.proofs.Words.{size_is, as_count_lem, op_size, op_of, low_word, high_word, first_node, second_node, third_node, dtype_size, device_size, number_word, row_a_at, row_b_at}
use Rattle.guarantees.proofs.RowWords.{size_from, from_size, size_from_1, from_1_size, size_zero, size_below, below_size, flags_say, offsets_say, shape_says, row_is, permutation_says}
use Rattle.guarantees.proofs.ShapeWords.{shapes_say}

-- ---- tests

implied : (p q : Bool) → implies p q ≡ true → p ≡ true → q ≡ true
implied true q e h = e
implied false q e h = absurd (false≢true h)

implied_of : (p q : Bool) → (p ≡ true → q ≡ true) → implies p q ≡ true
implied_of true q h = h refl
implied_of false q h = refl

not_false : {b : Bool} → b ≡ true → b ≡ false → ⊥
not_false e f = true≢false (sym e ∙ f)

-- ---- the operations by the rows of rule 6

data Row6 (o : ℕ) : Type 0 where
  any : (o < 9) ⊎ ((o ≡ 20) ⊎ (o ≡ 22)) → Row6 o
  arithmetic : 9 ≤ o → o ≤ 14 → Row6 o
  differs : o ≡ 15 → Row6 o
  logical : (o ≡ 16) ⊎ (o ≡ 17) → Row6 o
  chooses : o ≡ 18 → Row6 o
  reduces : o ≡ 19 → Row6 o
  fills : o ≡ 21 → Row6 o
  stacks : o ≡ 23 → Row6 o

which : (o : ℕ) → o ≤ 23 → Row6 o
which o h =
    for_range Row6 o 0 24
    (any (inl (omega arith)) then any (inl (omega arith)) then any (inl (omega arith)) then any (inl (omega arith)) then any (inl (omega arith)) then any (inl (omega arith)) then any (inl (omega arith)) then any (inl (omega arith)) then any (inl (omega arith))
    then arithmetic (omega arith) (omega arith) then arithmetic (omega arith) (omega arith) then arithmetic (omega arith) (omega arith) then arithmetic (omega arith) (omega arith) then arithmetic (omega arith) (omega arith) then arithmetic (omega arith) (omega arith)
    then differs refl then logical (inl refl) then logical (inr refl) then chooses refl then reduces refl then any (inr (inl refl)) then fills refl then any (inr (inr refl)) then stacks refl then tt) (omega arith) (omega arith)

-- the same of rule 7
data Row7 (o : ℕ) : Type 0 where
  constant : o ≡ 0 → Row7 o
  given : o ≡ 1 → Row7 o
  permutes : o ≡ 2 → Row7 o
  flips : o ≡ 3 → Row7 o
  shapes : 4 ≤ o → o ≤ 5 → Row7 o
  places : (o ≡ 6) ⊎ (o ≡ 7) → Row7 o
  free : 8 ≤ o → o ≤ 18 → Row7 o
  reduces : o ≡ 19 → Row7 o
  loads : o ≡ 20 → Row7 o
  bare : 21 ≤ o → o ≤ 22 → Row7 o
  stacks : o ≡ 23 → Row7 o

which_7 : (o : ℕ) → o ≤ 23 → Row7 o
which_7 o h =
    for_range Row7 o 0 24
    (constant refl then given refl then permutes refl then flips refl then shapes (omega arith) (omega arith) then shapes (omega arith) (omega arith) then places (inl refl) then places (inr refl)
    then free (omega arith) (omega arith) then free (omega arith) (omega arith) then free (omega arith) (omega arith) then free (omega arith) (omega arith) then free (omega arith) (omega arith) then free (omega arith) (omega arith)
    then free (omega arith) (omega arith) then free (omega arith) (omega arith) then free (omega arith) (omega arith) then free (omega arith) (omega arith) then free (omega arith) (omega arith) then reduces refl then loads refl then bare (omega arith) (omega arith) then bare (omega arith) (omega arith) then stacks refl then tt) (omega arith) (omega arith)

-- ---- rule 9, of three devices

abbrev pub Share : ℕ → ℕ → Type 0
Share d e = (d ≡ 0) ⊎ ((e ≡ 0) ⊎ (d ≡ e))

one_share : (d e : ℕ) → one_device d e ≡ true → Share d e
unfolding one_device
one_share d e q = or_true (eqb d 0) _ q (λ z. inl (eqb-true d 0 z)) (λ z. or_true (eqb e 0) _ z (λ y. inr (inl (eqb-true e 0 y))) (λ y. inr (inr (eqb-true d e y))))

share_one : (d e : ℕ) → Share d e → one_device d e ≡ true
unfolding one_device
share_one d e =
    ⊎_elim (λ z. rw z refl)
    (⊎_elim (λ z. rw z (bool_cases (eqb d 0) (λ y. rw y refl) (λ y. rw y refl)))
    (λ z. rw z (bool_cases (eqb e 0) (λ y. rw y refl) (λ y. rw (y, eq-eqb e e refl) refl))))

pub agree_pairs : (d e f : ℕ) → devices_agree d e f ≡ true → Share d e × Share d f × Share e f
unfolding devices_agree join_device
agree_pairs d e f q =
    let w = and_true (one_device d e) _ q in
    let first = one_share d e w.0 in
    bool_cases (eqb d 0)
    (λ z. let y = eqb-true d 0 z in (first, inl y, one_share e f (rw z at w.1)))
    (λ z.
    let last = one_share d f (rw z at w.1) in
    (first, last, ⊎_elim (λ y. absurd (eqb-false d 0 z y)) (⊎_elim (λ y. inl y) (λ y. rw y at last)) first))

pairs_agree : (d e f : ℕ) → Share d e → Share d f → Share e f → devices_agree d e f ≡ true
unfolding devices_agree join_device
pairs_agree d e f a b c =
    and_true_of _ _ (share_one d e a) (bool_cases (eqb d 0) (λ z. rw z (share_one e f c)) (λ z. rw z (share_one d f b)))

-- ---- rule 11, of a type and an interval

-- both ends of an interval lie in a range
ends : (r b : Interval) → Exactly (contains r b ≡ true) (From r.low r.high b.low × From r.low r.high b.high)
unfolding contains
ends r b = (
  λ e. let w = and_true (holds r b.low) (holds r b.high) e in let l = held r b.low w.0 in let g = held r b.high w.1 in ((l.low, l.high), (g.low, g.high)),
  λ w. and_true_of _ _ (holding r b.low (record { low = w.0.0; high = w.0.1 })) (holding r b.high (record { low = w.1.0; high = w.1.1 })),
)

-- a number of a type's range, in the paper's numbers; any range is good for a number that is no type
pub in_range : (d : ℕ) (z : ℤ) → From (range_of d).low (range_of d).high z → InType d z
unfolding range_of
in_range d z w =
    record { bool = λ q. at q; u8 = λ q. at q; i16 = λ q. at q; i32 = λ q. at q }
  where
    at : {k : ℕ} → d ≡ k → From (range_of k).low (range_of k).high z
    at q = subst (λ (d : ℕ). From (range_of d).low (range_of d).high z) q w

type_in : (d : ℕ) (z : ℤ) → d ≤ 3 → InType d z → From (range_of d).low (range_of d).high z
unfolding range_of
type_in zero z h w = w.bool refl
type_in (suc zero) z h w = w.u8 refl
type_in (suc (suc zero)) z h w = w.i16 refl
type_in (suc (suc (suc zero))) z h w = w.i32 refl
type_in (suc (suc (suc (suc d)))) z h w = absurd (omega arith)

pub type_range : (d : ℕ) (z : ℤ) → d ≤ 3 → Exactly (From (range_of d).low (range_of d).high z) (InType d z)
type_range d z h = (in_range d z, type_in d z h)

ranges : (d : ℕ) (b : Interval) → d ≤ 3 → Exactly (contains (range_of d) b ≡ true) (Rule11 d b.low b.high)
ranges d b h =
    let w = ends (range_of d) b in
    (λ e. (in_range d b.low (w.0 e).0, in_range d b.high (w.0 e).1), λ r. w.1 (type_in d b.low h r.0, type_in d b.high h r.1))

-- ---- rules 2 to 5

module _ (t : List ℤ) (n : ℕ) (earlier : List Derived) where
  says_2 : Exactly (rule_holds t n earlier 2 ≡ true) (Rule2 t n)
  unfolding rule_holds is_operation among
  says_2 =
      (λ e. size_from (word t n 0) 23 (omega arith) (omega (arith, ltb-true (node_at t n).op 24 e, op_size t n)), λ h. lt-ltb (node_at t n).op 24 (omega (arith, from_size (word t n 0) 23 h, op_size t n)))

  -- its number, small, as a count and as a word
  pub number_is : (k : ℕ) → k < 256 → Exactly (size_of (node_at t n).number ≡ k) (word t n 5 ≡ pos k)
  unfolding size_of
  number_is k h = (λ e. size_is (word t n 5) k (rw (number_word t n) at e) h, λ w. rw (number_word t n, w) refl)

  module _ (o : ℕ) (q : word t n 0 ≡ pos o) (known : o ≤ 23) where
    pub op_is : (node_at t n).op ≡ o
    op_is = op_of t n o q

    pub used : (k : ℕ) → 1 ≤ k → k ≤ 16 → uses (node_at t n).op k ≡ uses_word o k
    used k a b = rw op_is (same_users o k known a b)

    pub is_operation_lem : is_operation (node_at t n).op ≡ true
    unfolding is_operation
    is_operation_lem = rw op_is (lt-ltb o 24 (omega arith))

    -- the sources that are read
    pub reads_says : (k : ℕ) → 1 ≤ k → k ≤ 3 → Exactly (reads (node_at t n) k ≡ true) (ReadsSource t n o k)
    unfolding reads
    reads_says k a b = (
      λ e.
          let w = and_true (uses (node_at t n).op k) (in_number (node_at t n) k) e in
          (sym (used k a (omega arith)) ∙ w.0, λ z y. let at : (node_at t n).op ≡ 23 = op_is ∙ z in (number_is 3 (omega arith)).0 (eqb-true _ 3 (rw (at, y) at w.1))),
      λ h.
          and_true_of _ _ (used k a (omega arith) ∙ h.0)
          (bool_cases (eqb (node_at t n).op 23 && eqb k 3)
          (λ e.
          let w = and_true (eqb (node_at t n).op 23) (eqb k 3) e in
          rw e (eq-eqb _ 3 ((number_is 3 (omega arith)).1 (h.1 (sym op_is ∙ eqb-true _ 23 w.0) (eqb-true k 3 w.1)))))
          (λ e. rw e refl)),
    )

    pub reads_not : (k : ℕ) → 1 ≤ k → k ≤ 3 → (ReadsSource t n o k → ⊥) → reads (node_at t n) k ≡ false
    reads_not k a b none = bool_cases (reads (node_at t n) k) (λ e. absurd (none ((reads_says k a b).0 e))) (λ e. e)

    says_3 : Exactly (rule_holds t n earlier 3 ≡ true) (Rule3 t n o)
    unfolding rule_holds unused_zero among size_of
    says_3 = (
      λ e k a b f.
          or_true (eqb k 0) _ (all_below_lem 17 _ e k (omega arith))
          (λ z. absurd (omega (arith, eqb-true k 0 z)))
          (λ z. or_true (uses (node_at t n).op k) _ z
          (λ u. absurd (not_false u (used k a b ∙ f)))
          (λ w. size_zero (word t n k) (ap size_of (sym (word_at_lem t n k (omega arith))) ∙ eqb-true _ 0 w))),
      λ h. all_below_of 17 _ (λ k l.
          bool_cases (eqb k 0) (λ z. rw z refl) (λ z. rw z
          (bool_cases (uses (node_at t n).op k) (λ u. rw u refl)
          (λ u. rw u (eq-eqb _ 0 (ap size_of (word_at_lem t n k l ∙ h k (some k z) (omega arith) (sym (used k (some k z) (omega arith)) ∙ u)))))))),
    )
      where
        some : (k : ℕ) → eqb k 0 ≡ false → 1 ≤ k
        some zero z = absurd (eqb-false 0 0 z refl)
        some (suc k) z = omega arith

    says_4 : n ≤ 256 → Exactly (rule_holds t n earlier 4 ≡ true) (Rule4 t n o)
    unfolding rule_holds sources_earlier among
    says_4 few = (
      λ e k a b u.
          let s = sources_before (node_at t n) n e in
          for_range (λ (j : ℕ). ReadsSource t n o j → (pos 0 ≤ℤ word t n j) × (word t n j <ℤ pos n)) k 1 3
          ((λ w. size_below (word t n 1) n few (rw (first_node t n, ← as_count_lem (word t n 1)) at (s.0 (read 1 (omega arith) (omega arith) w))))
          then (λ w. size_below (word t n 2) n few (rw (second_node t n, ← as_count_lem (word t n 2)) at (s.1 (read 2 (omega arith) (omega arith) w))))
          then (λ w. size_below (word t n 3) n few (rw (third_node t n, ← as_count_lem (word t n 3)) at (s.2 (read 3 (omega arith) (omega arith) w))))
          then tt) a (omega arith) u,
      λ h.
          and_true_of _ _ (implied_of (reads (node_at t n) 1) _ (λ u. lt-ltb _ n (rw (first_node t n, ← as_count_lem (word t n 1)) (below h 1 (omega arith) (omega arith) u))))
          (and_true_of _ _ (implied_of (reads (node_at t n) 2) _ (λ u. lt-ltb _ n (rw (second_node t n, ← as_count_lem (word t n 2)) (below h 2 (omega arith) (omega arith) u))))
          (implied_of (reads (node_at t n) 3) _ (λ u. lt-ltb _ n (rw (third_node t n, ← as_count_lem (word t n 3)) (below h 3 (omega arith) (omega arith) u))))),
    )
      where
        read : (k : ℕ) → 1 ≤ k → k ≤ 3 → ReadsSource t n o k → reads (node_at t n) k ≡ true
        read k a b = (reads_says k a b).1

        below : Rule4 t n o → (k : ℕ) → 1 ≤ k → k ≤ 3 → reads (node_at t n) k ≡ true → size_of (word t n k) < n
        below h k a b u = below_size (word t n k) n (h k a b ((reads_says k a b).0 u))

    says_5 : Exactly (rule_holds t n earlier 5 ≡ true) (Rule5 t n o)
    unfolding rule_holds type_named among
    says_5 = (
      λ e u. size_from (word t n 4) 3 (omega arith) (rw (dtype_size t n) at (leb-true (node_at t n).dtype 3 (implied (uses (node_at t n).op 4) _ e (used 4 (omega arith) (omega arith) ∙ u)))),
      λ h. implied_of (uses (node_at t n).op 4) _ (λ u. le-leb (node_at t n).dtype 3 (rw (dtype_size t n) (from_size (word t n 4) 3 (h (sym (used 4 (omega arith) (omega arith)) ∙ u))))),
    )

    -- ---- the sources' records

    pub first_is : ReadsSource t n o 1 → first (node_at t n) earlier ≡ source t n earlier 1
    unfolding source_of
    first_is u = rw ((reads_says 1 (omega arith) (omega arith)).1 u, first_node t n) refl

    pub second_is : ReadsSource t n o 2 → second (node_at t n) earlier ≡ source t n earlier 2
    unfolding source_of
    second_is u = rw ((reads_says 2 (omega arith) (omega arith)).1 u, second_node t n) refl

    pub third_is : ReadsSource t n o 3 → third (node_at t n) earlier ≡ source t n earlier 3
    unfolding source_of
    third_is u = rw ((reads_says 3 (omega arith) (omega arith)).1 u, third_node t n) refl

    -- operations 2 on read source 1; 9 to 18, FILL and STACK source 2; WHERE source 3, and STACK with number 3
    pub reads_1 : 2 ≤ o → ReadsSource t n o 1
    unfolding among
    reads_1 h = (
      for_range (λ (k : ℕ). uses_word k 1 ≡ true) o 2 22
          (refl then refl then refl then refl then refl then refl then refl then refl then refl then refl then refl then refl then refl then refl then refl then refl then refl then refl then refl then refl then refl then refl then tt) h (omega arith),
      λ z y. absurd (omega (arith, y)),
    )

    pub reads_2 : ((9 ≤ o) × (o ≤ 18)) ⊎ ((o ≡ 21) ⊎ (o ≡ 23)) → ReadsSource t n o 2
    unfolding among
    reads_2 h = (
      ⊎_elim
          (λ (w : (9 ≤ o) × (o ≤ 18)). for_range (λ (k : ℕ). uses_word k 2 ≡ true) o 9 10 (refl then refl then refl then refl then refl then refl then refl then refl then refl then refl then tt) w.0 (omega (arith, w.1)))
          (⊎_elim (λ z. rw z refl) (λ z. rw z refl)) h,
      λ z y. absurd (omega (arith, y)),
    )

    pub reads_3 : (o ≡ 18) ⊎ ((o ≡ 23) × (word t n 5 ≡ pos 3)) → ReadsSource t n o 3
    unfolding among
    reads_3 = ⊎_elim (λ z. (rw z refl, λ y. absurd (omega (arith, z, y)))) (λ w. (rw w.0 refl, λ z y. w.1))

    -- ---- rule 6

    abbrev a : ℕ
    a = (source t n earlier 1).dtype

    abbrev b : ℕ
    b = (source t n earlier 2).dtype

    abbrev c : ℕ
    c = (source t n earlier 3).dtype

    test_6 : 2 ≤ o → rule_holds t n earlier 6 ≡ types_agree (node_at t n) (source t n earlier 1).dtype (second (node_at t n) earlier).dtype (third (node_at t n) earlier).dtype
    unfolding rule_holds among
    test_6 h = rw (first_is (reads_1 h)) refl

    untyped : true ≡ types_agree (node_at t n) (first (node_at t n) earlier).dtype (second (node_at t n) earlier).dtype (third (node_at t n) earlier).dtype → rule_holds t n earlier 6 ≡ true
    unfolding rule_holds among
    untyped e = sym e

    two_types : ((9 ≤ o) × (o ≤ 18)) ⊎ ((o ≡ 21) ⊎ (o ≡ 23)) → rule_holds t n earlier 6 ≡ types_agree (node_at t n) (source t n earlier 1).dtype (source t n earlier 2).dtype (third (node_at t n) earlier).dtype
    two_types h = test_6 (⊎_elim (λ (w : (9 ≤ o) × (o ≤ 18)). omega (arith, w.0)) (⊎_elim (λ z. omega (arith, z)) (λ z. omega (arith, z))) h) ∙ rw (second_is (reads_2 h)) refl

    -- a row of the table of types, where it names two sources
    typed : ((9 ≤ o) × (o ≤ 18)) ⊎ ((o ≡ 21) ⊎ (o ≡ 23)) → {row : Bool} → row ≡ types_agree (node_at t n) (source t n earlier 1).dtype (source t n earlier 2).dtype (third (node_at t n) earlier).dtype
        → row ≡ rule_holds t n earlier 6
    typed h e = e ∙ sym (two_types h)

    says_6 : Exactly (rule_holds t n earlier 6 ≡ true) (Rule6 t n o (source t n earlier 1).dtype (source t n earlier 2).dtype (source t n earlier 3).dtype)
    says_6 = (
      λ e.
          record {
            arithmetic = λ h k. let w = and_true (eqb a b) _ (row_arithmetic h k ∙ e) in (eqb-true a b w.0, λ z. false≢true (rw z at w.1));
            differs = λ z. eqb-true a b (row_differs z ∙ e);
            logical = λ z. let w = and_true (eqb a b) (eqb a 0) (row_logical z ∙ e) in (eqb-true a 0 w.1, sym (eqb-true a b w.0) ∙ eqb-true a 0 w.1);
            chooses = λ z. let w = and_true (eqb a 0) (eqb b c) (row_chooses z ∙ e) in (eqb-true a 0 w.0, eqb-true b c w.1);
            reduces = λ h z. false≢true (rw z at (row_reduces h ∙ e));
            fills = λ z. eqb-true a b (row_fills z ∙ e);
            stacks = λ z. eqb-true a b (and_true (eqb a b) _ (row_stacks z ∙ e)).0;
            stacks_third = λ z y.
                let u = reads_3 (inr (z, y)) in
                let last : implies (reads (node_at t n) 3) (eqb b (third (node_at t n) earlier).dtype) ≡ true = (and_true (eqb a b) _ (row_stacks z ∙ e)).1 in
                eqb-true b c (rw (third_is u) at (implied (reads (node_at t n) 3) _ last ((reads_says 3 (omega arith) (omega arith)).1 u)));
          },
      λ r. decided r (which o known),
    )
      where
        at : {k : ℕ} → o ≡ k → (node_at t n).op ≡ k
        at z = op_is ∙ z

        row_arithmetic : 9 ≤ o → o ≤ 14 → (eqb a b && not (eqb a 0)) ≡ rule_holds t n earlier 6
        row_arithmetic h k = typed (inl (h, omega arith)) (types_arithmetic (node_at t n) a b _ (rw op_is h) (rw op_is (omega arith)))

        row_differs : o ≡ 15 → eqb a b ≡ rule_holds t n earlier 6
        row_differs z = typed (inl (omega (arith, z), omega (arith, z))) (types_differ (node_at t n) a b _ (at z))

        row_logical : (o ≡ 16) ⊎ (o ≡ 17) → (eqb a b && eqb a 0) ≡ rule_holds t n earlier 6
        row_logical h =
            let low : 16 ≤ (node_at t n).op = ⊎_elim (λ z. omega (arith, at z)) (λ z. omega (arith, at z)) h in
            let high : (node_at t n).op < 18 = ⊎_elim (λ z. omega (arith, at z)) (λ z. omega (arith, at z)) h in
            typed (inl (omega (arith, low, op_is), omega (arith, high, op_is))) (types_logical (node_at t n) a b _ (omega (arith, low)) (λ y. absurd (omega (arith, y, low))) high)

        row_chooses : o ≡ 18 → (eqb a 0 && eqb b c) ≡ rule_holds t n earlier 6
        row_chooses z = typed (inl (omega (arith, z), omega (arith, z))) (rw (third_is (reads_3 (inl z))) (types_where (node_at t n) a b c (at z)))

        row_reduces : o ≡ 19 → not (eqb a 0) ≡ rule_holds t n earlier 6
        row_reduces z = types_reduce (node_at t n) a _ _ (at z) ∙ sym (test_6 (omega (arith, z)))

        row_fills : o ≡ 21 → eqb a b ≡ rule_holds t n earlier 6
        row_fills z = typed (inr (inl z)) (types_fill (node_at t n) a b _ (at z))

        row_stacks : o ≡ 23 → (eqb a b && implies (reads (node_at t n) 3) (eqb b (third (node_at t n) earlier).dtype)) ≡ rule_holds t n earlier 6
        row_stacks z = typed (inr (inr z)) (types_stack (node_at t n) a b _ (at z) (sym (stack_third (node_at t n) (at z))))

        free : {k : ℕ} → o ≡ k → 19 < k → (k ≡ 21 → ⊥) → (k ≡ 23 → ⊥) → rule_holds t n earlier 6 ≡ true
        free z l f g =
            let p = at z in
            untyped (types_load (node_at t n) _ _ _ (omega (arith, p)) (λ y. absurd (omega (arith, p, y))) (λ y. absurd (omega (arith, p, y))) (λ y. f (sym p ∙ y)) (λ y. g (sym p ∙ y)) is_operation_lem)

        decided : Rule6 t n o (source t n earlier 1).dtype (source t n earlier 2).dtype (source t n earlier 3).dtype → Row6 o → rule_holds t n earlier 6 ≡ true
        decided r (any w) =
            ⊎_elim
            (λ (l : o < 9). untyped (types_any (node_at t n) _ _ _ (rw op_is l)))
            (⊎_elim (λ z. free z (omega arith) (λ y. absurd (omega (arith, y))) (λ y. absurd (omega (arith, y)))) (λ z. free z (omega arith) (λ y. absurd (omega (arith, y))) (λ y. absurd (omega (arith, y))))) w
        decided r (arithmetic h k) = let w = r.arithmetic h k in sym (row_arithmetic h k) ∙ and_true_of _ _ (eq-eqb a b w.0) (ap not (ne_eqb a 0 w.1))
        decided r (differs z) = sym (row_differs z) ∙ eq-eqb a b (r.differs z)
        decided r (logical z) = let w = r.logical z in sym (row_logical z) ∙ and_true_of _ _ (eq-eqb a b (w.0 ∙ sym w.1)) (eq-eqb a 0 w.0)
        decided r (chooses z) = let w = r.chooses z in sym (row_chooses z) ∙ and_true_of _ _ (eq-eqb a 0 w.0) (eq-eqb b c w.1)
        decided r (reduces z) = sym (row_reduces z) ∙ ap not (ne_eqb a 0 (r.reduces z))
        decided r (fills z) = sym (row_fills z) ∙ eq-eqb a b (r.fills z)
        decided r (stacks z) =
            sym (row_stacks z)
            ∙ and_true_of _ _ (eq-eqb a b (r.stacks z))
            (implied_of (reads (node_at t n) 3) _ (λ u. let w = (reads_says 3 (omega arith) (omega arith)).0 u in rw (third_is w) (eq-eqb b c (r.stacks_third z (w.1 z refl)))))

    -- an extent of a source, 1 where it is not read
    some_extent : (k : ℕ) (s : NodeNumber) → s.0 ≡ as_count (word t n k) → ((i : ℕ) → 1 ≤ get_or (source t n earlier k).extents i 1) → (i : ℕ) → 1 ≤ get_or (source_of earlier (node_at t n) k s).extents i 1
    unfolding source_of
    some_extent k s w h i = bool_cases (reads (node_at t n) k) (λ u. rw (u, w) (h i)) (λ u. rw u (omega arith))

    -- ---- rule 7

    device_says : Exactly (device_named (node_at t n) ≡ true) (From (pos 1) (pos 255) (word t n 6))
    unfolding device_named
    device_says = (
      λ e.
          let w = and_true (leb 1 (node_at t n).device) (leb (node_at t n).device 255) e in
          size_from_1 (word t n 6) 255 (omega arith) (rw (device_size t n) at (leb-true 1 (node_at t n).device w.0)) (rw (device_size t n) at (leb-true (node_at t n).device 255 w.1)),
      λ h. let w = from_1_size (word t n 6) 255 h in and_true_of _ _ (le-leb 1 (node_at t n).device (rw (device_size t n) w.0)) (le-leb (node_at t n).device 255 (rw (device_size t n) w.1)),
    )

    param_says : (params : ℕ) → Exactly (param_right (node_at t n) params ≡ true) (((word t n 5 ≡ pos params) × (params ≤ 15)) × (word t n 7 ≤ℤ word t n 8))
    unfolding param_right size_of
    param_says params = (
      λ e.
          let w = and_true (eqb (size_of (node_at t n).number) params && leb params 15) (le_z (node_at t n).low (node_at t n).high) e in
          let s = and_true (eqb (size_of (node_at t n).number) params) (leb params 15) w.0 in
          let few : params ≤ 15 = leb-true params 15 s.1 in
          ((size_is (word t n 5) params (rw (number_word t n) at (eqb-true (size_of (node_at t n).number) params s.0)) (omega arith), few), rw (low_word t n, high_word t n) at (of_le {a = (node_at t n).low} {b = (node_at t n).high} (le_z_true (node_at t n).low (node_at t n).high w.1))),
      λ h.
          and_true_of _ _ (and_true_of _ _ (eq-eqb (size_of (node_at t n).number) params (rw (number_word t n, h.0.0) refl)) (le-leb params 15 h.0.1)) (le_le_z {a = (node_at t n).low} {b = (node_at t n).high} (rw (low_word t n, high_word t n) h.1)),
    )

    number_says : Exactly (leb (size_of (node_at t n).number) 1 ≡ true) (From (pos 0) (pos 1) (word t n 5))
    number_says = (λ e. size_from (word t n 5) 1 (omega arith) (rw (number_word t n) at (leb-true (size_of (node_at t n).number) 1 e)), λ h. le-leb (size_of (node_at t n).number) 1 (rw (number_word t n) (from_size (word t n 5) 1 h)))

    module _ (params rank : ℕ) (ranked : rank ≤ 4) where
      abbrev row : List ℕ
      row = list_of (node_at t n).rowa

      shape_row : Exactly (is_shape_row (list_of (node_at t n).rowa) ≡ true) (ShapeRow t n)
      shape_row = shape_says t n 9 row refl (row_a_at t n)

      flag_row : Exactly (is_flag_row rank (list_of (node_at t n).rowa) ≡ true) (RowOf (From (pos 0) (pos 1)) t n 9 rank)
      flag_row = flags_say t n 9 row refl (row_a_at t n) rank ranked

      offset_row : Exactly (is_offset_row rank (list_of (node_at t n).rowb) ≡ true) (RowOf (From (pos 0) (pos 1048576)) t n 13 rank)
      offset_row = offsets_say t n 13 (list_of (node_at t n).rowb) refl (row_b_at t n) rank ranked

      permuted_row : Exactly (is_permutation rank (list_of (node_at t n).rowa) ≡ true) (PermutationRow t n rank)
      permuted_row = permutation_says t n row refl (row_a_at t n) rank ranked

      abbrev test : Bool
      test = rows_right (node_at t n) params rank

      is : (k : ℕ) → o ≡ k → (node_at t n).op ≡ k
      is k z = op_is ∙ z

      param_row : o ≡ 1 → rows_right (node_at t n) params rank ≡ true
          → (((word t n 5 ≡ pos params) × (params ≤ 15)) × (word t n 7 ≤ℤ word t n 8)) × From (pos 1) (pos 255) (word t n 6) × ShapeRow t n
      param_row z e =
          let w = and_true (param_right (node_at t n) params) _ (rows_param (node_at t n) params rank (is 1 z) ∙ e) in
          let v = and_true (device_named (node_at t n)) (is_shape_row row) w.1 in
          ((param_says params).0 w.0, device_says.0 v.0, shape_row.0 v.1)

      offset_rows : 6 ≤ o → o ≤ 7 → rows_right (node_at t n) params rank ≡ true → ShapeRow t n × RowOf (From (pos 0) (pos 1048576)) t n 13 rank
      offset_rows low high e =
          let w = and_true (is_shape_row row) _ (rows_offset (node_at t n) params rank (rw op_is low) (rw op_is (omega arith)) ∙ e) in
          (shape_row.0 w.0, offset_row.0 w.1)

      reduce_row : o ≡ 19 → rows_right (node_at t n) params rank ≡ true → From (pos 0) (pos 1) (word t n 5) × RowOf (From (pos 0) (pos 1)) t n 9 rank
      reduce_row z e =
          let w = and_true (leb (size_of (node_at t n).number) 1) _ (rows_reduce (node_at t n) params rank (is 19 z) ∙ e) in
          (number_says.0 w.0, flag_row.0 w.1)

      -- STACK's number and its word 3
      stack_row : Exactly ((eqb (size_of (node_at t n).number) 3 || (eqb (size_of (node_at t n).number) 2 && eqb (node_at t n).source3.0 0)) ≡ true) (((word t n 5 ≡ pos 2) × (word t n 3 ≡ pos 0)) ⊎ (word t n 5 ≡ pos 3))
      stack_row = (
        λ e.
            or_true (eqb (size_of (node_at t n).number) 3) _ e (λ y. inr ((number_is 3 (omega arith)).0 (eqb-true _ 3 y)))
            (λ y.
            let w = and_true (eqb (size_of (node_at t n).number) 2) (eqb (node_at t n).source3.0 0) y in
            inl ((number_is 2 (omega arith)).0 (eqb-true _ 2 w.0), size_zero (word t n 3) (as_count_lem (word t n 3) ∙ sym (third_node t n) ∙ eqb-true _ 0 w.1))),
        ⊎_elim (λ w. rw ((number_is 2 (omega arith)).1 w.0, third_node t n, w.1) refl) (λ w. rw ((number_is 3 (omega arith)).1 w) refl),
      )

      row_stack : o ≡ 23 → (eqb (size_of (node_at t n).number) 3 || (eqb (size_of (node_at t n).number) 2 && eqb (node_at t n).source3.0 0)) ≡ rows_right (node_at t n) params rank
      row_stack z = rows_stack (node_at t n) params rank (omega (arith, is 23 z)) is_operation_lem refl

      shaped : rows_right (node_at t n) params rank ≡ true → (4 ≤ o) × (o ≤ 7) → ShapeRow t n
      shaped e h =
          bool_cases (ltb o 6)
          (λ l. shape_row.0 (rows_shape (node_at t n) params rank (rw op_is h.0) (rw op_is (ltb-true o 6 l)) ∙ e))
          (λ l. (offset_rows (ltb-false o 6 l) h.1 e).0)

      tested : rows_right (node_at t n) params rank ≡ true → Rule7 t n o params rank
      tested e =
          record {
            slot = λ z. (param_row z e).0.0;
            limits = λ z. (param_row z e).0.1;
            device = ⊎_elim (λ z. (param_row z e).1)
                (λ z. device_says.0 (rows_load (node_at t n) params rank (is 20 z) ∙ e));
            shape = ⊎_elim (λ z. (param_row z e).2) (shaped e);
            number = λ z. (reduce_row z e).0;
            permutation = λ z. permuted_row.0 (rows_permute (node_at t n) params rank (is 2 z) ∙ e);
            flags = ⊎_elim (λ z. flag_row.0 (rows_flip (node_at t n) params rank (is 3 z) ∙ e)) (λ z. (reduce_row z e).1);
            offsets = ⊎_elim (λ z. (offset_rows (omega (arith, z)) (omega (arith, z)) e).1) (λ z. (offset_rows (omega (arith, z)) (omega (arith, z)) e).1);
            stack = λ z. stack_row.0 (row_stack z ∙ e);
          }

      ruled : Rule7 t n o params rank → Row7 o → rows_right (node_at t n) params rank ≡ true
      ruled r (constant z) = sym (rows_const (node_at t n) params rank (is 0 z))
      ruled r (given z) =
          sym (rows_param (node_at t n) params rank (is 1 z))
          ∙ and_true_of _ _ ((param_says params).1 (r.slot z, r.limits z)) (and_true_of _ _ (device_says.1 (r.device (inl z))) (shape_row.1 (r.shape (inl z))))
      ruled r (permutes z) = sym (rows_permute (node_at t n) params rank (is 2 z)) ∙ permuted_row.1 (r.permutation z)
      ruled r (flips z) = sym (rows_flip (node_at t n) params rank (is 3 z)) ∙ flag_row.1 (r.flags (inl z))
      ruled r (shapes low high) = sym (rows_shape (node_at t n) params rank (rw op_is low) (rw op_is (omega arith))) ∙ shape_row.1 (r.shape (inr (low, omega arith)))
      ruled r (places z) =
          sym (rows_offset (node_at t n) params rank (rw op_is (six z)) (rw op_is (omega (arith, seven z))))
          ∙ and_true_of _ _ (shape_row.1 (r.shape (inr (omega (arith, six z), seven z)))) (offset_row.1 (r.offsets z))
        where
          six : (o ≡ 6) ⊎ (o ≡ 7) → 6 ≤ o
          six = ⊎_elim (λ z. omega (arith, z)) (λ z. omega (arith, z))

          seven : (o ≡ 6) ⊎ (o ≡ 7) → o ≤ 7
          seven = ⊎_elim (λ z. omega (arith, z)) (λ z. omega (arith, z))
      ruled r (free low high) = sym (rows_any (node_at t n) params rank (rw op_is low) (rw op_is (omega arith)))
      ruled r (reduces z) = sym (rows_reduce (node_at t n) params rank (is 19 z)) ∙ and_true_of _ _ (number_says.1 (r.number z)) (flag_row.1 (r.flags (inr z)))
      ruled r (loads z) = sym (rows_load (node_at t n) params rank (is 20 z)) ∙ device_says.1 (r.device (inr z))
      ruled r (bare low high) =
          sym (rows_none (node_at t n) params rank (rw op_is (omega arith)) (λ y. absurd (omega (arith, op_is, y))) (λ y. absurd (omega (arith, op_is, y))) (rw op_is (omega arith)))
      ruled r (stacks z) = sym (row_stack z) ∙ stack_row.1 (r.stack z)

    no_source_rank : o < 2 → length (first (node_at t n) earlier).extents ≤ 4
    unfolding source_of among
    no_source_rank l =
        let none : uses_word o 1 ≡ false = for_range (λ (k : ℕ). uses_word k 1 ≡ false) o 0 2 (refl then refl then tt) (omega arith) l in
        rw (reads_not 1 (omega arith) (omega arith) (λ u. not_false u.0 none)) (omega arith)

    says_7 : length (source t n earlier 1).extents ≤ 4 → Exactly (rule_holds t n earlier 7 ≡ true) (Rule7 t n o (params_before t n) (length (source t n earlier 1).extents))
    unfolding rule_holds among
    says_7 h =
        bool_cases (ltb o 2)
        (λ l. let m = ltb-true o 2 l in (
          λ e. reranked m (tested params _ (source_rank m) e),
          λ r. ruled params _ (source_rank m) (reranked m r) (which_7 o known),
        ))
        (λ l. rw (first_is (reads_1 (ltb-false o 2 l))) (tested params _ h, λ r. ruled params _ h r (which_7 o known)))
      where
        params : ℕ
        params = params_before t n

        -- CONST and PARAM have no source, and no row that is measured by one
        source_rank : o < 2 → length (first (node_at t n) earlier).extents ≤ 4
        source_rank l = no_source_rank l

        reranked : {m k : ℕ} → o < 2 → Rule7 t n o m k → {j : ℕ} → Rule7 t n o m j
        reranked l r =
            record {
              slot = r.slot;
              limits = r.limits;
              device = r.device;
              shape = r.shape;
              number = r.number;
              permutation = λ z. absurd (omega (arith, z));
              flags = ⊎_elim (λ z. absurd (omega (arith, z))) (λ z. absurd (omega (arith, z)));
              offsets = ⊎_elim (λ z. absurd (omega (arith, z))) (λ z. absurd (omega (arith, z)));
              stack = r.stack;
            }

    -- ---- rule 8

    module _ (r : List ℕ) (offset : ℕ → ℕ) where
      -- what stands for a source that is not read is not named in its row
      other_sources : {s₁ s₂ s₃ u₁ u₂ u₃ : List ℕ} → (ReadsSource t n o 1 → s₁ ≡ u₁) → (ReadsSource t n o 2 → s₂ ≡ u₂) → (ReadsSource t n o 3 → s₃ ≡ u₃)
          → Rule8 t n o s₁ s₂ s₃ r offset → Rule8 t n o u₁ u₂ u₃ r offset
      other_sources e₁ e₂ e₃ w =
          record {
            reshape = λ z. rw (e₁ (reads_1 (omega (arith, z)))) at (w.reshape z);
            expand = λ z. rw (e₁ (reads_1 (omega (arith, z)))) at (w.expand z);
            pad = λ z. rw (e₁ (reads_1 (omega (arith, z)))) at (w.pad z);
            shrink = λ z. rw (e₁ (reads_1 (omega (arith, z)))) at (w.shrink z);
            two = λ low high. rw (e₁ (reads_1 (omega arith)), e₂ (reads_2 (inl (low, omega arith)))) at (w.two low high);
            three = λ z. rw (e₁ (reads_1 (omega (arith, z))), e₂ (reads_2 (inl (omega (arith, z), omega (arith, z)))), e₃ (reads_3 (inl z))) at (w.three z);
            fill = λ z. rw (e₁ (reads_1 (omega (arith, z))), e₂ (reads_2 (inr (inl z)))) at (w.fill z);
            stack = λ z. rw (e₁ (reads_1 (omega (arith, z))), e₂ (reads_2 (inr (inr z)))) at (w.stack z);
            stack_third = λ z y. rw (e₁ (reads_1 (omega (arith, z))), e₃ (reads_3 (inr (z, y)))) at (w.stack_third z y);
          }

      says_8 : length (source t n earlier 1).extents ≤ 4 → ((j k : ℕ) → 1 ≤ get_or (source t n earlier j).extents k 1)
          → (4 ≤ o → o ≤ 7 → IsRow t n 9 r) → ((o ≡ 6) ⊎ (o ≡ 7) → (k : ℕ) → k < 4 → word t n (13 + k) ≡ pos (offset k))
          → Exactly (rule_holds t n earlier 8 ≡ true) (Rule8 t n o (source t n earlier 1).extents (source t n earlier 2).extents (source t n earlier 3).extents r offset × (count (derive_node t n earlier).extents ≤ 1048576))
      unfolding rule_holds shape_right derive_node derived_of size_of among
      says_8 ranked positive shape offsets = (
        λ e.
            let w = and_true (shapes_agree (node_at t n) (first (node_at t n) earlier).extents (second (node_at t n) earlier).extents (third (node_at t n) earlier).extents) _ e in
            (other_sources s1 s2 s3 (shapes.0 w.0), leb-true _ 1048576 w.1),
        λ w. and_true_of _ _ (shapes.1 (other_sources (λ h. sym (s1 h)) (λ h. sym (s2 h)) (λ h. sym (s3 h)) w.0)) (le-leb _ 1048576 w.1),
      )
        where
          s1 : ReadsSource t n o 1 → (first (node_at t n) earlier).extents ≡ (source t n earlier 1).extents
          s1 h = ap (λ (d : Derived). d.extents) (first_is h)

          s2 : ReadsSource t n o 2 → (second (node_at t n) earlier).extents ≡ (source t n earlier 2).extents
          s2 h = ap (λ (d : Derived). d.extents) (second_is h)

          s3 : ReadsSource t n o 3 → (third (node_at t n) earlier).extents ≡ (source t n earlier 3).extents
          s3 h = ap (λ (d : Derived). d.extents) (third_is h)

          -- the sources that are there have extents from 1 on, and what stands for the others has none
          some : (k : ℕ) (s : NodeNumber) → s.0 ≡ as_count (word t n k) → (i : ℕ) → 1 ≤ get_or (source_of earlier (node_at t n) k s).extents i 1
          some k s w i = some_extent k s w (positive k) i

          four : (o ≡ 6) ⊎ (o ≡ 7) → (k : ℕ) → k < length (first (node_at t n) earlier).extents → k < 4
          four z k l = let two : 2 ≤ o = ⊎_elim (λ y. omega (arith, y)) (λ y. omega (arith, y)) z in omega (arith, l, ap length (s1 (reads_1 two)), ranked)

          shapes : Exactly (shapes_agree (node_at t n) (first (node_at t n) earlier).extents (second (node_at t n) earlier).extents (third (node_at t n) earlier).extents ≡ true)
              (Rule8 t n o (first (node_at t n) earlier).extents (second (node_at t n) earlier).extents (third (node_at t n) earlier).extents r offset)
          shapes =
              shapes_say t n (node_at t n) o op_is known _ _ _ r offset (some 1 (node_at t n).source1 (first_node t n)) (some 2 (node_at t n).source2 (second_node t n))
              (λ low high. row_is t n 9 (list_of (node_at t n).rowa) refl (row_a_at t n) r (shape low high))
              (λ z k l. row_b_at t n k (four z k l) ∙ ap size_of (offsets z k (four z k l)))
              (λ z. let both = reads_says 3 (omega arith) (omega arith) in (λ e. (both.0 e).1 z refl, λ w. both.1 (reads_3 (inr (z, w)))))

    -- ---- rules 9 and 10

    -- the device of source k, 0 where it is not read
    abbrev pub Device : ℕ → ℕ → Type 0
    Device k d = (ReadsSource t n o k → d ≡ (source t n earlier k).device) × ((ReadsSource t n o k → ⊥) → d ≡ 0)

    pub device_of : (k : ℕ) (s : NodeNumber) → 1 ≤ k → k ≤ 3 → s.0 ≡ as_count (word t n k) → Device k (source_of earlier (node_at t n) k s).device
    unfolding source_of
    device_of k s a b w = (λ u. rw ((reads_says k a b).1 u, w) refl, λ u. rw (reads_not k a b u) refl)

    -- a source is read, or it is not
    pub reads_or : {C : Type 0} (k : ℕ) → 1 ≤ k → k ≤ 3 → (ReadsSource t n o k → C) → ((ReadsSource t n o k → ⊥) → C) → C
    reads_or k a b f g = bool_cases (reads (node_at t n) k) (λ e. f ((reads_says k a b).0 e)) (λ e. g (λ u. not_false ((reads_says k a b).1 u) e))

    -- any two of three
    pub says_9 : Exactly (rule_holds t n earlier 9 ≡ true) (Rule9 t n earlier o)
    unfolding rule_holds among
    says_9 = (
      λ e j k j1 j3 k1 k3 uj uk.
          let w = agree_pairs _ _ _ e in
          for_range (λ (i : ℕ). ReadsSource t n o i → Share (source t n earlier i).device (source t n earlier k).device) j 1 3
          ((λ u. for_range (λ (i : ℕ). ReadsSource t n o i → Share (source t n earlier 1).device (source t n earlier i).device) k 1 3
          ((λ v. inr (inr refl)) then (λ v. at (d1.0 u) (d2.0 v) w.0) then (λ v. at (d1.0 u) (d3.0 v) w.1) then tt) k1 (omega arith) uk)
          then (λ u. for_range (λ (i : ℕ). ReadsSource t n o i → Share (source t n earlier 2).device (source t n earlier i).device) k 1 3
          ((λ v. at (d2.0 u) (d1.0 v) (turned w.0)) then (λ v. inr (inr refl)) then (λ v. at (d2.0 u) (d3.0 v) w.2) then tt) k1 (omega arith) uk)
          then (λ u. for_range (λ (i : ℕ). ReadsSource t n o i → Share (source t n earlier 3).device (source t n earlier i).device) k 1 3
          ((λ v. at (d3.0 u) (d1.0 v) (turned w.1)) then (λ v. at (d3.0 u) (d2.0 v) (turned w.2)) then (λ v. inr (inr refl)) then tt) k1 (omega arith) uk)
          then tt) j1 (omega arith) uj,
      λ h.
          pairs_agree _ _ _
          (pair 1 2 (omega arith) (omega arith) (omega arith) (omega arith) d1 d2 (λ u v. h 1 2 (omega arith) (omega arith) (omega arith) (omega arith) u v))
          (pair 1 3 (omega arith) (omega arith) (omega arith) (omega arith) d1 d3 (λ u v. h 1 3 (omega arith) (omega arith) (omega arith) (omega arith) u v))
          (pair 2 3 (omega arith) (omega arith) (omega arith) (omega arith) d2 d3 (λ u v. h 2 3 (omega arith) (omega arith) (omega arith) (omega arith) u v)),
    )
      where
        d1 : Device 1 (first (node_at t n) earlier).device
        d1 = device_of 1 (node_at t n).source1 (omega arith) (omega arith) (first_node t n)

        d2 : Device 2 (second (node_at t n) earlier).device
        d2 = device_of 2 (node_at t n).source2 (omega arith) (omega arith) (second_node t n)

        d3 : Device 3 (third (node_at t n) earlier).device
        d3 = device_of 3 (node_at t n).source3 (omega arith) (omega arith) (third_node t n)

        at : {d e d' e' : ℕ} → d ≡ d' → e ≡ e' → Share d e → Share d' e'
        at p q s = rw (p, q) at s

        turned : {d e : ℕ} → Share d e → Share e d
        turned = ⊎_elim (λ z. inr (inl z)) (⊎_elim (λ z. inl z) (λ z. inr (inr (sym z))))

        pair : {d e : ℕ} (j k : ℕ) → 1 ≤ j → j ≤ 3 → 1 ≤ k → k ≤ 3 → Device j d → Device k e
            → (ReadsSource t n o j → ReadsSource t n o k → Share (source t n earlier j).device (source t n earlier k).device) → Share d e
        pair j k j1 j3 k1 k3 p q h =
            reads_or j j1 j3 (λ u. reads_or k k1 k3 (λ v. at (sym (p.0 u)) (sym (q.0 v)) (h u v)) (λ v. inr (inl (q.1 v)))) (λ u. inl (p.1 u))

    says_10 : Exactly (rule_holds t n earlier 10 ≡ true) (Rule10 t n earlier o)
    unfolding rule_holds divisor_right among
    says_10 = (
      λ e d low high.
          let bounds = second_is (reads_2 (inl (divides d))) in
          let z : not (holds (source t n earlier 2).bounds (pos 0)) ≡ true = rw bounds at (implied _ _ e (among_two d)) in
          false≢true (rw (holding (source t n earlier 2).bounds (pos 0) (record { low = low; high = high })) at z),
      λ h. implied_of _ _ (λ m.
          let d = two_among m in
          let bounds = second_is (reads_2 (inl (divides d))) in
          rw bounds
          (bool_cases (holds (source t n earlier 2).bounds (pos 0)) (λ z. let w = held (source t n earlier 2).bounds (pos 0) z in absurd (h d w.low w.high)) (λ z. rw z refl))),
    )
      where
        divides : (o ≡ 12) ⊎ (o ≡ 13) → (9 ≤ o) × (o ≤ 18)
        divides = ⊎_elim (λ z. omega (arith, z)) (λ z. omega (arith, z))

        among_two : (o ≡ 12) ⊎ (o ≡ 13) → among (node_at t n).op (12 ∷ 13 ∷ []) ≡ true
        among_two = ⊎_elim (λ z. rw (op_is, z) refl) (λ z. rw (op_is, z) refl)

        two_among : among (node_at t n).op (12 ∷ 13 ∷ []) ≡ true → (o ≡ 12) ⊎ (o ≡ 13)
        two_among m = or_true (eqb o 12) _ (rw op_is at m) (λ z. inl (eqb-true o 12 z)) (λ z. or_true (eqb o 13) false z (λ y. inr (eqb-true o 13 y)) (λ y. absurd (false≢true y)))

  says_11 : (derive_node t n earlier).dtype ≤ 3
      → Exactly (rule_holds t n earlier 11 ≡ true) (Rule11 (derive_node t n earlier).dtype (derive_node t n earlier).bounds.low (derive_node t n earlier).bounds.high)
  unfolding rule_holds bounds_in_type derive_node among
  says_11 h = ranges (derive_node t n earlier).dtype (derive_node t n earlier).bounds h

pub rules_say : RulesSay
rules_say =
    record {
      rule_2 = says_2;
      rule_3 = says_3;
      rule_4 = says_4;
      rule_5 = says_5;
      rule_6 = says_6;
      rule_7 = says_7;
      rule_8 = λ t n earlier o r offset q k. says_8 t n earlier o q k r offset;
      rule_9 = says_9;
      rule_10 = says_10;
      rule_11 = says_11;
    }
