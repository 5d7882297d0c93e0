-- What acceptance says of each node, at every prefix of a plan.
use Prim.Native.Nat.{ℕ, ◌<◌, ◌≤◌}
use mathlib.Core.Path.{◌≡◌, refl, ap}
use mathlib.Core.Bool.{Bool, true, false, false≢true}
use mathlib.Core.List.{List}
use native.Mathlib.Omega.{arith}
use borrow.Author.Tests.{ltb-true, ltb-false, leb-true}
use lib.IntN.{ℤ}
use lib.Dec.{ltb}
use lib.ListN.{length, get_or, take, length-take, get_or-eq_default}
use lib.Seq.{get_or-take}
use Rattle.laws.specs.Lists.{among}
use Rattle.laws.proofs.Booleans.{bool_cases, cond_both, and_true}
use Rattle.laws.proofs.Induction.{each_below}
use Rattle.plan.specs.declared.Node.{Node}
use Rattle.plan.specs.declared.NodeNumber.{NodeNumber}
use Rattle.plan.specs.Operations.{PERMUTE, STACK, is_operation}
use Rattle.plan.specs.Types.{contains, range_of}
use Rattle.plan.specs.Words.{node_at, list_of, params_before, size_of, reads}
use Rattle.shapes.specs.Rows.{is_permutation}
use Rattle.shapes.specs.Rules.{element_limit, shapes_agree, result_extents}
use Rattle.shapes.proofs.Extents.{Extents, no_extents, result_extents_lem}
use Rattle.bounds.specs.Rules.{result_bounds}
use Rattle.rules.specs.Rules.{Derived, no_source, source_of, implies, sources_earlier, rows_right, shape_right, divisor_right, bounds_in_type, derived_of}
use Rattle.rules.proofs.RowRule.{permute_rule, stack_rule}
use Rattle.shapes.proofs.Stacking.{stack_rank}
use Rattle.verifier.specs.Check.{first, second, third, count_of}
use Rattle.verifier.specs.Meets.{rule_holds, NodeMeets, NodesMeet}

implied : (p q : Bool) → implies p q ≡ true → p ≡ true → q ≡ true
implied true q e h = e
implied false q e h = absurd (false≢true h)

-- rule 4: the sources that are read are earlier nodes
pub sources_before : (x : Node) (n : ℕ) → sources_earlier x n ≡ true
    → (reads x 1 ≡ true → x.source1.0 < n) × (reads x 2 ≡ true → x.source2.0 < n) × (reads x 3 ≡ true → x.source3.0 < n)
unfolding sources_earlier
sources_before x n e =
    let f = and_true (implies (reads x 1) (ltb x.source1.0 n)) _ e in
    let g = and_true (implies (reads x 2) (ltb x.source2.0 n)) (implies (reads x 3) (ltb x.source3.0 n)) f.1 in
    (λ u. ltb-true _ _ (implied (reads x 1) _ f.0 u), λ u. ltb-true _ _ (implied (reads x 2) _ g.0 u), λ u. ltb-true _ _ (implied (reads x 3) _ g.1 u))

-- ---- one node, from its rules

module _ (t : List ℤ) (i : ℕ) (earlier : List Derived) (d : Derived) (m : NodeMeets t i earlier d) where
  pub op_known : is_operation (node_at t i).op ≡ true
  unfolding rule_holds among
  op_known = m.holds 2 (omega arith) (omega arith)

  sources_right : sources_earlier (node_at t i) i ≡ true
  unfolding rule_holds among
  sources_right = m.holds 4 (omega arith) (omega arith)

  pub rows_right_lem : rows_right (node_at t i) (params_before t i) (length (first (node_at t i) earlier).extents) ≡ true
  unfolding rule_holds among
  rows_right_lem = m.holds 7 (omega arith) (omega arith)

  shape_right_lem : shape_right (node_at t i) (first (node_at t i) earlier).extents (second (node_at t i) earlier).extents (third (node_at t i) earlier).extents ≡ true
  unfolding rule_holds among
  shape_right_lem = m.holds 8 (omega arith) (omega arith)

  pub divisor_right_lem : divisor_right (node_at t i).op (second (node_at t i) earlier).bounds ≡ true
  unfolding rule_holds among
  divisor_right_lem = m.holds 10 (omega arith) (omega arith)

  -- "the source always being an earlier node"
  pub source1_before : reads (node_at t i) 1 ≡ true → (node_at t i).source1.0 < i
  source1_before = (sources_before (node_at t i) i sources_right).0

  pub source2_before : reads (node_at t i) 2 ≡ true → (node_at t i).source2.0 < i
  source2_before = (sources_before (node_at t i) i sources_right).1

  pub source3_before : reads (node_at t i) 3 ≡ true → (node_at t i).source3.0 < i
  source3_before = (sources_before (node_at t i) i sources_right).2

  pub permutation_row : (node_at t i).op ≡ PERMUTE → is_permutation (length (first (node_at t i) earlier).extents) (list_of (node_at t i).rowa) ≡ true
  permutation_row q = permute_rule (node_at t i) _ _ rows_right_lem q

  -- a STACK has a source
  pub stack_some : (node_at t i).op ≡ STACK → 0 < size_of (node_at t i).number
  stack_some q = omega (arith, (stack_rule (node_at t i) _ _ rows_right_lem q).0)

  pub shapes_agree_lem : shapes_agree (node_at t i) (first (node_at t i) earlier).extents (second (node_at t i) earlier).extents (third (node_at t i) earlier).extents ≡ true
  unfolding shape_right
  shapes_agree_lem = (and_true _ _ shape_right_lem).0

  pub extents_derived : d.extents ≡ result_extents (node_at t i) (first (node_at t i) earlier).extents (second (node_at t i) earlier).extents (third (node_at t i) earlier).extents
  unfolding derived_of
  extents_derived = ap (λ (d : Derived). d.extents) m.derived

  pub bounds_derived : d.bounds
      ≡ result_bounds (node_at t i) (first (node_at t i) earlier).extents (first (node_at t i) earlier).bounds (second (node_at t i) earlier).bounds (third (node_at t i) earlier).bounds
  unfolding derived_of
  bounds_derived = ap (λ (d : Derived). d.bounds) m.derived

  pub in_type : contains (range_of d.dtype) d.bounds ≡ true
  unfolding bounds_in_type rule_holds among
  in_type = rw m.derived (m.holds 11 (omega arith) (omega arith))

  pub few_elements : count_of d ≤ element_limit
  unfolding shape_right
  few_elements = rw extents_derived (leb-true _ _ (and_true (shapes_agree (node_at t i) (first (node_at t i) earlier).extents (second (node_at t i) earlier).extents (third (node_at t i) earlier).extents) _ shape_right_lem).1)

-- ---- the sources of a node

-- what holds of the records before node i, and of none, holds of its sources
pub source_has : (P : Derived → Type 0) (ds : List Derived) (i : ℕ) → P no_source → ((j : ℕ) → j < i → P (get_or ds j no_source))
    → (x : Node) (k : ℕ) (s : NodeNumber) → P (source_of (take i ds) x k s)
unfolding source_of
source_has P ds i none before x k s =
    cond_both P (reads x k) (get_or (take i ds) s.0 no_source) no_source (λ u. here) (λ u. none)
  where
    here : P (get_or (take i ds) s.0 no_source)
    here =
        bool_cases (ltb s.0 i)
        (λ l. let h : s.0 < i = ltb-true _ _ l in rw (get_or-take i ds s.0 no_source h) (before s.0 h))
        (λ l.
        let h : i ≤ s.0 = ltb-false _ _ l in
        let past : length (take i ds) ≤ s.0 = rw length-take (omega arith) in
        rw (get_or-eq_default (take i ds) no_source past) none)

-- a source that is read is its record
pub source_is : (ds : List Derived) (i : ℕ) (x : Node) (k : ℕ) (s : NodeNumber) → reads x k ≡ true → s.0 < i → source_of (take i ds) x k s ≡ get_or ds s.0 no_source
unfolding source_of
source_is ds i x k s u h = rw (u, get_or-take i ds s.0 no_source h) refl

-- ---- all nodes

module _ (t : List ℤ) (n : ℕ) (ds : List Derived) (m : NodesMeet t n ds) where
  -- "1..1048576" and "Rank is 0 to 4", of every node
  pub extents_at_lem : (i : ℕ) → i < n → Extents (get_or ds i no_source).extents
  extents_at_lem =
      each_below (λ (i : ℕ). Extents (get_or ds i no_source).extents) n
      (λ i h before.
      let x = node_at t i in
      let has = source_has (λ (d : Derived). Extents d.extents) ds i no_extents before (node_at t i) in
      rw (extents_derived t i (take i ds) (get_or ds i no_source) (m.each i h))
      (result_extents_lem (node_at t i) _ _ _ (has 1 (node_at t i).source1) (has 2 (node_at t i).source2) (has 3 (node_at t i).source3)
      (λ q. (stack_some t i (take i ds) (get_or ds i no_source) (m.each i h) q, stack_rank (node_at t i) _ _ _ q (shapes_agree_lem t i (take i ds) (get_or ds i no_source) (m.each i h))))))
