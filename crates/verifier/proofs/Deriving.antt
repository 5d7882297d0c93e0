-- The loop over the nodes: what is known before node i, and each way on from it.
use Rattle.std.specs.Prelude.{Ok, Err}
use Prim.Native.Nat.{ℕ, zero, suc, ◌+◌, ◌<◌, ◌≤◌}
use mathlib.Core.Path.{◌≡◌, refl, sym, ap, ◌∙◌}
use mathlib.Core.Bool.{Bool, true, false, cond}
use mathlib.Core.List.{List, [], ◌∷◌, ◌++◌, map, map-append}
use native.Mathlib.Omega.{arith}
use native.Mathlib.Numerals.{add-one}
use borrow.Author.Tests.{leb-true}
use lib.IntN.{ℤ}
use lib.Dec.{eqb}
use lib.ListN.{length, get_or, set, take, length-set, length-map}
use lib.Seq.{take-suc-set, get_or-take, length-take-le}
use Rattle.laws.specs.Lists.{sum}
use Rattle.laws.specs.Numbering.{count}
use Rattle.laws.proofs.Booleans.{bool_cases, and_true}
use Rattle.laws.proofs.Lists.{get_or_map, take_whole, sum_append}
use Rattle.plan.specs.declared.Node.{Node}
use Rattle.plan.specs.declared.NodeNumber.{NodeNumber}
use Rattle.plan.specs.declared.faults.Fault.{Fault}
use Rattle.plan.specs.declared.faults.Refusal.{Refusal as Refused}
use Rattle.plan.specs.Words.{node_at, over_params, params_before, reads}
use Rattle.plan.specs.Answers.{Outcome, accepted, refuse, in_turn, AllHold, FirstFailing}
use Rattle.plan.specs.Coded.{fault_number}
use Rattle.plan.proofs.Outcomes.{first_front, first_back, all_both, order_fails, order_holds, turn_more, turn_stays}
use Rattle.shapes.specs.Rules.{element_limit, shapes_agree, result_extents}
use Rattle.rules.specs.declared.Record.{Record}
use Rattle.rules.specs.declared.Judged.{Judged}
use Rattle.rules.specs.Rules.{Derived, no_source, source_of, derived_of, shape_right}
use Rattle.verifier.specs.Check.{first, second, third, derive_node, node_rules, check_node, check_to, count_of, total_of}
use Rattle.rules.specs.Code.{view_of, early_rules_of, shape_rules_of, value_rules_of, Judges, Early}
use Rattle.verifier.specs.Verdicts.{Accepts, Breaks}
use Rattle.verifier.proofs.Accepted.{checked_meets}
use Rattle.verifier.proofs.Numbers.{OfNode, number_of}
use Rattle.verifier.proofs.Nodes.{few_elements, source_has, sources_before}

-- the check of n nodes ends with this number at node i
pub record Stops (t : List ℤ) (n number i : ℕ) : Type 0 where
  pub range : OfNode number
  pub place : i < n
  pub refuses : check_to t n ≡ refuse number i

-- before node i: the records of the nodes before it, the PARAMs among them and the total of their elements
pub record SoFar (t : List ℤ) (i : ℕ) (ds : List Record) (params total : ℕ) : Type 0 where
  pub size : length ds ≡ 256
  pub checked : check_to t i ≡ accepted (map view_of (take i ds))
  pub turn : params ≡ params_before t i
  pub summed : total ≡ total_of (map view_of (take i ds))

total_snoc : (ds : List Derived) (d : Derived) → total_of (ds ++ d ∷ []) ≡ total_of ds + count_of d
unfolding total_of sum
total_snoc ds d = ap sum (map-append count_of ds (d ∷ [])) ∙ sum_append (map count_of ds) (count_of d ∷ []) ∙ omega arith

pub so_far_none : (t : List ℤ) (ds : List Record) → length ds ≡ 256 → SoFar t 0 ds 0 0
unfolding in_turn over_params total_of sum
so_far_none t ds l = record { size = l; checked = refl; turn = refl; summed = refl }

-- what rules 5 to 11 say of a refusal's number
late_number : (x : Node) (params : ℕ) (a b c : Derived) (f : Fault) → Judges x params a b c (Err f) → OfNode (fault_number f)
late_number x params a b c f j = number_of (shape_rules_of x params a b c ++ value_rules_of x a b c) (fault_number f) refl j

module _ (t : List ℤ) (i : ℕ) (ds : List Record) (params total : ℕ) (so : SoFar t i ds params total) (small : i ≤ 256) where
  abbrev earlier : List Derived
  earlier = map view_of (take i ds)

  as_many : length (map view_of (take i ds)) ≡ i
  as_many = length-map (take i ds) view_of ∙ length-take-le i ds (omega (arith, so.size))

  -- ---- sources

  -- a source that the code picked is the one that the rules name
  pub source_view : (d : Record) (x : Node) (k : ℕ) (s : NodeNumber) (place : ℕ) (r : Record) → (reads x k ≡ true → s.0 < i) → (s.0 < i → place ≡ s.0)
      → view_of r ≡ cond (reads x k) (view_of (get_or ds place d)) no_source → view_of r ≡ source_of (map view_of (take i ds)) x k s
  unfolding source_of
  source_view d x k s place r before at e =
      e ∙ bool_cases (reads x k) (λ u. rw u (used (before u))) (λ u. rw u refl)
    where
      used : s.0 < i → view_of (get_or ds place d) ≡ get_or (map view_of (take i ds)) s.0 no_source
      used l =
          let here : s.0 < length (take i ds) = rw (length-take-le i ds (omega (arith, so.size))) l in
          rw (at l, get_or_map view_of (take i ds) s.0 no_source d here, get_or-take i ds s.0 d l) refl

  -- its count of elements is at most the limit
  pub source_few : (x : Node) (k : ℕ) (s : NodeNumber) → count (source_of (map view_of (take i ds)) x k s).extents ≤ element_limit
  unfolding count
  source_few x k s =
      let meets = checked_meets t i earlier so.checked in
      rw (take_whole i earlier (omega (arith, as_many))) at
      (source_has (λ (d : Derived). count_of d ≤ element_limit) earlier i (omega arith) (λ j l. few_elements t j (take j earlier) (get_or earlier j no_source) (meets.each j l)) x k s)

  -- ---- a refusal

  module _ (n : ℕ) (l : i < n) where
    stop : (number : ℕ) → OfNode number → FirstFailing (node_rules t i (map view_of (take i ds))) number → Stops t n number i
    unfolding check_node
    stop number range f =
        record {
          range = range;
          place = l;
          refuses =
              turn_stays (check_node t) [] (suc i) n l
              (turn_more (check_node t) [] i so.checked ∙ order_fails (node_rules t i earlier) i (accepted (earlier ++ derive_node t i earlier ∷ [])) f);
        }

    pub stop_early : (f : Fault) → Early t i (Err f) → Stops t n (fault_number f) i
    unfolding node_rules node_at
    stop_early f e = stop (fault_number f) (number_of (early_rules_of t i) (fault_number f) refl e) (first_front _ e)

  -- ---- rules 5 to 11, with the sources that the code picked

  module _ (x : Node) (q : x ≡ node_at t i) (a b c : Derived) (ea : a ≡ first x (map view_of (take i ds))) (eb : b ≡ second x (map view_of (take i ds))) (ec : c ≡ third x (map view_of (take i ds)))
      (h : AllHold (early_rules_of t i)) where
    rules_are : node_rules t i (map view_of (take i ds)) ≡ early_rules_of t i ++ (shape_rules_of x params a b c ++ value_rules_of x a b c)
    unfolding node_rules node_at
    rules_are = rw (ea, eb, ec, so.turn, q) refl

    derived_is : derive_node t i (map view_of (take i ds)) ≡ derived_of x a b c
    unfolding derive_node
    derived_is = rw (ea, eb, ec, q) refl

    pub stop_late : (n : ℕ) → i < n → (f : Fault) → Judges x params a b c (Err f) → Stops t n (fault_number f) i
    stop_late n l f j =
        stop n l (fault_number f) (late_number x params a b c f j) (rw rules_are (first_back (early_rules_of t i) h j))

    module _ (judged : Judged) (l : i < 256) (j : Judges x params a b c (Ok judged)) where
      abbrev r : Record
      r = judged.record

      abbrev n : ℕ
      n = judged.count

      records_are : map view_of (take (suc i) (set ds i r)) ≡ map view_of (take i ds) ++ view_of r ∷ []
      records_are = ap (map view_of) (take-suc-set ds i r (omega (arith, so.size))) ∙ map-append view_of (take i ds) (r ∷ [])

      checked_more : check_to t (suc i) ≡ accepted (map view_of (take (suc i) (set ds i r)))
      unfolding check_node
      checked_more =
          let rules : AllHold (node_rules t i earlier) = rw rules_are (all_both (early_rules_of t i) (shape_rules_of x params a b c ++ value_rules_of x a b c) h j.0) in
          let derived : derive_node t i earlier ≡ view_of r = derived_is ∙ sym j.1 in
          turn_more (check_node t) [] i so.checked
          ∙ order_holds (node_rules t i earlier) i (accepted (earlier ++ derive_node t i earlier ∷ [])) rules
          ∙ ap (λ (d : Derived). accepted (earlier ++ d ∷ [])) derived
          ∙ ap {B = Outcome (List Derived)} accepted (sym records_are)

      turn_one : params + cond (eqb x.op 1) 1 0 ≡ params_before t (suc i)
      unfolding over_params
      turn_one = rw (so.turn, q) refl

      summed_more : total + n ≡ total_of (map view_of (take (suc i) (set ds i r)))
      summed_more = rw (records_are, total_snoc earlier (view_of r), so.summed, j.2) refl

      pub one_more : SoFar t (i + 1) (set ds i r) (params + cond (eqb x.op 1) 1 0) (total + n)
      one_more = rw add-one (record { size = length-set ds i r ∙ so.size; checked = checked_more; turn = turn_one; summed = summed_more })

-- what rules 2 to 4 say of the node that the code read
module _ (t : List ℤ) (i : ℕ) (x : Node) (q : x ≡ node_at t i) (h : AllHold (early_rules_of t i)) where
  pub before_of : (reads x 1 ≡ true → x.source1.0 < i) × (reads x 2 ≡ true → x.source2.0 < i) × (reads x 3 ≡ true → x.source3.0 < i)
  before_of = rw q (sources_before (node_at t i) i h.1.1.0)

-- ---- what keeps the loop's sums small

pub one_or_none : (b : Bool) → cond b 1 0 ≤ 1
one_or_none true = omega arith
one_or_none false = omega arith

pub params_few : (t : List ℤ) (i : ℕ) → params_before t i ≤ i
unfolding over_params
params_few t zero = omega arith
params_few t (suc i) = omega (arith, params_few t i, one_or_none (eqb (node_at t i).op 1))

pub judged_few : (x : Node) (params : ℕ) (a b c : Derived) (r : Judged) → Judges x params a b c (Ok r) → r.count ≤ 1048576
unfolding shape_right derived_of
judged_few x params a b c r j =
    let limit = leb-true _ _ (and_true (shapes_agree x a.extents b.extents c.extents) _ j.0.1.1.1.0).1 in
    let extents : (view_of r.record).extents ≡ result_extents x a.extents b.extents c.extents = ap (λ (d : Derived). d.extents) j.1 in
    rw (j.2, extents) limit

-- ---- the ways out

module _ (t : List ℤ) (n : ℕ) where
  pub derives_stop : (f : Fault) (place : ℕ) {e : Refused} → Stops t n (fault_number f) place → e ≡ record { fault = f; place = place } → Breaks (check_to t n) n e
  derives_stop f place s is = rw is (record { is_check = s.refuses; small = (omega (arith, s.range), omega (arith, s.place)) })

  pub derives_done : (ds : List Record) (params total : ℕ) → SoFar t n ds params total → Accepts (check_to t n) n (record { count = n; total = total; records = ds })
  derives_done ds params total so = record { is_check = so.checked; is_total = so.summed; few = omega arith; long = so.size }

-- small steps that the loop asks for
pub small_of : {i n : ℕ} → i ≤ n → n ≤ 256 → i ≤ 256
small_of p q = omega arith

pub few_of : {a b : Derived} → a ≡ b → count b.extents ≤ element_limit → count a.extents ≤ element_limit
few_of e l = rw e l
