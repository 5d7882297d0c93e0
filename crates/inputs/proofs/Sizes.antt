-- The nodes' sizes as the loops over the records add them.
use Rattle.std.proofs.Common.{◌≡◌, ℕ, zero, suc, ◌+◌, ◌<◌, ◌≤◌, cond, eqb, List, length, get_or, take, set, ℤ, pos, refl, ap, ◌∙◌, ⊎_elim, not-suc-le-zero, eq-or-lt_of_le, add-one, arith, get_or-set_other, take-suc, get_or-set_same, eqb-true}
use mathlib.Core.List.{map-append}
use lib.ListN.{length-map}
use Rattle.laws.specs.Lists.{sum}
use Rattle.laws.specs.Numbering.{count}
use Rattle.laws.proofs.Booleans.{bool_cases, cond_both}
use Rattle.laws.proofs.Lists.{get_or_map, sum_append}
use Rattle.plan.specs.declared.Interval.{Interval}
use Rattle.plan.specs.declared.Node.{Node}
use Rattle.plan.specs.Operations.{PARAM}
use Rattle.plan.specs.Types.{between}
use Rattle.plan.specs.Words.{node_at, if_param, over_params}
use Rattle.shapes.specs.Shown.{shown, capped}
use Rattle.shaping.proofs.Counts.{capped_within}
use Rattle.rules.specs.declared.Record.{Record}
use Rattle.rules.specs.Rules.{Derived, no_source}
use Rattle.verifier.specs.Check.{count_of, total_of}
use Rattle.rules.specs.Code.{view_of}
use Rattle.runner.specs.Inputs.{input_start, declared, input_limits}
use Rattle.runner.proofs.Inputs.{limits_length, limits_at_lem}
use Rattle.inputs.specs.Nodes.{nodes_of, Limited}

-- ---- the records

module _ (records : List Record) where
  pub nodes_length : length (nodes_of records) ≡ length records
  nodes_length = length-map records view_of

  -- the size of record i, whatever stands past the end
  pub node_size : (d : Record) (i : ℕ) → i < length records → count_of (get_or (nodes_of records) i no_source) ≡ count (shown (get_or records i d).extents)
  node_size d i l = ap count_of (get_or_map view_of records i no_source d l)

  -- at most the limit
  pub node_limited : (d : Record) (i : ℕ) → i < length records → Limited (nodes_of records) (length records) → count (shown (get_or records i d).extents) ≤ 1048576
  node_limited d i l h = rw (← node_size d i l) (h i l)

-- ---- where a node's input begins

module _ (t : List ℤ) (ds : List Derived) where
  -- no node before the first
  pub start_none : 0 ≡ input_start t ds 0
  unfolding over_params
  start_none = refl

  -- one node more
  pub start_next : (i n : ℕ) → n ≡ if_param t i (count_of (get_or ds i no_source)) → input_start t ds i + n ≡ input_start t ds (i + 1)
  unfolding over_params
  start_next i n e = rw (add-one, e)

  -- later nodes begin later
  start_le : (i n : ℕ) → i ≤ n → input_start t ds i ≤ input_start t ds n
  unfolding over_params
  start_le zero zero h = omega arith
  start_le (suc i) zero h = absurd (not-suc-le-zero h)
  start_le i (suc n) h =
      ⊎_elim (λ (e : i ≡ suc n). rw e (omega arith)) (λ (l : i < suc n). omega (arith, start_le i n (omega arith))) (eq-or-lt_of_le h)

  -- the limits at a node's positions are its own
  node_limits_lem : (i n k : ℕ) (d : Interval) → i < length ds → n ≡ if_param t i (count_of (get_or ds i no_source)) → k < n
      → get_or (input_limits t ds) (input_start t ds i + k) d ≡ declared t i
  node_limits_lem i n k d l e h =
      bool_cases (eqb (node_at t i).op PARAM)
      (λ q. limits_at_lem t ds i k d l (eqb-true _ _ q) (rw (e, q) at h))
      (λ q. let none : k < 0 = rw (e, q) at h in absurd (not-suc-le-zero none))

-- the n positions from place `from` on are those of node i, read as x
pub record Part (t : List ℤ) (ds : List Derived) (i from n : ℕ) (x : Node) : Type 0 where
  pub few : n ≤ 1048576
  pub next : from + n ≡ input_start t ds (i + 1)
  pub within : from + n ≤ length (input_limits t ds)
  pub limits : (k : ℕ) → k < n → get_or (input_limits t ds) (from + k) (between (pos 0) (pos 0)) ≡ between x.low x.high

module _ (t : List ℤ) (records : List Record) where
  abbrev nodes : List Derived
  nodes = nodes_of records

  pub input_whole : input_start t (nodes_of records) (length records) ≡ length (input_limits t (nodes_of records))
  input_whole = rw (limits_length t nodes, nodes_length records)

  -- what the code reads of node i, and the size of its input
  pub part_of : (d : Record) (i from n : ℕ) (x : Node) → Limited (nodes_of records) (length records) → i < length records → x ≡ node_at t i
      → n ≡ cond (eqb x.op 1) (count (shown (get_or records i d).extents)) 0 → from ≡ input_start t (nodes_of records) i
      → Part t (nodes_of records) i from n x
  part_of d i from n x h l q e s =
      let size : n ≡ if_param t i (count_of (get_or nodes i no_source)) = e ∙ rw (q, node_size records d i l) in
      let next : from + n ≡ input_start t nodes (i + 1) = rw s (start_next t nodes i n size) in
      record {
        few = rw e (cond_both (λ (k : ℕ). k ≤ 1048576) (eqb x.op 1) _ 0 (λ b. node_limited records d i l h) (λ b. omega arith));
        next = next;
        within = rw (next, ← input_whole) (start_le t nodes (i + 1) (length records) (omega arith));
        limits = λ k p. rw (s, q) (node_limits_lem t nodes i n k (between (pos 0) (pos 0)) (omega (arith, nodes_length records)) size p);
      }

-- ---- the elements of the nodes before node j, all nodes end to end

module _ (ds : List Derived) where
  pub total_none : 0 ≡ total_of (take 0 ds)
  unfolding total_of sum
  total_none = refl

  pub total_next : (i : ℕ) → i < length ds → total_of (take i ds) + count_of (get_or ds i no_source) ≡ total_of (take (i + 1) ds)
  unfolding total_of sum
  total_next i l =
      rw (add-one, take-suc ds i no_source l, map-append, sum_append) (omega arith)

  -- one start more
  pub starts_next : (starts : List ℕ) (i total : ℕ) → i < length starts → total ≡ total_of (take i ds)
      → ((j : ℕ) → j < i → get_or starts j 0 ≡ total_of (take j ds))
      → (j : ℕ) → j < i + 1 → get_or (set starts i total) j 0 ≡ total_of (take j ds)
  starts_next starts i total l e before j h =
      ⊎_elim
      (λ (p : j ≡ i). rw (p, get_or-set_same starts i total 0 l) e)
      (λ (p : j < i). get_or-set_other starts i j total 0 (λ z. omega arith) ∙ before j p)
      (eq-or-lt_of_le (omega arith))

-- a loop over the records: n, what the code counted of record i
module _ (records : List Record) (h : Limited (nodes_of records) (length records))
    (d : Record) (i : ℕ) (l : i < length records) (n : ℕ) (e : n ≡ capped (count (shown (get_or records i d).extents))) where
  counted : n ≡ count (shown (get_or records i d).extents)
  counted = e ∙ capped_within (node_limited records d i l h)

  pub count_limited : n ≤ 1048576
  count_limited = rw counted (node_limited records d i l h)

  pub count_next : (total : ℕ) → total ≡ total_of (take i (nodes_of records)) → total + n ≡ total_of (take (i + 1) (nodes_of records))
  count_next total s = rw (s, counted, ← node_size records d i l) (total_next (nodes_of records) i (omega (arith, nodes_length records)))
