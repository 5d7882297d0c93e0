-- A lookup goes the way of the definition `Way`, answers where it leads, and finds the cell that every run has at the element asked.
use Prim.Native.Nat.{ℕ, zero, suc, ◌<◌, ◌≤◌}
use mathlib.Core.Path.{◌≡◌, refl, ap, sym, ◌∙◌, subst}
use mathlib.Core.Bool.{true, false, false≢true}
use mathlib.Core.Logic.{◌⊎◌, inl, inr}
use mathlib.Core.Option.{Option, none, some}
use mathlib.Core.List.{List}
use native.Mathlib.Omega.{arith}
use native.Mathlib.Nat.{not-suc-le-zero}
use borrow.Author.Tests.{ltb-true}
use lib.IntN.{ℤ, pos}
use lib.Dec.{ltb}
use lib.ListN.{length, get_or}
use Rattle.laws.specs.Lists.{among}
use Rattle.laws.proofs.Booleans.{bool_cases, and_true}
use Rattle.plan.specs.declared.Answer.{Answer}
use Rattle.plan.specs.declared.Node.{Node}
use Rattle.plan.specs.declared.NodeNumber.{NodeNumber}
use Rattle.plan.specs.declared.ElementNumber.{ElementNumber}
use Rattle.plan.specs.Operations.{followed, by_operation}
use Rattle.plan.specs.Words.{node, element, node_at}
use Rattle.plan.specs.Answers.{accepted}
use Rattle.plan.proofs.ByOperation.{◌then◌, for_group, operation_small, followed_reads}
use Rattle.shapes.specs.Sources.{source_element}
use Rattle.shapes.specs.Coordinates.{NewCell}
use Rattle.shapes.proofs.Coordinates.{is_followed, followed_is, source_none}
use Rattle.rules.specs.Rules.{Derived}
use Rattle.verifier.specs.Check.{verdict}
use Rattle.verifier.specs.Meets.{PlanMeets}
use Rattle.verifier.proofs.Accepted.{accepted_meets}
use Rattle.verifier.proofs.Nodes.{op_known}
use Rattle.verifier.proofs.Numbers.{few_nodes}
use Rattle.cells.specs.Cells.{Cell, gap, Field, cell_from}
use Rattle.cells.specs.Nodes.{Operands, cell_rules, eval_cell}
use Rattle.runner.specs.Inputs.{input_cells}
use Rattle.runner.specs.Run.{no_field, operands_of, fields_to}
use Rattle.runner.proofs.Fields.{field_cell, field_extents, source_field}
use Rattle.runner.proofs.Completes.{run_fields}
use Rattle.lookup.specs.declared.Found.{Found}
use Rattle.lookup.specs.declared.Found.TheVariants.{At, Gap}
use Rattle.lookup.specs.declared.Reply.{Reply}
use Rattle.lookup.specs.Following.{record_of, found_at, from_source, follow, is_there, lookup, reply_of}
use Rattle.lookup.proofs.Steps.{one_back, Comes, follow_back, follow_here, source_earlier, source_comes, comes_source, new_source, lookup_finds}
use Rattle.guarantees.specs.Demand3.{word}
use Rattle.guarantees.specs.Lookups.{at_place, at_gap, There, extents_at, Back, Way, here, back, LeadsTo, LeadsToGap, cell_of, LookupSays, LookupAgrees, LookupRefuses}
use Rattle.guarantees.proofs.Words.{size_is, as_count_lem, first_node, op_of, op_word, row_a, row_b}

-- a followed node's cell is its source's
pub followed_cell : (x : Node) (r : List ℕ) (s : Operands) (e : ElementNumber) → among x.op followed ≡ true
    → eval_cell x r s e ≡ cell_from s.a (source_element x s.a.extents r e)
unfolding eval_cell among
followed_cell x r s e =
    for_group (λ (k : ℕ). by_operation k (cell_rules x r s e) gap ≡ cell_from s.a (source_element x s.a.extents r e)) x.op followed
    (refl then refl then refl then refl then refl then refl then refl then tt)

-- the fields of every node, for any input cells
abbrev fields_for : List ℤ → List Derived → List Cell → List Field
fields_for t ds input = fields_to t ds input (length ds)

first_of : (t : List ℤ) (n m : NodeNumber) → word t n.0 1 ≡ pos m.0 → (node_at t n.0).source1 ≡ m
first_of t n m e = ap node (first_node t n.0 ∙ rw e refl)

module _ (t : List ℤ) (ds : List Derived) (v : verdict t ≡ accepted ds) where
  plan : PlanMeets t ds
  plan = accepted_meets t ds v

  few : length ds ≤ 256
  few = omega (arith, (few_nodes t plan.length_right).1, plan.nodes.as_many)

  module _ (n : NodeNumber) (h : n.0 < length ds) where
    op_is : word t n.0 0 ≡ pos (node_at t n.0).op
    op_is = op_word t n.0 _ refl (omega (arith, operation_small _ (op_known t n.0 _ _ (plan.nodes.each n.0 (rw plan.nodes.as_many at h)))))

    first_is : among (node_at t n.0).op followed ≡ true → word t n.0 1 ≡ pos (node_at t n.0).source1.0
    first_is f = size_is (word t n.0 1) _ (as_count_lem (word t n.0 1) ∙ sym (first_node t n.0)) (omega (arith, source_earlier t ds v n h f, few))

  -- ---- one node back

  went_back : (n : NodeNumber) (e o : ElementNumber) → There ds n e → among (node_at t n.0).op followed ≡ true → one_back t ds n e ≡ some o
      → Back t ds n e (node_at t n.0).source1 o
  went_back n e o h f q =
      record {
        op = (node_at t n.0).op;
        is_op = op_is n h.0;
        is_source = first_is n h.0 f;
        earlier = source_earlier t ds v n h.0 f;
        comes = rw (row_a t n.0, row_b t n.0) at (source_comes t ds v n h.0 f e h.1 o q);
      }

  back_is : (n m : NodeNumber) (e o : ElementNumber) → There ds n e → Back t ds n e m o
      → (among (node_at t n.0).op followed ≡ true) × ((node_at t n.0).source1 ≡ m) × (one_back t ds n e ≡ some o)
  back_is n m e o h b =
      let q : (node_at t n.0).op ≡ b.op = op_of t n.0 b.op b.is_op in
      let f : among (node_at t n.0).op followed ≡ true = rw q (followed_is b.comes.followed) in
      let z : (node_at t n.0).source1 ≡ m = first_of t n m b.is_source in
      let c : Comes t ds n o e = rw (q, z, row_a t n.0, row_b t n.0) b.comes in
      (f, z, comes_source t ds v n h.0 f e h.1 o c)

  back_there : {n m : NodeNumber} {e o : ElementNumber} → There ds n e → Back t ds n e m o → There ds m o
  back_there h b = (omega (arith, b.earlier, h.0), b.comes.inside)

  -- ---- all the way

  on_way : {n m : NodeNumber} {e p : ElementNumber} → Way t ds n e m p → There ds n e → (m.0 ≤ n.0) × There ds m p
  on_way here h = (omega arith, h)
  on_way (back b w) h =
      let r = on_way w (back_there h b) in
      (omega (arith, r.0, b.earlier), r.1)

  -- what is found at the end of the way is found at its start
  longer : {n m : NodeNumber} {e o : ElementNumber} (f : Found) → There ds n e → Back t ds n e m o → ((k : ℕ) → m.0 < k → follow k t ds m o ≡ f) → (k : ℕ) → n.0 < k → follow k t ds n e ≡ f
  longer f h b next zero l = absurd (not-suc-le-zero l)
  longer {n} {m} {e} {o} f h b next (suc k) l =
      let q = back_is n m e o h b in
      follow_back k t ds n e q.0 ∙ rw (q.2, q.1) (next k (omega (arith, b.earlier)))

  follow_way : {n m : NodeNumber} {e p : ElementNumber} (f : Found) → Way t ds n e m p → There ds n e → ((k : ℕ) → m.0 < k → follow k t ds m p ≡ f) → (k : ℕ) → n.0 < k → follow k t ds n e ≡ f
  follow_way f here h end = end
  follow_way f (back b w) h end = longer f h b (follow_way f w (back_there h b) end)

  -- its two ends
  abbrev Leads : NodeNumber → ElementNumber → Found → Type 0
  Leads n e (At p) = LeadsTo t ds n e p.node p.element
  Leads n e Gap = LeadsToGap t ds n e

  at_place_lem : (m : NodeNumber) (p : ElementNumber) → among (node_at t m.0).op followed ≡ false → (k : ℕ) → m.0 < k → follow k t ds m p ≡ found_at m p
  at_place_lem m p f zero l = absurd (not-suc-le-zero l)
  at_place_lem m p f (suc k) l = follow_here k t ds m p f

  at_gap_lem : (m : NodeNumber) (p : ElementNumber) → among (node_at t m.0).op followed ≡ true → one_back t ds m p ≡ none → (k : ℕ) → m.0 < k → follow k t ds m p ≡ Gap
  at_gap_lem m p f q zero l = absurd (not-suc-le-zero l)
  at_gap_lem m p f q (suc k) l = follow_back k t ds m p f ∙ rw q refl

  other_op : {n m : NodeNumber} {e p : ElementNumber} → LeadsTo t ds n e m p → among (node_at t m.0).op followed ≡ false
  other_op {m = m} w =
      bool_cases (among (node_at t m.0).op followed)
      (λ f. absurd (w.other (is_followed (rw (op_of t m.0 w.op w.is_op) at f))))
      (λ f. f)

  -- a PAD's new cell
  new_cell : {n : NodeNumber} {e : ElementNumber} → There ds n e → (w : LeadsToGap t ds n e) → (among (node_at t w.pad.0).op followed ≡ true) × (one_back t ds w.pad w.at ≡ none)
  new_cell h w =
      let q = op_of t w.pad.0 6 w.is_pad in
      let f : among (node_at t w.pad.0).op followed ≡ true = rw q (followed_is (inl (omega arith))) in
      let r = (on_way w.way h).1 in
      let new = subst (λ (row : List ℕ). NewCell (extents_at ds w.source) (extents_at ds w.pad) row w.at.0) (sym (row_b t w.pad.0)) w.new in
      (f, new_source t ds v w.pad r.0 f w.at r.1 q (rw (first_of t w.pad w.source w.is_source) new))

  only_end : (n : NodeNumber) (e : ElementNumber) → There ds n e → (f : Found) → Leads n e f → follow (suc n.0) t ds n e ≡ f
  only_end n e h (At p) w = follow_way (At p) w.way h (at_place_lem p.node p.element (other_op w)) (suc n.0) (omega arith)
  only_end n e h Gap w = let q = new_cell h w in follow_way Gap w.way h (at_gap_lem w.pad w.at q.0 q.1) (suc n.0) (omega arith)

  -- and it has an end
  from_back : {n m : NodeNumber} {e o : ElementNumber} (f : Found) → Back t ds n e m o → Leads m o f → Leads n e f
  from_back (At p) b w = record { way = back b w.way; op = w.op; is_op = w.is_op; other = w.other }
  from_back Gap b w = record { pad = w.pad; at = w.at; way = back b w.way; is_pad = w.is_pad; source = w.source; is_source = w.is_source; new = w.new }

  abbrev Ends : ℕ → Type 0
  Ends k = (n : NodeNumber) (e : ElementNumber) → n.0 < k → There ds n e → Leads n e (follow k t ds n e)

  ends : (k : ℕ) → Ends k
  ends zero n e l h = absurd (not-suc-le-zero l)
  ends (suc k) n e l h =
      bool_cases (among (node_at t n.0).op followed)
      (λ f. rw (follow_back k t ds n e f) (through f (ends k) (one_back t ds n e) refl))
      (λ f. rw (follow_here k t ds n e f)
      (record { way = here; op = (node_at t n.0).op; is_op = op_is n h.0; other = λ g. false≢true (sym f ∙ followed_is g) }))
    where
      through : among (node_at t n.0).op followed ≡ true → Ends k → (o : Option ElementNumber) → one_back t ds n e ≡ o → Leads n e (from_source o (follow k t ds (node_at t n.0).source1))
      through f ih none q =
          let new = source_none (node_at t n.0) _ _ e f q in
          record {
            pad = n;
            at = e;
            way = here;
            is_pad = op_is n h.0 ∙ ap pos new.0;
            source = (node_at t n.0).source1;
            is_source = first_is n h.0 f;
            new = subst (λ (row : List ℕ). NewCell (extents_at ds (node_at t n.0).source1) (extents_at ds n) row e.0) (row_b t n.0) new.1;
          }
      through f ih (some o) q =
          let b = went_back n e o h f q in
          from_back (follow k t ds (node_at t n.0).source1 o) b (ih (node_at t n.0).source1 o (omega (arith, b.earlier)) (back_there h b))

  -- ---- the cells of a run

  module _ (input : List Cell) where
    cell_back : (n : NodeNumber) (e : ElementNumber) → There ds n e → among (node_at t n.0).op followed ≡ true
        → cell_of (fields_for t ds input) n e ≡ cell_from (get_or (fields_for t ds input) (node_at t n.0).source1.0 no_field) (one_back t ds n e)
    unfolding operands_of
    cell_back n e h f =
        let x = node_at t n.0 in
        let l = source_earlier t ds v n h.0 f in
        let g = source_field t ds input (length ds) n.0 x 1 x.source1 (omega (arith, h.0)) (followed_reads x f) l in
        let s = field_extents t ds input (length ds) x.source1.0 (omega (arith, h.0, l)) in
        field_cell t ds input (length ds) n.0 h.0 e h.1
        ∙ followed_cell x (record_of ds n).extents (operands_of t ds input n.0 (fields_to t ds input n.0)) e f
        ∙ rw (g, s) refl

    same_cell : {n m : NodeNumber} {e p : ElementNumber} → There ds n e → Way t ds n e m p → cell_of (fields_for t ds input) m p ≡ cell_of (fields_for t ds input) n e
    same_cell h here = refl
    same_cell h (back {n} {m} {k} {e} {o} {p} b w) =
        let q = back_is n m e o h b in
        same_cell (back_there h b) w ∙ sym (cell_back n e h q.0 ∙ rw (q.2, q.1) refl)

    gap_cell : {n : NodeNumber} {e : ElementNumber} → There ds n e → LeadsToGap t ds n e → cell_of (fields_for t ds input) n e ≡ gap
    gap_cell h w = let q = new_cell h w in sym (same_cell h w.way) ∙ cell_back w.pad w.at (on_way w.way h).1 q.0 ∙ rw q.1 refl

  -- ---- the reply

  module _ (n : NodeNumber) (e : ElementNumber) where
    is_place : (f : Found) → Leads n e f → (m : NodeNumber) (p : ElementNumber) → reply_of (accepted f) ≡ at_place m p → LeadsTo t ds n e m p
    is_place (At q) w m p y = rw (ap (λ (r : Reply). node r.node) y, ap (λ (r : Reply). element r.element) y) at w
    is_place Gap w m p y = absurd (omega (arith, ap (λ (r : Reply). r.found) y))

    is_nowhere : (f : Found) → Leads n e f → reply_of (accepted f) ≡ at_gap → LeadsToGap t ds n e
    is_nowhere (At q) w y = absurd (omega (arith, ap (λ (r : Reply). r.found) y))
    is_nowhere Gap w y = w

    is_either : (f : Found) → ((m : NodeNumber) × (p : ElementNumber) × (reply_of (accepted f) ≡ at_place m p)) ⊎ (reply_of (accepted f) ≡ at_gap)
    is_either (At q) = inl (q.node, q.element, refl)
    is_either Gap = inr refl

    says : There ds n e → (f : Found) → Leads n e f → ((g : Found) → Leads n e g → f ≡ g) → LookupSays t ds n e (accepted f)
    says h f w only =
        record {
          answer = refl;
          either = is_either f;
          place = λ m p. (is_place f w m p, λ l. ap (λ (g : Found). reply_of (accepted g)) (only (found_at m p) l));
          nowhere = (is_nowhere f w, λ l. ap (λ (g : Found). reply_of (accepted g)) (only Gap l));
          on_the_way = λ m p w. on_way w h;
          same = λ values flags valueRoom flagRoom fs r m p w.
              rw (run_fields t ds values flags valueRoom flagRoom v fs r) (same_cell (input_cells values flags) h w);
          is_gap = λ values flags valueRoom flagRoom fs r w.
              rw (run_fields t ds values flags valueRoom flagRoom v fs r) (gap_cell (input_cells values flags) h w);
        }

pub lookup_agrees : LookupAgrees
lookup_agrees t ds n e v h =
    rw (lookup_finds t ds n e v h.0 h.1)
    (says t ds v n e h (follow (suc n.0) t ds n e) (ends t ds v (suc n.0) n e (omega arith) h) (only_end t ds v n e h))

-- 17, and the check's refusals before it
pub lookup_refuses : LookupRefuses
unfolding lookup is_there
lookup_refuses =
    record {
      not_there = λ t ds n e v h. rw (v, missing ds n e h) refl;
      only_then = λ t ds n e v q h. omega (arith, q, ap (λ (r : Answer). r.number) (lookup_agrees t ds n e v h).answer);
      check_first = λ t n e r v. rw v refl;
    }
  where
    missing : (ds : List Derived) (n : NodeNumber) (e : ElementNumber) → (There ds n e → ⊥) → is_there ds n e ≡ false
    missing ds n e h =
        bool_cases (is_there ds n e)
        (λ y. let both = and_true (ltb n.0 (length ds)) _ y in absurd (h (ltb-true _ _ both.0, ltb-true _ _ both.1)))
        (λ y. y)
