-- What a lookup knows of an accepted plan, one node after another on the way back, and each way in which it ends.
use Prim.Native.Nat.{ℕ, zero, suc, ◌+◌, ◌*◌, ◌/◌, ◌<◌, ◌≤◌}
use mathlib.Core.Path.{◌≡◌, refl, sym, ap, ◌∙◌, subst}
use mathlib.Core.Bool.{true, false}
use mathlib.Core.List.{List, [], map}
use native.Mathlib.Omega.{arith}
use native.Mathlib.Nat.{not-suc-le-zero, le_of_suc-le-suc}
use borrow.Author.Tests.{lt-ltb, le-ltb}
use Rattle.std.specs.Prelude.{Option as Perhaps, Some, None}
use lib.IntN.{ℤ}
use lib.ListN.{length, get_or, length-map}
use Rattle.laws.specs.Lists.{among}
use Rattle.laws.specs.Numbering.{count}
use Rattle.laws.proofs.Lists.{get_or_map}
use Rattle.plan.specs.declared.Node.{Node}
use Rattle.plan.specs.declared.NodeNumber.{NodeNumber}
use Rattle.plan.specs.declared.ElementNumber.{ElementNumber}
use Rattle.plan.specs.Operations.{followed}
use Rattle.plan.specs.Words.{node_at, node_count}
use Rattle.plan.specs.Answers.{Outcome, Refusal, accepted, refused, refuse}
use Rattle.plan.proofs.ByOperation.{◌then◌, for_group}
use Rattle.plan.proofs.Outcomes.{accepted_same}
use Rattle.shapes.specs.Shown.{shown, capped}
use Rattle.shapes.specs.Sources.{source_element}
use Rattle.shaping.proofs.Counts.{capped_within}
use Rattle.rules.specs.declared.Record.{Record}
use Rattle.rules.specs.Rules.{Derived, no_source}
use Rattle.rules.specs.Code.{view_of}
use Rattle.verifier.specs.Check.{verdict, count_of}
use Rattle.verifier.specs.Meets.{PlanMeets}
use Rattle.verifier.proofs.Accepted.{accepted_meets}
use Rattle.lookup.specs.declared.Found.{Found}
use Rattle.lookup.specs.declared.Found.TheVariants.{Gap}
use Rattle.lookup.specs.Following.{found_at, record_of, follow, is_there, lookup}
use Rattle.lookup.proofs.Steps.{follow_back, follow_here, source_earlier, source_record, source_inside, lookup_finds}
use Rattle.evaluation.specs.Standing.{moves}
use Rattle.evaluation.specs.Ready.{Proper, Right}
use Rattle.evaluation.proofs.Groups.{first_right}
use Rattle.evaluation.proofs.Turns.{proper_at, node_right}
use Rattle.following.specs.Origins.{element_in, There}

-- ---- an accepted plan

module _ (t : List ℤ) (records : List Record) (v : verdict t ≡ accepted (map view_of records)) where
  abbrev ds : List Derived
  ds = map view_of records

  plan : PlanMeets t (map view_of records)
  plan = accepted_meets t ds v

  pub as_many : length records ≡ length t / 17
  unfolding node_count
  as_many = sym (length-map records view_of) ∙ plan.nodes.as_many

  module _ (n : ℕ) (h : n < length records) where
    there_too : n < length (map view_of records)
    there_too = omega (arith, length-map records view_of)

    own_proper : Proper (get_or (map view_of records) n no_source).extents
    own_proper = proper_at t (node_count t) ds plan.nodes n (rw plan.nodes.as_many at there_too)

    pub node_inside : 17 * n + 17 ≤ length t
    node_inside = omega (arith, as_many)

    -- its record as the code holds it
    record_is : (d : Record) → get_or (map view_of records) n no_source ≡ view_of (get_or records n d)
    record_is d = get_or_map view_of records n no_source d h

    pub shape_shown : (d : Record) → shown (get_or records n d).extents ≡ (get_or (map view_of records) n no_source).extents
    shape_shown d = sym (ap (λ (d : Derived). d.extents) (record_is d))

    -- its count is not over the limit
    pub count_is : (d : Record) {m : ℕ} → m ≡ capped (count (shown (get_or records n d).extents)) → m ≡ count_of (get_or (map view_of records) n no_source)
    count_is d q = q ∙ rw (shape_shown d) (capped_within own_proper.few)

-- ---- a node on the way

followed_moves : (op : ℕ) → among op followed ≡ true → among op moves ≡ true
unfolding among
followed_moves op = for_group (λ (k : ℕ). among k moves ≡ true) op followed (refl then refl then refl then refl then refl then refl then refl then tt)

-- what following node n's element e finds, whatever records it is asked with
abbrev pub Follows : List ℤ → NodeNumber → ElementNumber → Found → Type 0
Follows t n e f = (ds : List Derived) (k : ℕ) → verdict t ≡ accepted ds → n.0 < k → f ≡ follow k t ds n e

module _ (t : List ℤ) (records : List Record) (n : NodeNumber) (e : ElementNumber) (there : There t records n e) where
  abbrev nodes : List Derived
  nodes = map view_of records

  inside : n.0 < length (map view_of records)
  inside = there_too t records there.accepts n.0 there.node_there

  -- any records are the plan's, and k is never used up
  follows_of : {f : Found} → ((k : ℕ) → n.0 ≤ k → f ≡ follow (suc k) t (map view_of records) n e) → Follows t n e f
  follows_of h others zero v l = absurd (not-suc-le-zero l)
  follows_of {f} h others (suc k) v l =
      let same : nodes ≡ others = accepted_same (sym there.accepts ∙ v) in
      subst (λ (ds : List Derived). f ≡ follow (suc k) t ds n e) same (h k (le_of_suc-le-suc l))

  pub own_node : 17 * n.0 + 17 ≤ length t
  own_node = node_inside t records there.accepts n.0 there.node_there

  module _ {x : Node} (is : x ≡ node_at t n.0) where
    -- a node that is not followed
    pub stops : among x.op followed ≡ false → Follows t n e (found_at n e)
    stops f = follows_of (λ k l. sym (follow_here k t nodes n e (rw is at f)))

    -- and one that is
    module _ (f : among x.op followed ≡ true) where
      back : among (node_at t n.0).op followed ≡ true
      back = rw is at f

      pub earlier : x.source1.0 < n.0
      earlier = rw is (source_earlier t nodes there.accepts n inside back)

      source_there : (node_at t n.0).source1.0 < length records
      source_there = omega (arith, source_earlier t nodes there.accepts n inside back, there.node_there)

      pub source_node : x.source1.0 < length records
      source_node = rw is source_there

      module _ (d₁ d₂ : Record) where
        source_shown : shown (get_or records x.source1.0 d₁).extents ≡ (record_of (map view_of records) (node_at t n.0).source1).extents
        source_shown = rw is (shape_shown t records there.accepts (node_at t n.0).source1.0 source_there d₁)

        own_shown : shown (get_or records n.0 d₂).extents ≡ (record_of (map view_of records) n).extents
        own_shown = shape_shown t records there.accepts n.0 there.node_there d₂

        right : Right x (shown (get_or records x.source1.0 d₁).extents) [] [] (shown (get_or records n.0 d₂).extents)
        right =
            let plan = accepted_meets t nodes there.accepts in
            let all = node_right t (node_count t) nodes plan.nodes n.0 (rw plan.nodes.as_many at inside) in
            let whole = first_right (node_at t n.0) _ _ _ _ all (followed_moves (node_at t n.0).op back) in
            rw (source_shown, own_shown) (rw is (rw (source_record t nodes there.accepts n inside back) at whole))

        pub asked : (among x.op followed ≡ true) × Right x (shown (get_or records x.source1.0 d₁).extents) [] [] (shown (get_or records n.0 d₂).extents) × (e.0 < count (shown (get_or records n.0 d₂).extents))
        asked = (f, right, rw own_shown there.element_there)

        module _ (o : Perhaps ElementNumber) (from : element_in o ≡ source_element x (shown (get_or records x.source1.0 d₁).extents) (shown (get_or records n.0 d₂).extents) e) where
          is_from : element_in o ≡ source_element (node_at t n.0) (record_of (map view_of records) (node_at t n.0).source1).extents (record_of (map view_of records) n).extents e
          is_from = rw is at (rw (source_shown, own_shown) at from)

          -- a gap
          pub nowhere : o ≡ None → Follows t n e Gap
          nowhere q = follows_of (λ k l. sym (follow_back k t nodes n e back ∙ rw (← is_from, q) refl))

          -- an element of the source
          module _ (m : ElementNumber) (q : o ≡ Some m) where
            pub source_element_there : There t records x.source1 m
            source_element_there =
                rw is
                (record {
                  accepts = there.accepts;
                  node_there = source_there;
                  element_there = rw (← is_from, q) at (source_inside t nodes there.accepts n inside back e there.element_there);
                })

            pub passes : {found : Found} → Follows t x.source1 m found → Follows t n e found
            passes h =
                follows_of
                (λ k l. (rw is at h) nodes k there.accepts (omega (arith, source_earlier t nodes there.accepts n inside back)) ∙ sym (follow_back k t nodes n e back ∙ rw (← is_from, q) refl))

-- ---- the lookup's endings

-- the records that the code holds are those of the check
pub is_of : {o : Outcome (List Derived)} {held all : List Record} → o ≡ accepted (map view_of all) → held ≡ all → o ≡ accepted (map view_of held)
is_of v e = rw e v

-- 1 to 12
pub not_accepted : (t : List ℤ) (n : NodeNumber) (e : ElementNumber) {r : Refusal} → verdict t ≡ refused r → refused r ≡ lookup t n e
unfolding lookup
not_accepted t n e v = rw v refl

module _ (t : List ℤ) (records : List Record) (v : verdict t ≡ accepted (map view_of records)) (n : NodeNumber) (e : ElementNumber) where
  -- 17
  pub no_node : length records ≤ n.0 → refuse 17 0 ≡ lookup t n e
  unfolding lookup is_there
  no_node h = rw (v, le-ltb n.0 (length (map view_of records)) (omega (arith, length-map records view_of))) refl

  module _ (l : n.0 < length records) (d : Record) {m : ℕ} (counted : m ≡ capped (count (shown (get_or records n.0 d).extents))) where
    own_count : m ≡ count_of (record_of (map view_of records) n)
    own_count = count_is t records v n.0 l d counted

    pub no_element : m ≤ e.0 → refuse 17 0 ≡ lookup t n e
    unfolding lookup is_there
    no_element h =
        rw (v, lt-ltb n.0 (length (map view_of records)) (there_too t records v n.0 l), le-ltb e.0 (count_of (record_of (map view_of records) n)) (omega (arith, own_count))) refl

    pub all_there : e.0 < m → There t records n e
    all_there h = record { accepts = v; node_there = l; element_there = omega (arith, own_count) }

    pub finds : {f : Found} → e.0 < m → Follows t n e f → accepted f ≡ lookup t n e
    finds h follows =
        let ds : List Derived = map view_of records in
        ap {B = Outcome Found} accepted (follows ds (suc n.0) v (omega arith)) ∙ sym (lookup_finds t ds n e v (there_too t records v n.0 l) (omega (arith, own_count)))
