-- Node i as `run_node` runs it: its sources as the code picks them, what it asks for, and what it leaves.
use Prim.Native.Nat.{ℕ, ◌+◌, ◌<◌, ◌≤◌}
use mathlib.Core.Path.{◌≡◌, refl, sym, ap, ◌∙◌}
use mathlib.Core.Bool.{true, cond}
use mathlib.Core.List.{List, []}
use native.Mathlib.Omega.{arith}
use lib.IntN.{ℤ}
use lib.Dec.{eqb}
use lib.ListN.{length, get_or, take}
use lib.Seq.{get_or-take}
use Rattle.laws.specs.Numbering.{count}
use Rattle.laws.proofs.Booleans.{bool_cases}
use Rattle.laws.proofs.Lists.{get_or_map}
use Rattle.plan.specs.declared.Node.{Node}
use Rattle.plan.specs.declared.NodeNumber.{NodeNumber}
use Rattle.plan.specs.Words.{node_at, if_param, reads}
use Rattle.shapes.specs.Shown.{shown}
use Rattle.shapes.proofs.Extents.{some_element}
use Rattle.rules.specs.declared.Record.{Record}
use Rattle.rules.specs.Rules.{Derived, no_source, source_of}
use Rattle.rules.specs.Code.{view_of}
use Rattle.verifier.specs.Check.{count_of, total_of}
use Rattle.verifier.specs.Meets.{NodeMeets}
use Rattle.verifier.proofs.Nodes.{source1_before, source2_before, source3_before, source_is}
use Rattle.cells.specs.Cells.{Field}
use Rattle.cells.specs.Nodes.{Operands}
use Rattle.inputs.specs.Nodes.{nodes_of}
use Rattle.inputs.proofs.Sizes.{node_size}
use Rattle.views.specs.Numbers.{SmallIn}
use Rattle.evaluation.specs.Standing.{Source, Evaluates, Room}
use Rattle.evaluation.specs.Ready.{Right, Ready, Reads}
use Rattle.evaluation.proofs.Turns.{proper_at, node_right}
use Rattle.running.specs.Running.{node_start, node_extents, Checked, Turning, SmallNode, NodeReads}
use Rattle.running.proofs.EndToEnd.{total_more, total_whole}
use Rattle.running.proofs.Plans.{as_many, nodes_meet}

-- ---- a source as the code picks it

-- its extents, and where its cells begin
pub record Picks (ds : List Derived) (i : ℕ) (x : Node) (k : ℕ) (s : NodeNumber) (extents : List ℕ) (base : ℕ) : Type 0 where
  pub shape : extents ≡ (source_of (take i ds) x k s).extents
  pub before : reads x k ≡ true → s.0 < i
  pub begins : reads x k ≡ true → base ≡ total_of (take s.0 ds)

module _ (records : List Record) (i : ℕ) (l : i < length records) where
  -- a record that is there, as it was derived
  view_at : (d : Record) (j : ℕ) → j < length records → get_or (nodes_of records) j no_source ≡ view_of (get_or records j d)
  view_at d j h = get_or_map view_of records j no_source d h

  -- the extents of node i
  own_extents : (d : Record) → shown (get_or records i d).extents ≡ (get_or (nodes_of records) i no_source).extents
  own_extents d = sym (ap (λ (d : Derived). d.extents) (view_at d i l))

  picks : (starts : List ℕ) → ((j : ℕ) → j < length records → get_or starts j 0 ≡ total_of (take j (nodes_of records)))
      → (d : Record) (x : Node) (k : ℕ) (s : NodeNumber) (place : ℕ) {extents : List ℕ} {base : ℕ} → (reads x k ≡ true → s.0 < i) → (s.0 < i → place ≡ s.0)
      → extents ≡ cond (reads x k) (shown (get_or records place d).extents) [] → base ≡ cond (reads x k) (get_or starts place 0) 0
      → Picks (nodes_of records) i x k s extents base
  unfolding source_of
  picks starts begin d x k s place {extents} {base} before at e b =
      record { shape = shape; before = before; begins = begins }
    where
      shape : extents ≡ (source_of (take i (nodes_of records)) x k s).extents
      shape =
          e
          ∙ bool_cases (reads x k) (λ u. rw (u, get_or-take i (nodes_of records) s.0 no_source (before u), at (before u), view_at d s.0 (omega (arith, before u))) refl) (λ u. rw u refl)

      begins : reads x k ≡ true → base ≡ total_of (take s.0 (nodes_of records))
      begins u = b ∙ rw (u, at (before u)) (begin s.0 (omega (arith, before u)))

-- ---- node i of a plan

module _ (t : List ℤ) (records : List Record) (checked : Checked t records) (i : ℕ) (l : i < length records) where
  abbrev nodes : List Derived
  nodes = nodes_of records

  abbrev op : ℕ
  op = (node_at t i).op

  rules : NodeMeets t i (take i (nodes_of records)) (get_or (nodes_of records) i no_source)
  rules = (nodes_meet t records checked).each i l

  pub sources_earlier_lem : (reads (node_at t i) 1 ≡ true → (node_at t i).source1.0 < i) × (reads (node_at t i) 2 ≡ true → (node_at t i).source2.0 < i) × (reads (node_at t i) 3 ≡ true → (node_at t i).source3.0 < i)
  sources_earlier_lem =
      (source1_before t i (take i nodes) _ rules, source2_before t i (take i nodes) _ rules, source3_before t i (take i nodes) _ rules)

  -- its place among all
  pub own_room : total_of (take i (nodes_of records)) + count_of (get_or (nodes_of records) i no_source) ≤ total_of (nodes_of records)
  own_room = total_whole nodes i (omega (arith, as_many t records checked))

  -- a source that it uses: its extents, and its cells end before its own begin
  picked_extents : (k : ℕ) (s : NodeNumber) (extents : List ℕ) (base : ℕ) → Picks (nodes_of records) i (node_at t i) k s extents base → reads (node_at t i) k ≡ true
      → extents ≡ (get_or (nodes_of records) s.0 no_source).extents
  picked_extents k s extents base p u = p.shape ∙ ap (λ (d : Derived). d.extents) (source_is nodes i (node_at t i) k s u (p.before u))

  ends : (k : ℕ) (s : NodeNumber) (extents : List ℕ) (base : ℕ) → Picks (nodes_of records) i (node_at t i) k s extents base → reads (node_at t i) k ≡ true
      → base + count extents ≤ total_of (take i (nodes_of records))
  ends k s extents base p u =
      rw (p.begins u, picked_extents k s extents base p u) (total_more nodes s.0 i (p.before u) (omega (arith, as_many t records checked)))

  picked_small : (vs : List ℤ) (k : ℕ) (s : NodeNumber) (extents : List ℕ) (base : ℕ) → Picks (nodes_of records) i (node_at t i) k s extents base → reads (node_at t i) k ≡ true
      → SmallNode vs (nodes_of records) s.0 → SmallIn vs base (base + count extents)
  picked_small vs k s extents base p u small = rw (p.begins u, picked_extents k s extents base p u) small

  picked_source : (vs : List ℤ) (fs : List ℕ) (k : ℕ) (s : NodeNumber) (extents : List ℕ) (base : ℕ) {f : Field} → Picks (nodes_of records) i (node_at t i) k s extents base → reads (node_at t i) k ≡ true
      → Source vs fs (node_start (nodes_of records) s.0) (node_extents (nodes_of records) s.0) f → Source vs fs base extents f
  picked_source vs fs k s extents base p u source = rw (p.begins u, picked_extents k s extents base p u) source

-- ---- the turn of node i

module _ {t : List ℤ} {records : List Record} {starts : List ℕ} {i : ℕ} {given : List ℤ} {known : List ℕ} {from : ℕ} {vs : List ℤ} {fs : List ℕ}
    (turn : Turning t records starts i given known from vs fs) where
  abbrev ds : List Derived
  ds = nodes_of records

  pub start_is : get_or starts i 0 ≡ node_start (nodes_of records) i
  start_is = turn.places.begin i (omega (arith, as_many t records turn.checked, turn.inside))

  pub extents_are : (d : Record) → shown (get_or records i d).extents ≡ node_extents (nodes_of records) i
  extents_are d = own_extents records i turn.inside d

  -- how many cells of the input it takes
  pub taken_is : {x : Node} → x ≡ node_at t i → (d : Record) {m : ℕ} → m ≡ cond (eqb x.op 1) (count (shown (get_or records i d).extents)) 0 → m ≡ if_param t i (count_of (get_or (nodes_of records) i no_source))
  taken_is q d e = e ∙ rw (q, node_size records d i turn.inside)

  -- its three sources, from its words
  pub three_picked : {x : Node} → x ≡ node_at t i
      → (d₁ d₂ d₃ : Record) {place₁ place₂ place₃ : ℕ} → (x.source1.0 < i → place₁ ≡ x.source1.0) → (x.source2.0 < i → place₂ ≡ x.source2.0) → (x.source3.0 < i → place₃ ≡ x.source3.0)
      → {sa sb sc : List ℕ} {pa pb pc : ℕ}
      → (sa ≡ cond (reads x 1) (shown (get_or records place₁ d₁).extents) []) × (pa ≡ cond (reads x 1) (get_or starts place₁ 0) 0)
      → (sb ≡ cond (reads x 2) (shown (get_or records place₂ d₂).extents) []) × (pb ≡ cond (reads x 2) (get_or starts place₂ 0) 0)
      → (sc ≡ cond (reads x 3) (shown (get_or records place₃ d₃).extents) []) × (pc ≡ cond (reads x 3) (get_or starts place₃ 0) 0)
      → Picks (nodes_of records) i (node_at t i) 1 (node_at t i).source1 sa pa × Picks (nodes_of records) i (node_at t i) 2 (node_at t i).source2 sb pb
      × Picks (nodes_of records) i (node_at t i) 3 (node_at t i).source3 sc pc
  three_picked {x} q d₁ d₂ d₃ {place₁} {place₂} {place₃} at₁ at₂ at₃ a b c =
      let checked = turn.checked in
      let l = turn.inside in
      let earlier = sources_earlier_lem t records checked i l in
      let begin : (j : ℕ) → j < length records → get_or starts j 0 ≡ total_of (take j ds) = λ j h. turn.places.begin j (omega (arith, as_many t records checked)) in (
        picks records i l starts begin d₁ (node_at t i) 1 (node_at t i).source1 place₁ earlier.0 (rw q at at₁) (rw q at a.0) (rw q at a.1),
        picks records i l starts begin d₂ (node_at t i) 2 (node_at t i).source2 place₂ earlier.1 (rw q at at₂) (rw q at b.0) (rw q at b.1),
        picks records i l starts begin d₃ (node_at t i) 3 (node_at t i).source3 place₃ earlier.2 (rw q at at₃) (rw q at c.0) (rw q at c.1),
      )

  room : Room (node_extents (nodes_of records) i) (node_start (nodes_of records) i) vs fs
  room =
      let own = own_room t records turn.checked i turn.inside in
      record {
        some = some_element (get_or ds i no_source).extents (proper_at t (length records) ds (nodes_meet t records turn.checked) i turn.inside).positive;
        values = omega (arith, own, turn.places.value_room);
        flags = omega (arith, own, turn.places.flag_room);
      }

  module _ {pa pb pc : ℕ} {sa sb sc : List ℕ}
      (picked : Picks (nodes_of records) i (node_at t i) 1 (node_at t i).source1 sa pa × Picks (nodes_of records) i (node_at t i) 2 (node_at t i).source2 sb pb × Picks (nodes_of records) i (node_at t i) 3 (node_at t i).source3 sc pc)
      {x : Node} {r : List ℕ} {start : ℕ} (q : x ≡ node_at t i) (er : r ≡ node_extents (nodes_of records) i) (es : start ≡ node_start (nodes_of records) i) where
    right : Right (node_at t i) sa sb sc (node_extents (nodes_of records) i)
    right =
        rw (picked.0.shape, picked.1.shape, picked.2.shape) (node_right t (length records) ds (nodes_meet t records turn.checked) i turn.inside)

    -- what evaluation asks for
    pub ready : Ready x sa sb sc r pa pb pc from start given known vs fs
    ready =
        let checked = turn.checked in
        let l = turn.inside in
        rw (q, er, es)
        (record {
          right = right;
          room = room;
          small_first = λ u. picked_small t records checked i l vs 1 (node_at t i).source1 sa pa picked.0 u (turn.small_first u);
          small_second = λ u. picked_small t records checked i l vs 2 (node_at t i).source2 sb pb picked.1 u (turn.small_second u);
          first = ends t records checked i l 1 (node_at t i).source1 sa pa picked.0;
          second = ends t records checked i l 2 (node_at t i).source2 sb pb picked.1;
          third = ends t records checked i l 3 (node_at t i).source3 sc pc picked.2;
          values = turn.values;
          flags = turn.flags;
        })

    -- what it leaves
    pub leaves : {vs' : List ℤ} {fs' : List ℕ} → ((o : Operands) → Reads x sa sb sc r pa pb pc from given known vs fs o → Evaluates x r o vs fs start vs' fs')
        → (o : Operands) → NodeReads t (nodes_of records) i given known from vs fs o → Evaluates (node_at t i) (node_extents (nodes_of records) i) o vs fs (node_start (nodes_of records) i) vs' fs'
    leaves evaluates o reads =
        let checked = turn.checked in
        let l = turn.inside in
        (rw (q, er, es) at evaluates) o
        (record {
          first = λ u. picked_source t records checked i l vs fs 1 (node_at t i).source1 sa pa picked.0 u (reads.first u);
          second = λ u. picked_source t records checked i l vs fs 2 (node_at t i).source2 sb pb picked.1 u (reads.second u);
          third = λ u. picked_source t records checked i l vs fs 3 (node_at t i).source3 sc pc picked.2 u (reads.third u);
          input = reads.input;
        })
