-- One step of following an element back.
use Prim.Native.Nat.{ℕ, suc, ◌<◌}
use mathlib.Core.Path.{◌≡◌, refl}
use mathlib.Core.Bool.{true, false}
use mathlib.Core.Option.{Option, none, some}
use mathlib.Core.List.{List}
use borrow.Author.Tests.{lt-ltb}
use lib.IntN.{ℤ}
use lib.ListN.{length, take}
use Rattle.laws.specs.Lists.{among}
use Rattle.plan.specs.declared.Node.{Node}
use Rattle.plan.specs.declared.NodeNumber.{NodeNumber}
use Rattle.plan.specs.declared.ElementNumber.{ElementNumber}
use Rattle.plan.specs.Operations.{PERMUTE, followed}
use Rattle.plan.specs.Words.{node_at, list_of}
use Rattle.plan.specs.Answers.{accepted}
use Rattle.plan.proofs.ByOperation.{followed_reads}
use Rattle.shapes.specs.Rows.{is_permutation}
use Rattle.shapes.specs.Rules.{shapes_agree, result_extents}
use Rattle.shapes.specs.Sources.{source_element, Below}
use Rattle.shapes.specs.Coordinates.{ComesFrom, NewCell}
use Rattle.shapes.proofs.Coordinates.{source_below, source_from, from_source_lem, none_source}
use Rattle.rules.specs.Rules.{Derived}
use Rattle.verifier.specs.Check.{verdict, first, second, third, count_of}
use Rattle.verifier.specs.Meets.{NodeMeets}
use Rattle.verifier.proofs.Accepted.{accepted_meets}
use Rattle.verifier.proofs.Nodes.{source1_before, source_is, permutation_row, shapes_agree_lem, extents_derived}
use Rattle.lookup.specs.Following.{found_at, from_source, record_of, follow, is_there, lookup}

-- the element of its source that element e of node n is, none at a gap; and that it comes from element o
abbrev pub one_back : List ℤ → List Derived → NodeNumber → ElementNumber → Option ElementNumber
one_back t ds n e = source_element (node_at t n.0) (record_of ds (node_at t n.0).source1).extents (record_of ds n).extents e

abbrev pub Comes : List ℤ → List Derived → NodeNumber → ElementNumber → ElementNumber → Type 0
Comes t ds n o e =
    let x = node_at t n.0 in
    ComesFrom x.op (record_of ds x.source1).extents (record_of ds n).extents (list_of x.rowa) (list_of x.rowb) o.0 e.0

module _ (k : ℕ) (t : List ℤ) (ds : List Derived) (n : NodeNumber) (e : ElementNumber) where
  -- a node that is followed back, and one that is not
  pub follow_back : among (node_at t n.0).op followed ≡ true
      → follow (suc k) t ds n e ≡ from_source (one_back t ds n e) (follow k t ds (node_at t n.0).source1)
  unfolding follow
  follow_back f = rw f refl

  pub follow_here : among (node_at t n.0).op followed ≡ false → follow (suc k) t ds n e ≡ found_at n e
  unfolding follow
  follow_here f = rw f refl

-- ---- the source of a followed node of an accepted plan

module _ (t : List ℤ) (ds : List Derived) (v : verdict t ≡ accepted ds) (n : NodeNumber) (h : n.0 < length ds) (f : among (node_at t n.0).op followed ≡ true) where
  rules : NodeMeets t n.0 (take n.0 ds) (record_of ds n)
  rules = let plan = accepted_meets t ds v in plan.nodes.each n.0 (rw plan.nodes.as_many at h)

  pub source_earlier : (node_at t n.0).source1.0 < n.0
  source_earlier = source1_before t n.0 (take n.0 ds) (record_of ds n) rules (followed_reads (node_at t n.0) f)

  pub source_record : first (node_at t n.0) (take n.0 ds) ≡ record_of ds (node_at t n.0).source1
  source_record = source_is ds n.0 (node_at t n.0) 1 (node_at t n.0).source1 (followed_reads (node_at t n.0) f) source_earlier

  -- its shapes agree, and PERMUTE's row is one
  abbrev x : Node
  x = node_at t n.0

  agree : shapes_agree (node_at t n.0) (record_of ds (node_at t n.0).source1).extents (second (node_at t n.0) (take n.0 ds)).extents (third (node_at t n.0) (take n.0 ds)).extents
      ≡ true
  agree = rw source_record at (shapes_agree_lem t n.0 (take n.0 ds) (record_of ds n) rules)

  shape : (record_of ds n).extents
      ≡ result_extents (node_at t n.0) (record_of ds (node_at t n.0).source1).extents (second (node_at t n.0) (take n.0 ds)).extents (third (node_at t n.0) (take n.0 ds)).extents
  shape = rw source_record at (extents_derived t n.0 (take n.0 ds) (record_of ds n) rules)

  row : (node_at t n.0).op ≡ PERMUTE → is_permutation (length (record_of ds (node_at t n.0).source1).extents) (list_of (node_at t n.0).rowa) ≡ true
  row = rw source_record at (permutation_row t n.0 (take n.0 ds) (record_of ds n) rules)

  module _ (e : ElementNumber) (l : e.0 < count_of (record_of ds n)) where
    -- the element that it is, is one of the source's
    pub source_inside : Below (count_of (record_of ds (node_at t n.0).source1)) (one_back t ds n e)
    source_inside = source_below x _ _ _ _ e agree shape row l f

    -- it is the element that it comes from, and there is none only at a new cell of a PAD
    pub source_comes : (o : ElementNumber) → one_back t ds n e ≡ some o → Comes t ds n o e
    source_comes = source_from x _ _ _ _ e agree shape row l f

    pub comes_source : (o : ElementNumber) → Comes t ds n o e → one_back t ds n e ≡ some o
    comes_source = from_source_lem x _ _ _ _ e agree shape row l

    pub new_source : (node_at t n.0).op ≡ 6 → NewCell (record_of ds (node_at t n.0).source1).extents (record_of ds n).extents (list_of (node_at t n.0).rowb) e.0
        → one_back t ds n e ≡ none
    new_source = none_source x _ _ _ _ e agree shape row l

-- ---- a lookup

-- a node and an element that are there are found
pub lookup_finds : (t : List ℤ) (ds : List Derived) (n : NodeNumber) (e : ElementNumber) → verdict t ≡ accepted ds → n.0 < length ds → e.0 < count_of (record_of ds n)
    → lookup t n e ≡ accepted (follow (suc n.0) t ds n e)
unfolding lookup is_there
lookup_finds t ds n e v h l = rw (v, lt-ltb n.0 (length ds) h, lt-ltb e.0 (count_of (record_of ds n)) l) refl
