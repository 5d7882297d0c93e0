-- Demand 2: "following movement nodes back from an element finds the same one". 01: "A lookup takes a plan, a node and an element, and follows
-- nodes 2–7 and 20 back, the source always being an earlier node, to the first other node: its answer is either a place (node with element)
-- or a gap." Stated of `reply_of`, the five numbers that the call answers.
use Rattle.std.specs.Prelude.{ℕ, ◌<◌, ◌≤◌, ◌≡◌, ◌⊎◌, List, ℤ, pos, length, get_or}
use Rattle.plan.specs.declared.NodeNumber.{NodeNumber}
use Rattle.plan.specs.declared.ElementNumber.{ElementNumber}
use Rattle.plan.specs.Answers.{Refusal, Outcome, accepted, refused}
use Rattle.shapes.specs.Coordinates.{Followed, ComesFrom, NewCell}
use Rattle.rules.specs.Rules.{Derived, no_source}
use Rattle.verifier.specs.Check.{verdict}
use Rattle.cells.specs.Cells.{Cell, gap, Field, cell_at}
use Rattle.runner.specs.Run.{no_field, run}
use Rattle.lookup.specs.declared.Found.{Found}
use Rattle.lookup.specs.declared.Reply.{Reply}
use Rattle.lookup.specs.Following.{lookup, lookup_answer, reply_of}
use Rattle.guarantees.specs.Demand3.{word, row_from, elements}

-- ---- the replies

-- a place, a gap and a refusal, in the order of the reply: number, place, found (1 a place, 2 a gap), node, element
abbrev pub at_place : NodeNumber → ElementNumber → Reply
at_place m o = record { number = 0; place = 0; found = 1; node = m.0; element = o.0 }

abbrev pub at_gap : Reply
at_gap = record { number = 0; place = 0; found = 2; node = 0; element = 0 }

abbrev pub refused_at : ℕ → ℕ → Reply
refused_at number place = record { number = number; place = place; found = 0; node = 0; element = 0 }

-- ---- the way, node by node. ds are the records of the accepted plan t.

-- the node and the element are there
abbrev pub There : List Derived → NodeNumber → ElementNumber → Type 0
There ds n e = (n.0 < length ds) × (e.0 < elements ds n.0)

abbrev pub extents_at : List Derived → NodeNumber → List ℕ
extents_at ds n = (get_or ds n.0 no_source).extents

-- one node back: node n has an operation of 2–7 and 20, node m is its source, "an earlier node", and element e of n is element o of m
pub record Back (t : List ℤ) (ds : List Derived) (n : NodeNumber) (e : ElementNumber) (m : NodeNumber) (o : ElementNumber) : Type 0 where
  pub op : ℕ
  pub is_op : word t n.0 0 ≡ pos op
  pub is_source : word t n.0 1 ≡ pos m.0
  pub earlier : m.0 < n.0
  pub comes : ComesFrom op (extents_at ds m) (extents_at ds n) (row_from t n.0 9) (row_from t n.0 13) o.0 e.0

-- from element e of node n back to element o of node m
pub data Way (t : List ℤ) (ds : List Derived) : NodeNumber → ElementNumber → NodeNumber → ElementNumber → Type 0 where
  here : {n : NodeNumber} {e : ElementNumber} → Way t ds n e n e
  back : {n m k : NodeNumber} {e o p : ElementNumber} → Back t ds n e m o → Way t ds m o k p → Way t ds n e k p

-- "to the first other node"
pub record LeadsTo (t : List ℤ) (ds : List Derived) (n : NodeNumber) (e : ElementNumber) (m : NodeNumber) (o : ElementNumber) : Type 0 where
  pub way : Way t ds n e m o
  pub op : ℕ
  pub is_op : word t m.0 0 ≡ pos op
  pub other : Followed op → ⊥

-- or to a PAD's new cell: the way comes to a node of operation 6 at an element that is none of its source's
pub record LeadsToGap (t : List ℤ) (ds : List Derived) (n : NodeNumber) (e : ElementNumber) : Type 0 where
  pub pad : NodeNumber
  pub at : ElementNumber
  pub way : Way t ds n e pad at
  pub is_pad : word t pad.0 0 ≡ pos 6
  pub source : NodeNumber
  pub is_source : word t pad.0 1 ≡ pos source.0
  pub new : NewCell (extents_at ds source) (extents_at ds pad) (row_from t pad.0 13) at.0

-- ---- what a lookup says

-- a run's cell at a node and an element
abbrev pub cell_of : List Field → NodeNumber → ElementNumber → Cell
cell_of fs n e = cell_at (get_or fs n.0 no_field) e

-- of a node and an element that are there
pub record LookupSays (t : List ℤ) (ds : List Derived) (n : NodeNumber) (e : ElementNumber) (o : Outcome Found) : Type 0 where
  pub answer : lookup_answer o ≡ record { number = 0; place = 0; count = 0 }
  -- "its answer is either a place (node with element) or a gap", each exactly where the way leads there
  pub either : ((m : NodeNumber) × (p : ElementNumber) × (reply_of o ≡ at_place m p)) ⊎ (reply_of o ≡ at_gap)
  pub place : (m : NodeNumber) (p : ElementNumber) → (reply_of o ≡ at_place m p → LeadsTo t ds n e m p) × (LeadsTo t ds n e m p → reply_of o ≡ at_place m p)
  pub nowhere : (reply_of o ≡ at_gap → LeadsToGap t ds n e) × (LeadsToGap t ds n e → reply_of o ≡ at_gap)
  -- all on the way is there, at nodes not after the one asked
  pub on_the_way : (m : NodeNumber) (p : ElementNumber) → Way t ds n e m p → (m.0 ≤ n.0) × There ds m p
  -- "finds the same one": in every run that is accepted, all on the way have the same cell, and a gap is one
  pub same : (values : List ℤ) (flags : List ℕ) (valueRoom flagRoom : ℕ) (fs : List Field) → run t values flags valueRoom flagRoom ≡ accepted fs
      → (m : NodeNumber) (p : ElementNumber) → Way t ds n e m p → cell_of fs m p ≡ cell_of fs n e
  pub is_gap : (values : List ℤ) (flags : List ℕ) (valueRoom flagRoom : ℕ) (fs : List Field) → run t values flags valueRoom flagRoom ≡ accepted fs
      → LeadsToGap t ds n e → cell_of fs n e ≡ gap

abbrev pub LookupAgrees : Type 0
LookupAgrees =
    (t : List ℤ) (ds : List Derived) (n : NodeNumber) (e : ElementNumber) → verdict t ≡ accepted ds → There ds n e → LookupSays t ds n e (lookup t n e)

-- "A lookup gives 17 after 12."; "17: lookup node or element not there; 0"
pub record LookupRefuses : Type 0 where
  pub not_there : (t : List ℤ) (ds : List Derived) (n : NodeNumber) (e : ElementNumber) → verdict t ≡ accepted ds → (There ds n e → ⊥) → reply_of (lookup t n e) ≡ refused_at 17 0
  pub only_then : (t : List ℤ) (ds : List Derived) (n : NodeNumber) (e : ElementNumber) → verdict t ≡ accepted ds → (reply_of (lookup t n e)).number ≡ 17 → There ds n e → ⊥
  pub check_first : (t : List ℤ) (n : NodeNumber) (e : ElementNumber) (r : Refusal) → verdict t ≡ refused r → reply_of (lookup t n e) ≡ refused_at r.number r.place
