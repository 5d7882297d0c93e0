-- Following an element back to where it comes from.
use Rattle.std.specs.Prelude.{ℕ, zero, suc, Bool, ◌&&◌, cond, List, ℤ, ltb, get_or, length}
use Rattle.std.proofs.Math.Option.{Option, none, some}
use Rattle.laws.specs.Lists.{among}
use Rattle.plan.specs.declared.NodeNumber.{NodeNumber}
use Rattle.plan.specs.declared.ElementNumber.{ElementNumber}
use Rattle.plan.specs.declared.Answer.{Answer}
use Rattle.plan.specs.Operations.{followed}
use Rattle.plan.specs.Words.{node_at}
use Rattle.plan.specs.Answers.{Outcome, accepted, refused, need, and_then, answer_of}
use Rattle.shapes.specs.Sources.{source_element}
use Rattle.rules.specs.Rules.{Derived, no_source}
use Rattle.verifier.specs.Check.{verdict, count_of}
use Rattle.lookup.specs.declared.Found.{Found}
use Rattle.lookup.specs.declared.Found.TheVariants.{At, Gap}
use Rattle.lookup.specs.declared.Reply.{Reply}

-- "its answer is either a place (node with element) or a gap"
abbrev pub found_at : NodeNumber → ElementNumber → Found
found_at n e = At (record { node = n; element = e })

-- what is found at the source's element, where there is one
abbrev pub from_source : Option ElementNumber → (ElementNumber → Found) → Found
from_source none next = Gap
from_source (some e) next = next e

abbrev pub record_of : List Derived → NodeNumber → Derived
record_of ds n = get_or ds n.0 no_source

-- "follows nodes 2–7 and 20 back, the source always being an earlier node, to the first other node", through fewer than k nodes.
-- The node number falls at each step, so k = n + 1 is never used up and the first case is not reached (`ends` of guarantees/proofs/Lookups.antt).
unfoldable pub follow : ℕ → List ℤ → List Derived → NodeNumber → ElementNumber → Found
follow zero t ds n e = Gap
follow (suc k) t ds n e =
    let x = node_at t n.0 in
    cond (among x.op followed)
    (from_source (source_element x (record_of ds x.source1).extents (record_of ds n).extents e) (follow k t ds x.source1))
    (found_at n e)

-- the node and the element are there
unfoldable pub is_there : List Derived → NodeNumber → ElementNumber → Bool
is_there ds n e = ltb n.0 (length ds) && ltb e.0 (count_of (record_of ds n))

-- "A lookup gives 17 after 12."; "17: lookup node or element not there"
unfoldable pub lookup : List ℤ → NodeNumber → ElementNumber → Outcome Found
lookup t n e =
    and_then (verdict t) (λ ds. need (is_there ds n e) 17 0 (accepted (follow (suc n.0) t ds n e)))

-- ---- the answer's numbers, by case

abbrev pub lookup_answer : Outcome Found → Answer
lookup_answer = answer_of (λ (f : Found). 0)

-- 0 nothing, 1 a place, 2 a gap; and the place's node and element, 0 where there is none
abbrev pub found_kind : Outcome Found → ℕ
found_kind (accepted (At p)) = 1
found_kind (accepted Gap) = 2
found_kind (refused r) = 0

abbrev pub found_node : Outcome Found → ℕ
found_node (accepted (At p)) = p.node.0
found_node (accepted Gap) = 0
found_node (refused r) = 0

abbrev pub found_element : Outcome Found → ℕ
found_element (accepted (At p)) = p.element.0
found_element (accepted Gap) = 0
found_element (refused r) = 0

-- all of them together
abbrev pub reply_of : Outcome Found → Reply
reply_of o =
    record { number = (lookup_answer o).number; place = (lookup_answer o).place; found = found_kind o; node = found_node o; element = found_element o }
