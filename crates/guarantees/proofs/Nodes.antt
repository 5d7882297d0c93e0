-- A node of an accepted plan: what it meets, and the extents of its sources.
use Prim.Native.Nat.{ℕ, ◌<◌}
use mathlib.Core.Path.{◌≡◌}
use mathlib.Core.List.{List}
use native.Mathlib.Omega.{arith}
use lib.IntN.{ℤ}
use lib.ListN.{length, get_or, take}
use Rattle.plan.specs.declared.NodeNumber.{NodeNumber}
use Rattle.plan.specs.Words.{node_at, node_count}
use Rattle.plan.specs.Answers.{accepted}
use Rattle.shapes.proofs.Extents.{Extents, no_extents}
use Rattle.rules.specs.Rules.{Derived, no_source, source_of}
use Rattle.verifier.specs.Check.{verdict}
use Rattle.verifier.specs.Meets.{NodeMeets, PlanMeets}
use Rattle.verifier.proofs.Accepted.{accepted_meets}
use Rattle.verifier.proofs.Nodes.{source_has, extents_at_lem}

module _ (t : List ℤ) (ds : List Derived) (v : verdict t ≡ accepted ds) (n : ℕ) (h : n < length ds) where
  plan : PlanMeets t ds
  plan = accepted_meets t ds v

  below : n < node_count t
  below = rw plan.nodes.as_many at h

  pub rules : NodeMeets t n (take n ds) (get_or ds n no_source)
  rules = plan.nodes.each n below

  pub source_extents : (k : ℕ) (s : NodeNumber) → Extents (source_of (take n ds) (node_at t n) k s).extents
  source_extents k s =
      source_has (λ (d : Derived). Extents d.extents) ds n no_extents (λ j q. extents_at_lem t (node_count t) ds plan.nodes j (omega (arith, below))) (node_at t n) k s
