-- What the check has found of each node, at every prefix of a plan.
use Prim.Native.Nat.{ℕ, ◌<◌}
use mathlib.Core.List.{List}
use native.Mathlib.Omega.{arith}
use lib.IntN.{ℤ}
use lib.ListN.{get_or, take}
use Rattle.plan.specs.declared.NodeNumber.{NodeNumber}
use Rattle.plan.specs.Words.{node_at, params_before}
use Rattle.rules.specs.Rules.{Derived, no_source, source_of}
use Rattle.verifier.specs.Check.{first, second, third}
use Rattle.verifier.specs.Meets.{NodesMeet}
use Rattle.verifier.proofs.Nodes.{op_known, rows_right_lem, shapes_agree_lem, extents_derived, few_elements, source_has, extents_at_lem}
use Rattle.evaluation.specs.Ready.{Proper, Right}
use Rattle.evaluation.proofs.Groups.{proper_none}

module _ (t : List ℤ) (n : ℕ) (ds : List Derived) (m : NodesMeet t n ds) where
  pub proper_at : (i : ℕ) → i < n → Proper (get_or ds i no_source).extents
  proper_at i l =
      let e = extents_at_lem t n ds m i l in
      record { positive = e.positive; ranked = e.ranked; few = few_elements t i (take i ds) (get_or ds i no_source) (m.each i l) }

  module _ (i : ℕ) (l : i < n) where
    source_proper : (k : ℕ) (s : NodeNumber) → Proper (source_of (take i ds) (node_at t i) k s).extents
    source_proper k s = source_has (λ (d : Derived). Proper d.extents) ds i proper_none (λ j h. proper_at j (omega arith)) (node_at t i) k s

    pub node_right : Right (node_at t i) (first (node_at t i) (take i ds)).extents (second (node_at t i) (take i ds)).extents (third (node_at t i) (take i ds)).extents (get_or ds i no_source).extents
    node_right =
        let rules = m.each i l in
        record {
          params = params_before t i;
          known = op_known t i (take i ds) (get_or ds i no_source) rules;
          rows = rows_right_lem t i (take i ds) (get_or ds i no_source) rules;
          shapes = shapes_agree_lem t i (take i ds) (get_or ds i no_source) rules;
          result = extents_derived t i (take i ds) (get_or ds i no_source) rules;
          first = source_proper 1 (node_at t i).source1;
          second = source_proper 2 (node_at t i).source2;
          third = source_proper 3 (node_at t i).source3;
          whole = proper_at i l;
        }
