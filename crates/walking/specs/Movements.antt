-- Movement by a view: which element of its source an element of the result is.
use Rattle.std.specs.Prelude.{ℕ, ◌<◌, ◌≤◌, ◌≡◌, true, List, [], ◌∷◌, length}
use Rattle.laws.specs.Lists.{among}
use Rattle.laws.specs.Numbering.{count}
use Rattle.plan.specs.declared.Node.{Node}
use Rattle.plan.specs.Operations.{PERMUTE, FLIP, EXPAND, SHRINK, Entry, ◌⇒◌, by_operation}
use Rattle.plan.specs.Words.{list_of}
use Rattle.shapes.specs.Rules.{element_limit, extent, shapes_agree}
use Rattle.shapes.specs.Sources.{permute_source, flip_source, expand_source, shrink_source}
use Rattle.rules.specs.Rules.{rows_right}

-- the operations that a view of their source serves
abbrev pub viewed : List ℕ
viewed = PERMUTE ∷ FLIP ∷ EXPAND ∷ SHRINK ∷ []

abbrev pub viewed_rules : Node → List ℕ → List ℕ → ℕ → List (Entry ℕ)
viewed_rules x s r e =
    (PERMUTE ∷ []) ⇒ permute_source s r (list_of x.rowa) e
    ∷ (FLIP ∷ []) ⇒ flip_source s r (list_of x.rowa) e
    ∷ (EXPAND ∷ []) ⇒ expand_source s r e
    ∷ (SHRINK ∷ []) ⇒ shrink_source s r (list_of x.rowb) e
    ∷ []

-- element e of a result of extents r, whose source has extents s
unfoldable pub viewed_from : Node → List ℕ → List ℕ → ℕ → ℕ
viewed_from x s r e = by_operation x.op (viewed_rules x s r e) 0

-- what a check has found of such a node and its source, of extents s
pub record Viewed (x : Node) (s : List ℕ) : Type 0 where
  pub params : ℕ
  pub operation : among x.op viewed ≡ true
  pub rows : rows_right x params (length s) ≡ true
  pub shapes : shapes_agree x s [] [] ≡ true
  pub positive : (k : ℕ) → 0 < extent s k
  pub few : count s ≤ element_limit
