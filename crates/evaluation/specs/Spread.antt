-- Binary operations and WHERE: their walks. s, t and u are the sources' extents, pa, pb and pc where they begin, r the result's extents.
use Rattle.std.specs.Prelude.{ℕ, ◌≡◌, List}
use Rattle.laws.specs.Numbering.{count}
use Rattle.plan.specs.declared.Node.{Node}
use Rattle.plan.specs.declared.Row.{Row}
use Rattle.plan.specs.Operations.{WHERE}
use Rattle.plan.specs.Words.{element}
use Rattle.shapes.specs.Sources.{broadcast_source}
use Rattle.views.specs.declared.View.{View}
use Rattle.views.specs.Walks.{Walks}
use Rattle.walking.specs.declared.Walk.{Walk}

-- a view that walks over a source as a broadcast to extents r does
abbrev pub Spreading : Row → View → ℕ → List ℕ → List ℕ → Type 0
Spreading R v base s r = Walks R v base (count r) (count s) (λ (e : ℕ). (broadcast_source s r (element e)).0)

-- the views of the sources of a binary operation or WHERE, over the grid of its result; a binary operation has its second twice
pub record Spread (x : Node) (s t u r : List ℕ) (pa pb pc : ℕ) (w : Walk) : Type 0 where
  pub first : Spreading w.grid w.a pa s r
  pub second : Spreading w.grid w.b pb t r
  pub third : x.op ≡ WHERE → Spreading w.grid w.d pc u r
  pub twice : (x.op ≡ WHERE → ⊥) → w.d ≡ w.b
