-- The sources of a STACK have one shape, and its result one axis more.
use Prim.Native.Nat.{ℕ, ◌≤◌, ◌/◌, ◌%◌}
use mathlib.Core.Path.{◌≡◌, refl, sym, ◌∙◌}
use mathlib.Core.Bool.{true, ◌&&◌, ◌||◌, not}
use mathlib.Core.List.{List, ◌∷◌}
use borrow.Author.Tests.{eqb-true, leb-true}
use lib.Dec.{eqb, leb}
use lib.ListN.{length}
use lib.Seq.{ext_get_or}
use Rattle.laws.specs.Lists.{all_below, among}
use Rattle.laws.specs.Numbering.{count, coord}
use Rattle.laws.proofs.Booleans.{and_true, all_below_lem}
use Rattle.plan.specs.declared.Node.{Node}
use Rattle.plan.specs.Operations.{STACK}
use Rattle.plan.specs.Words.{size_of, reads}
use Rattle.shapes.specs.Rules.{extent, same_rank, same_shape, shapes_agree, result_extents}
use Rattle.shapes.specs.Coordinates.{StackedFrom}

pub same_shape_lem : (s t : List ℕ) → same_shape s t ≡ true → t ≡ s
unfolding same_shape same_rank
same_shape_lem s t e =
    let f = and_true (eqb (length s) (length t)) (all_below (length s) (λ (k : ℕ). eqb (extent s k) (extent t k))) e in
    sym (ext_get_or 1 s t (eqb-true _ _ f.0) (λ k h. eqb-true _ _ (all_below_lem (length s) (λ (k : ℕ). eqb (extent s k) (extent t k)) f.1 k h)))

module _ (x : Node) (s t u : List ℕ) (q : x.op ≡ STACK) where
  pub stack_extents : result_extents x s t u ≡ size_of x.number ∷ s
  unfolding result_extents among
  stack_extents = rw q refl

  pub stack_agree : shapes_agree x s t u ≡ (same_shape s t && ((not (reads x 3) || same_shape s u) && leb (length s) 3))
  unfolding shapes_agree among
  stack_agree = rw q refl

  module _ (agree : shapes_agree x s t u ≡ true) where
    parts : (same_shape s t ≡ true) × ((not (reads x 3) || same_shape s u) ≡ true) × (leb (length s) 3 ≡ true)
    parts =
        let f = and_true (same_shape s t) _ (sym stack_agree ∙ agree) in
        let g = and_true (not (reads x 3) || same_shape s u) _ f.1 in
        (f.0, g.0, g.1)

    pub stack_second : t ≡ s
    stack_second = same_shape_lem s t parts.0

    pub stack_third : reads x 3 ≡ true → u ≡ s
    stack_third r = same_shape_lem s u (rw r at parts.1)

    pub stack_rank : length s ≤ 3
    stack_rank = leb-true (length s) 3 parts.2

-- "joined on a new leading axis": the first coordinate is the source's turn, the others are those of the element in it
pub stacked_from : (m : ℕ) (s : List ℕ) (e : ℕ) → StackedFrom s (m ∷ s) (e / count s) (e % count s) e
unfolding coord
stacked_from m s e = (refl, λ k l. refl)
