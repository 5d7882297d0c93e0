-- The element of its source that an element of a node is, by operation.
use Prim.Native.Nat.{ℕ, ◌+◌, ◌-◌, ◌/◌, ◌%◌, ◌<◌}
use mathlib.Core.Path.{◌≡◌, refl, sym, ap, ◌∙◌}
use mathlib.Core.Bool.{true, false, ◌&&◌, ◌||◌}
use mathlib.Core.Option.{Option, none, some}
use mathlib.Core.List.{List, ◌++◌}
use native.Mathlib.Omega.{arith}
use native.Mathlib.Nat.{zero-add}
use borrow.Author.Tests.{eqb-true, leb-true}
use lib.Dec.{eqb, leb}
use lib.ListN.{length, take, replicate}
use Rattle.laws.specs.Lists.{among}
use Rattle.laws.specs.Numbering.{count}
use Rattle.laws.proofs.Booleans.{bool_cases, and_true, or_true}
use Rattle.plan.specs.declared.Node.{Node}
use Rattle.plan.specs.declared.Row.{Row}
use Rattle.plan.specs.declared.ElementNumber.{ElementNumber}
use Rattle.plan.specs.Operations.{PAD, followed}
use Rattle.plan.specs.Words.{list_of, element}
use Rattle.plan.proofs.ByOperation.{◌then◌, for_group, for_range}
use Rattle.shapes.specs.Sources.{pad_source, source_element}
use Rattle.views.specs.declared.View.{View}
use Rattle.views.specs.Views.{step, row_place, place}
use Rattle.views.specs.Walks.{InFront, Walks, in_band, row_inside, row_start, band_place, from}
use Rattle.walking.specs.Movements.{viewed, viewed_from}
use Rattle.evaluation.specs.Standing.{Padded}
use Rattle.evaluation.proofs.Laying.{pad_place}

-- ---- the operations that are followed

-- the test by number
abbrev ByNumber : ℕ → Type 0
ByNumber op = ((leb 2 op && leb op 7) || eqb op 20) ≡ among op followed

pub followed_is : (op : ℕ) → ByNumber op
unfolding among
followed_is op =
    bool_cases ((leb 2 op && leb op 7) || eqb op 20)
    (λ b. or_true (leb 2 op && leb op 7) (eqb op 20) b
    (λ between. let ends = and_true (leb 2 op) (leb op 7) between in
    for_range ByNumber op 2 6 (refl then refl then refl then refl then refl then refl then tt) (leb-true 2 op ends.0) (omega (arith, leb-true op 7 ends.1)))
    (λ last. rw (eqb-true op 20 last) refl))
    (λ b. bool_cases (among op followed)
    (for_group ByNumber op followed (refl then refl then refl then refl then refl then refl then refl then tt))
    (λ other. b ∙ sym other))

-- ---- by a view

-- the place of element e of a walk over a source that begins at 0
pub walked_element : {g : Row} {v : View} {n m : ℕ} {f : ℕ → ℕ} → Walks g v 0 n m f → (e : ℕ) → e < n
    → {p q : ℕ} → p ≡ row_place g v (e / g.r3) → q ≡ step g.r3 v.s3 (e % g.r3) → p + q ≡ f e
unfolding place
walked_element {f = f} w e h p q = rw (p, q) (w.at e h ∙ zero-add (f e))

-- ---- PAD

-- the element at a place of a source that begins at 0
abbrev element_at : Option ℕ → Option ElementNumber
element_at none = none
element_at (some n) = some (element n)

from_first : (q : Option ElementNumber) → element_at (from 0 q) ≡ q
from_first none = refl
from_first (some e) = ap (λ (n : ℕ). some (element n)) (zero-add e.0)

-- a row of gaps, a gap in a row that has cells of the source, and such a cell
module _ (x : Node) (s r : List ℕ) (S R O : Row) (p : Padded x s r) (under : InFront 1 s S) (over : InFront 1 r R)
    (offsets : list_of O ≡ replicate (4 - length s) 0 ++ take (length s) (list_of x.rowb)) (e : ℕ) (h : e < count r) where
  -- the element of the source, by its place
  origin : element_at (band_place R O S 0 e) ≡ pad_source s r (list_of x.rowb) e
  origin = ap element_at (pad_place x s r S R O p under over offsets 0 e h) ∙ from_first (pad_source s r (list_of x.rowb) e)

  pub row_gap : row_inside R O S (e / R.r3) ≡ false → none ≡ pad_source s r (list_of x.rowb) e
  unfolding band_place
  row_gap a = rw a at origin

  pub column_gap : row_inside R O S (e / R.r3) ≡ true → in_band O.r3 S.r3 (e % R.r3) ≡ false → none ≡ pad_source s r (list_of x.rowb) e
  unfolding band_place
  column_gap a b = rw (a, b) at origin

  pub laid_element : row_inside R O S (e / R.r3) ≡ true → in_band O.r3 S.r3 (e % R.r3) ≡ true
      → {p : ℕ} → p ≡ row_start R O S 0 (e / R.r3) → some (element (p + (e % R.r3 - O.r3))) ≡ pad_source s r (list_of x.rowb) e
  unfolding band_place
  laid_element a b p = rw p (rw (a, b) at origin)

-- ---- by operation

module _ (x : Node) (s r : List ℕ) (e : ElementNumber) where
  -- PAD
  pub padded_element : x.op ≡ PAD → pad_source s r (list_of x.rowb) e.0 ≡ source_element x s r e
  unfolding source_element among
  padded_element q = rw q refl

  -- RESHAPE and LOAD
  pub kept_element : (eqb x.op 4 || eqb x.op 20) ≡ true → some e ≡ source_element x s r e
  unfolding source_element among
  kept_element b = or_true (eqb x.op 4) (eqb x.op 20) b (λ q. rw (eqb-true x.op 4 q) refl) (λ q. rw (eqb-true x.op 20 q) refl)

  -- PERMUTE, FLIP, EXPAND and SHRINK
  pub viewed_element : among x.op viewed ≡ true → some (element (viewed_from x s r e.0)) ≡ source_element x s r e
  unfolding source_element viewed_from among
  viewed_element h =
      for_group (λ (op : ℕ). x.op ≡ op → some (element (viewed_from x s r e.0)) ≡ source_element x s r e) x.op viewed
      ((λ q. rw q refl) then (λ q. rw q refl) then (λ q. rw q refl) then (λ q. rw q refl) then tt) h refl
