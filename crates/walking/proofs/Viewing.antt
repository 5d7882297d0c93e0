-- The views of PERMUTE, FLIP, EXPAND and SHRINK walk over what the definitions say.
use Prim.Native.Nat.{ℕ, ◌+◌, ◌-◌, ◌<◌, ◌≤◌}
use mathlib.Core.Path.{◌≡◌, refl, sym, ap, ◌∙◌}
use mathlib.Core.Bool.{true, ◌||◌}
use mathlib.Core.List.{List, [], ◌∷◌, ◌++◌}
use native.Mathlib.Omega.{arith}
use borrow.Author.Tests.{eqb-true, ltb-true}
use lib.Dec.{eqb, leb, ltb}
use lib.ListN.{length, take, replicate, length-append, length-replicate}
use Rattle.laws.specs.Lists.{among}
use Rattle.laws.specs.Numbering.{count}
use Rattle.laws.proofs.Booleans.{bool_cases, and_true}
use Rattle.plan.specs.declared.Node.{Node}
use Rattle.plan.specs.declared.Row.{Row}
use Rattle.plan.specs.Operations.{PERMUTE, FLIP, EXPAND, SHRINK}
use Rattle.plan.specs.Words.{list_of}
use Rattle.shapes.specs.Rows.{extents_of, row_of, is_permutation}
use Rattle.shapes.specs.Rules.{extent, word_of, same_rank, shapes_agree, result_extents}
use Rattle.shapes.proofs.Extents.{extents_positive, extents_length}
use Rattle.shapes.proofs.RowTests.{row_word}
use Rattle.shapes.proofs.Sources.{expand_spreads}
use Rattle.rules.proofs.RowRule.{permute_rule}
use Rattle.views.specs.declared.View.{View}
use Rattle.views.specs.Strides.{Extents, spread_view, flip_view, shrink_view, permute_view, axes_in_front, strides_of, dot_of}
use Rattle.views.specs.Views.{reach, row_reach}
use Rattle.views.specs.Walks.{InFront, Walks}
use Rattle.views.proofs.Fronts.{grid_rank, grid_extents, words_in_front, same_rank_lem}
use Rattle.views.proofs.Walking.{expand_walks}
use Rattle.views.proofs.Moving.{flip_walks, shrink_walks}
use Rattle.views.proofs.Permuting.{permute_walks}
use Rattle.walking.specs.Movements.{viewed_from, Viewed}

-- what a view has to walk over
abbrev Walked : Node → List ℕ → ℕ → View → List ℕ → Type 0
Walked x s base v r = (R : Row) → InFront 1 r R → Walks R v base (count r) (count s) (viewed_from x s r)

-- a grid is known by its words
grid_same : (R S : Row) → list_of R ≡ list_of S → R ≡ S
grid_same R S e =
    let w : (k : ℕ) → word_of (list_of R) k ≡ word_of (list_of S) k = λ k. ap (λ (l : List ℕ). word_of l k) e in
    rw (w 0, w 1, w 2, w 3) refl

-- extents of a rank up to 4 have a grid
from_words : List ℕ → Row
from_words l = record { r0 = word_of l 0; r1 = word_of l 1; r2 = word_of l 2; r3 = word_of l 3 }

words_back : (l : List ℕ) → length l ≡ 4 → list_of (from_words l) ≡ l
unfolding from_words
words_back [] h = absurd (omega arith)
words_back (a ∷ []) h = absurd (omega arith)
words_back (a ∷ b ∷ []) h = absurd (omega arith)
words_back (a ∷ b ∷ c ∷ []) h = absurd (omega arith)
words_back (a ∷ b ∷ c ∷ d ∷ []) h = refl
words_back (a ∷ b ∷ c ∷ d ∷ e ∷ l) h = absurd (omega arith)

some_grid : (r : List ℕ) → length r ≤ 4 → (R : Row) × InFront 1 r R
some_grid r h =
    let l : List ℕ = replicate (4 - length r) 1 ++ r in
    (from_words l, words_back l (length-append (replicate (4 - length r) 1) r ∙ omega (arith, length-replicate {A = ℕ} (4 - length r) 1)))

-- the axes of a permutation of a rank up to 4
pub axes_small : (rank : ℕ) (row : Row) → is_permutation rank (list_of row) ≡ true → rank ≤ 4 → (k : ℕ) → k < 4 → word_of (list_of row) k < 4
unfolding is_permutation
axes_small rank row e few k h =
    let test = row_word (λ (n : ℕ). ltb n rank) rank (list_of row) (and_true (row_of (λ (n : ℕ). ltb n rank) rank (list_of row)) _ e).0 k h in
    bool_cases (ltb k rank)
    (λ b. omega (arith, ltb-true (word_of (list_of row) k) rank (rw b at test)))
    (λ b. omega (arith, eqb-true (word_of (list_of row) k) 0 (rw b at test)))

module _ (x : Node) (s : List ℕ) (S : Row) (base : ℕ) (v : Viewed x s) (under : InFront 1 s S) where
  pub source_extents : Extents S
  source_extents = grid_extents s S under v.positive v.few

  module _ (op : x.op ≡ PERMUTE) where
    pub axes_right : is_permutation (length s) (list_of x.rowa) ≡ true
    axes_right = permute_rule x v.params (length s) v.rows op

    pub permute_view_lem : (A : Row) → list_of A ≡ axes_in_front (4 - length s) (take (length s) (list_of x.rowa)) → Walked x s base (permute_view base S A) (result_extents x s [] [])
    unfolding result_extents viewed_from among
    permute_view_lem A axes =
        rw op (λ R over. permute_walks s S R A x.rowa base axes_right under over axes v.positive)

  module _ (op : x.op ≡ FLIP) (F : Row) (flags : list_of F ≡ replicate (4 - length s) 0 ++ take (length s) (list_of x.rowa)) where
    pub flip_view_lem : Walked x s base (flip_view base S F) (result_extents x s [] [])
    unfolding result_extents viewed_from among
    flip_view_lem =
        rw op (λ R over.
        rw (grid_same R S (over ∙ sym under)) (flip_walks s S F x.rowa base under (words_in_front (length s) x.rowa F (grid_rank s S under) flags) v.positive))

  module _ (op : x.op ≡ EXPAND) where
    expand_rule : same_rank s (extents_of (list_of x.rowa)) (λ (k : ℕ). eqb (extent s k) 1 || eqb (extent s k) (extent (extents_of (list_of x.rowa)) k)) ≡ true
    unfolding shapes_agree among
    expand_rule = rw op at v.shapes

    pub expand_view : Walked x s base (spread_view base S) (result_extents x s [] [])
    unfolding result_extents viewed_from among
    expand_view =
        let r = extents_of (list_of x.rowa) in
        rw op (λ R over. expand_walks s r S R base under over (extents_positive (list_of x.rowa)) (expand_spreads s r expand_rule) (same_rank_lem s r _ expand_rule))

  module _ (op : x.op ≡ SHRINK) (O : Row) (offsets : list_of O ≡ replicate (4 - length s) 0 ++ take (length s) (list_of x.rowb)) where
    shrink_rule : same_rank s (extents_of (list_of x.rowa)) (λ (k : ℕ). leb (word_of (list_of x.rowb) k + extent (extents_of (list_of x.rowa)) k) (extent s k)) ≡ true
    unfolding shapes_agree among
    shrink_rule = rw op at v.shapes

    -- it begins inside its source
    pub shrink_begins : base + dot_of O (strides_of S) < base + count s
    unfolding reach row_reach
    shrink_begins =
        let r = extents_of (list_of x.rowa) in
        let few : length r ≤ 4 = extents_length (list_of x.rowa) in
        let g = some_grid r few in
        let o = words_in_front (length s) x.rowb O (grid_rank s S under) offsets in
        let w = shrink_walks s r S g.0 O x.rowb base under g.1 o (extents_positive (list_of x.rowa)) shrink_rule in
        omega (arith, w.inside)

    pub shrink_view_lem : Walked x s base (shrink_view base S O) (result_extents x s [] [])
    unfolding result_extents viewed_from among
    shrink_view_lem =
        let r = extents_of (list_of x.rowa) in
        let o = words_in_front (length s) x.rowb O (grid_rank s S under) offsets in
        rw op (λ R over. shrink_walks s r S R O x.rowb base under over o (extents_positive (list_of x.rowa)) shrink_rule)
