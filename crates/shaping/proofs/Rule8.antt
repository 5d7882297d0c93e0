-- Rule 8 and the extents of a result, by operation.
use Prim.Native.Nat.{ℕ, ◌+◌, ◌≤◌}
use native.Mathlib.Omega.{arith}
use mathlib.Core.Path.{◌≡◌, refl, ap, ◌∙◌}
use mathlib.Core.Bool.{Bool, ◌&&◌, ◌||◌, not}
use mathlib.Core.List.{List, ◌∷◌, []}
use borrow.Author.Tests.{ne_eqb}
use lib.Dec.{eqb, leb}
use lib.ListN.{length}
use Rattle.laws.specs.Lists.{among}
use Rattle.laws.specs.Numbering.{count}
use Rattle.plan.specs.declared.Node.{Node}
use Rattle.plan.specs.Operations.{STACK}
use Rattle.plan.specs.Words.{list_of, size_of, in_number}
use Rattle.plan.proofs.ByOperation.{stack_third}
use Rattle.shapes.specs.Rows.{extents_of}
use Rattle.shapes.specs.Rules.{extent, word_of, same_rank, can_broadcast, broadcast, same_shape, shapes_agree, result_extents}
use Rattle.shapes.specs.declared.Shape.{Shape}
use Rattle.shapes.specs.Shown.{words_in, shown, capped, Tested}
use Rattle.shapes.proofs.Words.{extents_take}
use Rattle.shapes.proofs.Stacking.{stack_agree, stack_extents}
use Rattle.shaping.proofs.Axes.{same_rank_swap}
use Rattle.shaping.proofs.Counts.{same_count}

module _ (x : Node) (s t u : List ℕ) where
  -- ws holds row A, os row B
  module _ {ws : List ℕ} (rowa : ws ≡ list_of x.rowa) where
    pub agree_reshape : {n m : ℕ} → x.op ≡ 4 → Tested x s → n ≡ capped (count s) → m ≡ capped (count (extents_of ws)) → eqb n m ≡ shapes_agree x s t u
    unfolding shapes_agree among
    agree_reshape q l e f = rw (q, e, f, ← rowa) (same_count (count s) (count (extents_of ws)) (l.counted q))

    pub agree_expand : {b : Bool} → x.op ≡ 5 → b ≡ same_rank s (extents_of ws) (λ (k : ℕ). eqb (extent s k) 1 || eqb (extent s k) (extent (extents_of ws) k))
        → b ≡ shapes_agree x s t u
    unfolding shapes_agree among
    agree_expand q e = rw q (rw rowa at e)

    module _ {os : List ℕ} (rowb : os ≡ list_of x.rowb) where
      pub agree_pad : {b : Bool} → x.op ≡ 6 → b ≡ same_rank s (extents_of ws) (λ (k : ℕ). leb (word_of os k + extent s k) (extent (extents_of ws) k))
          → b ≡ shapes_agree x s t u
      unfolding shapes_agree among
      agree_pad q e = rw q (rw (rowa, rowb) at e)

      pub agree_shrink : {b : Bool} → x.op ≡ 7 → b ≡ same_rank (extents_of ws) s (λ (k : ℕ). leb (word_of os k + extent (extents_of ws) k) (extent s k))
          → b ≡ shapes_agree x s t u
      unfolding shapes_agree among
      agree_shrink q e = rw q ((rw (rowa, rowb) at e) ∙ same_rank_swap (extents_of (list_of x.rowa)) s _)

  pub agree_where : {b c : Bool} {r : List ℕ} → x.op ≡ 18 → b ≡ can_broadcast s t → r ≡ broadcast s t → c ≡ can_broadcast r u → (b && c) ≡ shapes_agree x s t u
  unfolding shapes_agree among
  agree_where q e f g = rw (q, e, g, f)

  pub result_where : {q r : List ℕ} → x.op ≡ 18 → q ≡ broadcast s t → r ≡ broadcast q u → r ≡ result_extents x s t u
  unfolding result_extents among
  result_where q e f = rw q (f ∙ ap (λ (r : List ℕ). broadcast r u) e)

pub ruleset movement-laws = (agree_reshape, agree_expand, agree_pad, agree_shrink, agree_where)

-- ---- STACK

module _ (x : Node) (s t u : List ℕ) (q : x.op ≡ STACK) where
  pub agree_stack : {b c third : Bool} {n : ℕ} → third ≡ in_number x 3 → b ≡ same_shape s t → c ≡ same_shape s u → n ≡ length s
      → (b && ((not third || c) && leb n 3)) ≡ shapes_agree x s t u
  agree_stack e f g h = rw (stack_agree x s t u q, e, stack_third x q, f, g, h) refl

pub stack_words : (x : Node) (s : Shape) (t u : List ℕ) {m : ℕ} → x.op ≡ STACK → Tested x (shown s) → length (shown s) ≤ 3 → m ≡ size_of x.number
    → extents_of (m ∷ s.n0 ∷ s.n1 ∷ s.n2 ∷ []) ≡ result_extents x (shown s) t u
unfolding extents_of
stack_words x s t u {m} q tested h e =
    let some : m ≡ 0 → ⊥ = λ z. omega (arith, (tested.stacked q).0) in
    rw (stack_extents x (shown s) t u q, ne_eqb m 0 some, ← e) (ap (λ (r : List ℕ). m ∷ r) (extents_take 3 (words_in s) h))
