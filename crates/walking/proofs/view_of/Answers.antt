use Prim.Native.Nat.{ℕ}
use mathlib.Core.Path.{◌≡◌, sym, ap, ◌∙◌}
use Rattle.plan.specs.declared.operations.Operation.{Operation}
use Rattle.plan.specs.Coded.{number_of}
use native.Mathlib.Omega.{arith}
use mathlib.Core.Bool.{true, false, true≢false}
use Rattle.laws.specs.Lists.{among}
use Rattle.plan.specs.Operations.{SHRINK, is_operation}
use Rattle.plan.proofs.ByOperation.{◌then◌, for_group}
use Rattle.walking.specs.Movements.{viewed}
use Rattle.shapes.proofs.Extents.{extents_length}
use Rattle.shapes.specs.Shown.{words_in}
use Rattle.walking.proofs.Viewing.{axes_small, source_extents, axes_right, permute_view_lem, flip_view_lem, expand_view, shrink_begins, shrink_view_lem}
use Rattle.walking.proofs.view_of.Goals.{in_default-via-in-Ok+in_default, in_default-via-in_default}
use Rattle.walking.proofs.view_of.Goals as goal

-- the operation that was decoded
op_is : {n : ℕ} {op other : Operation} → number_of op ≡ n → op ≡ other → n ≡ number_of other
op_is e q = sym e ∙ ap number_of q

-- what is viewed is an operation
never : (n : ℕ) → among n viewed ≡ true → is_operation n ≡ false → ⊥
unfolding among is_operation
never n m e = for_group (λ (k : ℕ). is_operation k ≡ false → ⊥) n viewed ((λ q. true≢false q) then (λ q. true≢false q) then (λ q. true≢false q) then (λ q. true≢false q) then tt) m e

pub axes-requires : goal.axes-requires
axes-requires c =
    let x = c.args.x in
    let right = axes_right x _ c.grid-g.result c.args.base c.requires.0 c.grid-g.ensures (op_is c.in-Ok-Permute.ensures c.in-Ok-Permute.field-0-is) in
    let small = axes_small _ x.rowa right (extents_length (words_in c.args.s)) in
    (omega (arith, c.rank-rank.ensures, extents_length (words_in c.args.s)), small 0 (omega arith), small 1 (omega arith), small 2 (omega arith), small 3 (omega arith))

pub permute_view-requires : goal.permute_view-requires
permute_view-requires c = source_extents c.args.x _ c.grid-g.result c.args.base c.requires.0 c.grid-g.ensures

pub words-requires : goal.words-requires
words-requires c = omega (arith, c.rank-rank.ensures, extents_length (words_in c.args.s))

pub flip_view-requires : goal.flip_view-requires
flip_view-requires c = source_extents c.args.x _ c.grid-g.result c.args.base c.requires.0 c.grid-g.ensures

pub spread_view-requires : goal.spread_view-requires
spread_view-requires c = source_extents c.args.x _ c.grid-g.result c.args.base c.requires.0 c.grid-g.ensures

pub words-requires-in_default : goal.words-requires-in_default
words-requires-in_default c = omega (arith, c.rank-rank.ensures, extents_length (words_in c.args.s))

pub shrink_view-requires : goal.shrink_view-requires
unfolding among
shrink_view-requires c =
    let x = c.args.x in
    let g = c.grid-g in
    let m = c.requires.0.operation in
    let op : x.op ≡ SHRINK = elim c.in_default.branch [ in_default-via-in-Ok+in_default w ↦ grind arith | in_default-via-in_default w ↦ absurd (never _ m (rw w.in_default.is at c.try_from.ensures).1) ] in
    let o = rw c.rank-rank.ensures at c.words-in_default.ensures in
    (source_extents x _ g.result c.args.base c.requires.0 g.ensures, omega (arith, c.requires.1, shrink_begins x _ g.result c.args.base c.requires.0 g.ensures op c.words-in_default.result o))

pub returns-in-Ok-Permute : goal.returns-in-Ok-Permute
returns-in-Ok-Permute c =
    let g = c.grid-g in
    let a = c.axes in
    rw c.permute_view.ensures (permute_view_lem c.args.x _ g.result c.args.base c.requires.0 g.ensures (op_is c.in-Ok-Permute.ensures c.in-Ok-Permute.field-0-is) a.result (rw c.rank-rank.ensures at a.ensures))

pub returns-in-Ok-Flip : goal.returns-in-Ok-Flip
returns-in-Ok-Flip c =
    let g = c.grid-g in
    let a = c.words in
    rw c.flip_view.ensures (flip_view_lem c.args.x _ g.result c.args.base c.requires.0 g.ensures (op_is c.in-Ok-Flip.ensures c.in-Ok-Flip.field-0-is) a.result (rw c.rank-rank.ensures at a.ensures))

pub returns-in-Ok-Expand : goal.returns-in-Ok-Expand
returns-in-Ok-Expand c =
    let g = c.grid-g in
    rw c.spread_view.ensures (expand_view c.args.x _ g.result c.args.base c.requires.0 g.ensures (op_is c.in-Ok-Expand.ensures c.in-Ok-Expand.field-0-is))

pub returns-in_default : goal.returns-in_default
unfolding among
returns-in_default c =
    let x = c.args.x in
    let g = c.grid-g in
    let a = c.words-in_default in
    let m = c.requires.0.operation in
    let op : x.op ≡ SHRINK = elim c.in_default.branch [ in_default-via-in-Ok+in_default w ↦ grind arith | in_default-via-in_default w ↦ absurd (never _ m (rw w.in_default.is at c.try_from.ensures).1) ] in
    rw c.shrink_view.ensures (shrink_view_lem x _ g.result c.args.base c.requires.0 g.ensures op a.result (rw c.rank-rank.ensures at a.ensures))
