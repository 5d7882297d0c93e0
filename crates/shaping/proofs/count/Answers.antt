use mathlib.Core.Path.{refl}
use mathlib.Core.List.{[], ◌∷◌}
use Rattle.laws.specs.Numbering.{count}
use Rattle.shapes.specs.Rows.{extents_of}
use Rattle.shapes.specs.Shown.{capped}
use Rattle.shaping.proofs.count.Goals as goal

pub returns : goal.returns
unfolding capped count extents_of
returns c =
    let s = c.args.s in
    c.times-4.ensures.by_index (s.n1 ∷ s.n2 ∷ s.n3 ∷ [])
    (c.times-3.ensures.by_index (s.n2 ∷ s.n3 ∷ []) (c.times-2.ensures.by_index (s.n3 ∷ []) (c.times.ensures.by_index [] refl)))
