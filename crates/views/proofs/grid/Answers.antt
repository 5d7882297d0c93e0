use Rattle.shapes.specs.Shown.{words_in}
use Rattle.shapes.proofs.Extents.{extents_length}
use Rattle.views.proofs.Steps.{extents_first}
use mathlib.Core.Path.{refl, ◌∙◌}
use native.Mathlib.Omega.{arith}
use Rattle.views.proofs.grid.Goals as goal

pub in_front-requires : goal.in_front-requires
in_front-requires c = omega (arith, c.rank.ensures, extents_length (words_in c.args.s))

pub returns : goal.returns
returns c =
    let words = c.from.ensures in
    let rank = c.rank.ensures in
    c.in_front.ensures ∙ rw (rank, words, extents_first (words_in c.args.s)) refl
