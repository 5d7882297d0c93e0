use Rattle.laws.specs.Lists.{tab}
use Rattle.shapes.proofs.shape_of.Goals as goal

pub returns : goal.returns
unfolding tab
returns g c p e =
    rw (e 0 _ c.word.ensures, e 1 _ c.word-2.ensures, e 2 _ c.word-3.ensures, e 3 _ c.word-4.ensures)
