use Rattle.shapes.specs.Shown.{shown}
use Rattle.views.proofs.Fronts.{grid_extents}
use Rattle.views.proofs.Walking.{spread_walks}
use Rattle.evaluation.proofs.operand_view.Goals as goal

pub spread_view-requires : goal.spread_view-requires
spread_view-requires c = grid_extents (shown c.args.a.shape) c.grid.result c.grid.ensures c.requires.positive c.requires.few

pub returns : goal.returns
returns c =
    let g = c.grid in
    rw c.spread_view.ensures (λ r R over positive spreads. spread_walks _ r g.result R c.args.a.base g.ensures over positive spreads)
