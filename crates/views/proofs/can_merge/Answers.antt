use Rattle.views.proofs.Steps.{up_fits, down_fits}
use Rattle.views.proofs.can_merge.Goals as goal

pub as_long-requires : goal.as_long-requires
as_long-requires c = let other = c.if-g-eq1.false in (up_fits c.args.g c.args.v c.requires other, down_fits c.args.g c.args.v c.requires other)
