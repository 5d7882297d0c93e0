use Rattle.std.proofs.Common.{arith, ◌∙◌}
use Rattle.validity.proofs.Rows.{put}
use Rattle.validity.proofs.eight_sides.Goals as goal

pub returns : goal.returns
returns c = put _ _ _ _ 8 _ c.requires.1 (omega arith) (c.copy_from_slice.ensures.after ∙ c.read_sides.ensures)
