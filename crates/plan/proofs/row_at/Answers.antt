use Rattle.plan.proofs.row_at.Goals as goal

pub returns : goal.returns
returns c = cc
