use Rattle.running.proofs.run.Goals as goal

pub returns : goal.returns
returns c = let r = c.run_checked.ensures in (rw c.from.ensures r.answer, r.values, r.flags)
