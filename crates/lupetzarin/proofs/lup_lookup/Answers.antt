use Rattle.lupetzarin.proofs.lup_lookup.Goals as goal

pub returns : goal.returns
returns c = rw c.lookup.ensures at c.from.ensures
