use Rattle.rules.proofs.EarlyRules.{sources_read}
use Rattle.rules.proofs.sources_earlier.Goals as goal

pub returns : goal.returns
returns c = sources_read _ _ c.reads.ensures c.reads-2.ensures c.reads-3.ensures
