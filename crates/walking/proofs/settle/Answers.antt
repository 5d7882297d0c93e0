use Rattle.walking.proofs.Walks.{still_then, still_reaches}
use Rattle.walking.proofs.settle.Goals as goal

pub merge-requires-2 : goal.merge-requires-2
merge-requires-2 c = still_reaches c.requires c.merge.ensures

pub merge-requires-3 : goal.merge-requires-3
merge-requires-3 c = still_reaches (still_reaches c.requires c.merge.ensures) c.merge-2.ensures

pub returns : goal.returns
returns c = still_then (still_then c.merge.ensures c.merge-2.ensures) c.merge-3.ensures
