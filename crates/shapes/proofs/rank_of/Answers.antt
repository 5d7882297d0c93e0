use Rattle.shapes.proofs.Words.{rank-laws}
use Rattle.shapes.proofs.rank_of.Goals as goal

pub returns-then-row-eq0 : goal.returns-then-row-eq0
returns-then-row-eq0 c = search rank-laws

pub returns-then-row-eq0-2 : goal.returns-then-row-eq0-2
returns-then-row-eq0-2 c = search rank-laws

pub returns-then-row-eq0-3 : goal.returns-then-row-eq0-3
returns-then-row-eq0-3 c = search rank-laws

pub returns-then-row-eq0-4 : goal.returns-then-row-eq0-4
returns-then-row-eq0-4 c = search rank-laws

pub returns : goal.returns
returns c = search rank-laws
