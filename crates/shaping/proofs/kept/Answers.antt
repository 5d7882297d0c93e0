use Rattle.shaping.proofs.Flags.{kept_laws}
use Rattle.shaping.proofs.kept.Goals as goal

pub returns-then-n-eq0 : goal.returns-then-n-eq0
returns-then-n-eq0 c = search kept_laws

pub returns-then-one : goal.returns-then-one
returns-then-one c = search kept_laws

pub returns : goal.returns
returns c = search kept_laws
