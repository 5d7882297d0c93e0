use mathlib.Core.Path.{refl}
use Rattle.verifier.proofs.source_record.Goals as goal

pub returns-then-reads : goal.returns-then-reads
returns-then-reads c = rw (← c.reads.ensures, c.if-reads.true) refl

pub returns : goal.returns
returns c = rw (← c.reads.ensures, c.if-reads.false) c.blank.ensures
