use Rattle.codec.proofs.Reading.{no_byte}
use Rattle.codec.proofs.number_at.Goals as goal

pub returns-then-bytes-at : goal.returns-then-bytes-at
returns-then-bytes-at c = rw c.at.ensures (no_byte _ _ c.if-bytes-at.true)
