use mathlib.Core.Path.{ap, ◌∙◌}
use Rattle.laws.proofs.Machine.{read_back_is}
use Rattle.packing.specs.Bytes.{packed_word}
use Rattle.packing.proofs.Putting.{word_written, word_skipped, word_room}
use Rattle.packing.proofs.word.Goals as goal

pub groups-requires : goal.groups-requires
groups-requires c = word_room _ _ c.if-used.true c.requires

pub returns-then-used : goal.returns-then-used
returns-then-used c = word_written c.args.w c.if-used.true (c.number_for.ensures ∙ ap packed_word (read_back_is c.ranges.w)) c.groups.ensures

pub returns : goal.returns
returns c = word_skipped c.args.w _ _ c.if-used.false
