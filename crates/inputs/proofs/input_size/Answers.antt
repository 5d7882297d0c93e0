use Rattle.std.proofs.Common.{refl, ◌∙◌, ne_eqb}
use Rattle.shaping.proofs.Counts.{capped_within}
use Rattle.inputs.proofs.input_size.Goals as goal

pub returns-then-op : goal.returns-then-op
returns-then-op c = rw c.if-op.true (c.count.ensures ∙ capped_within c.requires)

pub returns : goal.returns
returns c = rw (ne_eqb _ 1 c.if-op.false) refl
