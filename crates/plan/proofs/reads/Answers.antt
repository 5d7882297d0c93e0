use mathlib.Core.Path.{refl}
use Rattle.plan.specs.Words.{reads}
use Rattle.plan.proofs.Masks.{mask_uses}
use Rattle.plan.proofs.reads.Goals as goal

pub returns : goal.returns
unfolding reads
returns c = rw (c.in_number.ensures, c.uses_word.ensures, c.used_mask.ensures, mask_uses c.args.x.op c.args.k c.requires) refl
