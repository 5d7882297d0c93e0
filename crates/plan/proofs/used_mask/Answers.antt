use mathlib.Core.Path.{refl, sym}
use Rattle.plan.specs.Operations.{mask_of, masks}
use Rattle.plan.proofs.Masks.{mask_none}
use Rattle.plan.proofs.used_mask.Goals as goal

pub returns-then-op-lt24 : goal.returns-then-op-lt24
unfolding masks mask_of
returns-then-op-lt24 c = refl

pub returns : goal.returns
returns c = sym (mask_none _ c.if-op-lt24.false)
