use mathlib.Core.Path.{refl}
use native.Mathlib.Omega.{arith}
use Rattle.plan.specs.Coded.{number_of}
use Rattle.plan.proofs.Coded.{number_known}
use Rattle.rules.specs.Rules.{type_named}
use Rattle.rules.proofs.EarlyRules.{bit_uses}
use Rattle.rules.proofs.type_named.Goals as goal

pub returns : goal.returns
unfolding type_named
returns c =
    let x = c.args.x in
    rw (c.uses_word.ensures, c.used_mask.ensures, c.number.ensures, bit_uses (number_of x.op) 4 (number_known x.op) (omega arith), x.named) refl
