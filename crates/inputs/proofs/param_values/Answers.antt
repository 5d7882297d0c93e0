use borrow.Author.Rules.{sfits_of}
use Rattle.std.proofs.Common.{w64, ◌+◌, get_or, pos, refl, ◌∙◌, to_z-of_z, rules}
use Rattle.laws.proofs.Store.{store_none, store_step}
use Rattle.inputs.proofs.Reading.{cell_read}
use Rattle.inputs.proofs.param_values.Goals as goal

pub loop-i-init : goal.loop-i-init
loop-i-init c = (refl, store_none _ _ _)

pub loop-i-preserved : goal.loop-i-preserved
loop-i-preserved c =
    let cell = cell_read (get_or c.args.given.now (c.args.from + c.loop-i.i) (pos 0)) _ (search rules) c.known_value.ensures in
    (search rules, store_step _ _ _ _ _ _ c.loop-i.invariant.1 (to_z-of_z {w = w64} (sfits_of c.known_value.type_inv) ∙ cell))
