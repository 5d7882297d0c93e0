use Rattle.std.proofs.Common.{rules, ◌+◌, arith, ◌∙◌, pos}
use borrow.Author.Rules.{sfits_of}
use Rattle.laws.proofs.Machine.{read_back_is}
use Rattle.laws.proofs.Store.{store_none, store_step, store_ahead}
use Rattle.validity.proofs.Clearing.{cleared_read}
use Rattle.validity.proofs.Rows.{}
use Rattle.validity.proofs.clear_gaps.Goals as goal

pub loop-i-init : goal.loop-i-init
loop-i-init c = store_none _ _ _

pub loop-i-preserved : goal.loop-i-preserved
loop-i-preserved c =
    let l = c.loop-i in
    store_step _ _ _ _ _ _ l.invariant
    (read_back_is (sfits_of c.cleared.type_inv) ∙ c.cleared.ensures
    ∙ cleared_read c.args.flags.now (read_back_is (search rules) ∙ store_ahead _ _ _ _ _ (c.args.to + l.i) (pos 0) l.invariant (omega arith)) c.at.ensures.0)
