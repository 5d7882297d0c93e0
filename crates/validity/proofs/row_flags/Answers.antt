use Rattle.std.proofs.Common.{rules, ◌∙◌, ap, pos}
use lib.ListN.{get_or}
use Rattle.laws.proofs.Machine.{read_back_is}
use Rattle.plan.specs.Coded.{number_of}
use Rattle.validity.specs.Flags.{mix_flag}
use Rattle.laws.proofs.Store.{store_none, store_step}
use Rattle.validity.proofs.Rows.{kept, cells_kept, along_read}
use Rattle.validity.proofs.row_flags.Goals as goal

pub loop-i-init : goal.loop-i-init
loop-i-init c = store_none _ _ _

pub loop-i-preserved : goal.loop-i-preserved
loop-i-preserved c =
    let a = c.args in
    let l = c.loop-i in
    let e = cells_kept (kept 0 _ _ _ _ _ l.invariant) a.lines a.n l.i c.requires.0 c.loop-i-test.true (c.read-f.ensures 0) in
    store_step _ _ _ _ _ _ l.invariant
    (c.mix_flag.ensures _ _ ∙ along_read (mix_flag (number_of a.op)) a.values.now a.flags.now a.lines a.n l.i (read_back_is (search rules) ∙ ap (λ k. get_or a.values.now k (pos 0)) c.at.ensures.0) e)
