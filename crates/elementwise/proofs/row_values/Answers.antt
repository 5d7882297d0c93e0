use Rattle.std.proofs.Common.{rules, ◌∙◌, pos}
use borrow.Author.Rules.{sfits_of}
use Rattle.laws.proofs.Machine.{read_back_is}
use Rattle.laws.proofs.Store.{store_none, store_step}
use Rattle.validity.proofs.Rows.{kept, cells_kept}
use Rattle.elementwise.proofs.Rows.{small_back, numbers_read}
use Rattle.elementwise.proofs.row_values.Goals as goal

pub loop-i-init : goal.loop-i-init
loop-i-init g c = store_none _ _ _

pub mix-requires : goal.mix-requires
mix-requires g c =
    let a = c.args in
    let l = c.loop-i in
    let w = c.loop-i-test.true in
    let e = cells_kept (kept (pos 0) a.values.now l.values a.to l.i _ l.invariant) a.lines a.n l.i c.requires.0.before w (c.read-x.ensures (pos 0)) in
    rw e (small_back (c.requires.0.a l.i w), small_back (c.requires.0.b l.i w))

pub loop-i-preserved : goal.loop-i-preserved
loop-i-preserved g c =
    let a = c.args in
    let l = c.loop-i in
    let e = cells_kept (kept (pos 0) a.values.now l.values a.to l.i _ l.invariant) a.lines a.n l.i c.requires.0.before c.loop-i-test.true (c.read-x.ensures (pos 0)) in
    store_step a.values.now l.values a.to l.i _ _ l.invariant
    (read_back_is (sfits_of c.mix.type_inv) ∙ c.mix.ensures ∙ numbers_read g.M.Mix.mixed a.values.now a.lines a.n l.i (search rules) (search rules) (search rules) e)
