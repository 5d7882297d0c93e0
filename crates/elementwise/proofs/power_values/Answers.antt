use Rattle.std.proofs.Common.{◌∙◌, ap, pos, ◌^◌}
use borrow.Author.Rules.{sfits_of}
use Rattle.laws.proofs.Machine.{read_back_is}
use Rattle.laws.proofs.Store.{store_none, store_step, store_done}
use Rattle.validity.proofs.Rows.{kept}
use Rattle.elementwise.proofs.Rows.{number_kept}
use Rattle.elementwise.proofs.power_values.Goals as goal

pub loop-i-init : goal.loop-i-init
loop-i-init g c z = store_none _ _ _

pub by_power-requires : goal.by_power-requires
by_power-requires g c =
    let a = c.args in
    let l = c.loop-i in
    let w = c.loop-i-test.true in
    let v = kept (pos 0) a.values.now l.values a.to l.i _ (l.invariant (λ j. pos 0)) in
    (rw (number_kept v a.line a.n l.i c.at.ensures.0 c.requires.1 w c.requires.3) (c.requires.3 l.i w), c.requires.0)

pub loop-i-preserved : goal.loop-i-preserved
loop-i-preserved g c z =
    let a = c.args in
    let l = c.loop-i in
    let v = kept (pos 0) a.values.now l.values a.to l.i _ (l.invariant z) in
    store_step a.values.now l.values a.to l.i _ _ (l.invariant z)
    (read_back_is (sfits_of c.by_power.type_inv) ∙ c.by_power.ensures (z l.i)
    ∙ ap (λ x. g.P.Mix.mixed x (pos (2 ^ a.k)) (z l.i)) (number_kept v a.line a.n l.i c.at.ensures.0 c.requires.1 c.loop-i-test.true c.requires.3))

pub returns : goal.returns
returns g c z = let l = c.loop-i in store_done c.args.values.now l.values c.args.to l.i c.args.n _ (l.invariant z) l.auto.i-end c.loop-i-test.false
