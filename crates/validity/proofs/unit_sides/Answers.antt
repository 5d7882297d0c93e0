use Rattle.std.proofs.Common.{rules, refl, ◌≡◌, ◌+◌, ◌*◌, ◌/◌, ◌%◌, arith}
use Rattle.views.specs.Views.{span}
use Rattle.laws.proofs.Store.{store_none, store_block, store_after_store, store_done}
use Rattle.validity.proofs.Rows.{side_read, unit_step}
use Rattle.validity.proofs.unit_sides.Goals as goal

pub loop-i-init : goal.loop-i-init
loop-i-init c = store_none _ _ _

pub loop-i-preserved : goal.loop-i-preserved
loop-i-preserved c =
    let l = c.loop-i in
    let a = c.args in
    store_block _ _ _ _ l.i 8 _ _ l.invariant c.eight_sides.ensures (λ k w. side_read a.values.now {x = _} refl (omega (arith, unit_step a.n (l.i * 8 + k))))

pub row_sides-requires : goal.row_sides-requires
unfolding span
row_sides-requires c = search rules

pub returns : goal.returns
returns c =
    let l = c.loop-i in
    let a = c.args in
    let i : l.i ≡ a.n / 8 = omega arith in
    store_done _ _ _ (a.n / 8 * 8 + a.n % 8) _ _
    (store_after_store _ _ _ _ (a.n / 8 * 8) (a.n % 8) _ _ (rw i at l.invariant) c.row_sides.ensures
    (λ k w. side_read a.values.now {x = _} refl (rw c.unit.ensures (omega (arith, unit_step a.n (a.n / 8 * 8 + k), unit_step (a.n % 8) k)))))
    (omega arith) (omega arith)
