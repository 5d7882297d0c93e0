use Rattle.std.proofs.Common.{◌≡◌, ◌+◌, ◌*◌, ◌<◌, ◌≤◌, min, arith, pos}
use Rattle.laws.proofs.Store.{store_none}
use Rattle.plan.specs.Coded.{number_of}
use Rattle.validity.specs.Flags.{mix_flag}
use Rattle.validity.proofs.Rows.{kept}
use Rattle.elementwise.specs.Mixing.{mix_value}
use Rattle.elementwise.proofs.Rows.{part_sources, part_turn}
use Rattle.elementwise.proofs.mix_parts.Goals as goal

pub loop-part-init : goal.loop-part-init
loop-part-init c = let e : min (0 * 1024) c.args.n ≡ 0 = omega arith in rw e (store_none _ _ _, store_none _ _ _)

pub mix_row-requires : goal.mix_row-requires
mix_row-requires c =
    let a = c.args in
    let l = c.loop-part in
    let m = c.min-m.result in
    let some : l.part * 1024 < a.n = omega (arith, c.div_ceil-part-end.ensures, c.loop-part-test.true) in
    let fits : l.part * 1024 + m ≤ a.n = omega (arith, c.min-m.ensures, some) in
    let few : 0 < m = omega (arith, c.min-m.ensures, some) in
    let v = kept (pos 0) a.values.now l.values a.to _ _ l.invariant.0 in (
      c.requires.1,
      rw c.lines_from.ensures (part_sources v a.lines c.requires.0 a.n m (l.part * 1024) fits few c.requires.2),
      omega (arith, fits, l.auto.values, c.requires.3),
      omega (arith, fits, l.auto.flags, c.requires.4),
    )

pub loop-part-preserved : goal.loop-part-preserved
loop-part-preserved c =
    let a = c.args in
    let l = c.loop-part in
    let i = l.part * 1024 in
    let m = c.min-m.result in
    let some : l.part * 1024 < a.n = omega (arith, c.div_ceil-part-end.ensures, c.loop-part-test.true) in
    let fits : l.part * 1024 + m ≤ a.n = omega (arith, c.min-m.ensures, some) in
    let done : min (l.part * 1024) a.n ≡ l.part * 1024 = omega arith in
    let next : min ((l.part + 1) * 1024) a.n ≡ l.part * 1024 + m = omega (arith, c.min-m.ensures) in
    let v = kept (pos 0) a.values.now l.values a.to _ _ l.invariant.0 in
    let f = kept 0 a.flags.now l.flags a.to _ _ l.invariant.1 in
    let h = rw c.lines_from.ensures at c.mix_row.ensures in (
      rw next (part_turn v f (mix_value (number_of a.op)) a.lines c.requires.0 a.n m i fits c.requires.2.before _ _ _ (rw done at l.invariant.0) h.0),
      rw next (part_turn v f (mix_flag (number_of a.op)) a.lines c.requires.0 a.n m i fits c.requires.2.before _ _ _ (rw done at l.invariant.1) h.1),
    )
