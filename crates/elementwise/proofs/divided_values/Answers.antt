use Rattle.std.proofs.Common.{rules}
use Rattle.elementwise.proofs.Rows.{power_row}
use Rattle.elementwise.proofs.divided_values.Goals as goal

pub returns-then-k-lt32 : goal.returns-then-k-lt32
returns-then-k-lt32 g c =
    let a = c.args in
    power_row g.P.Mix.mixed a.values.now _ a.lines c.unit.result a.to a.n c.exponent-k.result (c.are_stepping.ensures c.if-are_stepping.true) c.unit.ensures (search rules) (c.exponent-k.ensures c.if-k-lt32.true) c.power_values.ensures
