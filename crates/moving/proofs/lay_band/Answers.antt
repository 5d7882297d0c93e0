use Rattle.std.proofs.Common.{arith, rules}
use Rattle.moving.proofs.Bands.{one_span, band_laid}
use Rattle.moving.proofs.lay_band.Goals as goal

pub copy-requires : goal.copy-requires
copy-requires g c = rw c.unit.ensures (omega (arith, one_span c.args.n c.args.p c.args.to c.requires.2 c.requires.1), search rules)

pub returns : goal.returns
returns g c =
    let a = c.args in
    band_laid a.gap _ a.before a.n a.p a.to a.width c.requires.0 c.requires.1 c.fill.ensures (rw c.unit.ensures at c.copy.ensures a.gap) c.fill-2.ensures
