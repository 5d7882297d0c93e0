use borrow.Author.Rules.{sfits_of}
use Rattle.laws.specs.Integers.{min_z}
use Rattle.laws.proofs.Machine.{fit_at}
use Rattle.bounds.specs.Rules.{min_bounds}
use Rattle.bounds.proofs.Readback.{ends_back}
use Rattle.bounds.proofs.min_bounds.Goals as goal

pub returns : goal.returns
unfolding min_bounds
returns c =
    let a = c.args in
    let l = c.least in
    let h = c.least-2 in
    let x = c.struct_told-1.given in
    let y = c.struct_told-2-1.given in
    ends_back min_z min_z (fit_at a.x.low x.0.1) (fit_at a.y.low y.0.1) (fit_at a.x.high x.1.0.1) (fit_at a.y.high y.1.0.1) (sfits_of l.type_inv) (sfits_of h.type_inv) l.ensures h.ensures
