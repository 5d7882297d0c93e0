use borrow.Author.Rules.{sfits_of}
use Rattle.laws.specs.Integers.{max_z}
use Rattle.laws.proofs.Machine.{fit_at}
use Rattle.bounds.specs.Rules.{max_bounds}
use Rattle.bounds.proofs.Readback.{ends_back}
use Rattle.bounds.proofs.max_bounds.Goals as goal

pub returns : goal.returns
unfolding max_bounds
returns c =
    let a = c.args in
    let l = c.greatest in
    let h = c.greatest-2 in
    let x = c.struct_told-1.given in
    let y = c.struct_told-2-1.given in
    ends_back max_z max_z (fit_at a.x.low x.0.1) (fit_at a.y.low y.0.1) (fit_at a.x.high x.1.0.1) (fit_at a.y.high y.1.0.1) (sfits_of l.type_inv) (sfits_of h.type_inv) l.ensures h.ensures
