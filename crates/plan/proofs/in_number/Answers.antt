use Rattle.laws.proofs.Machine.{read_back_is, fit_at}
use Rattle.plan.proofs.in_number.Goals as goal

pub returns : goal.returns
returns c =
    let x = c.args.x in
    simp (c.size_of_word.ensures, read_back_is (fit_at x.number c.struct_told-1.given.1.1.1.1.1.0.1))
