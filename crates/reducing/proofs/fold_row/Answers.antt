use Rattle.reducing.proofs.Folds.{run_of_one}
use Rattle.reducing.proofs.fold_row.Goals as goal

pub returns-then-m-eq1 : goal.returns-then-m-eq1
returns-then-m-eq1 g c =
    let a = c.args in
    run_of_one _ _ _ a.to a.n a.kept a.gathered c.if-m-eq1.true (rw c.shifted.ensures at c.take_each.ensures)
