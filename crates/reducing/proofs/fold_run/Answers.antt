use Rattle.std.proofs.Common.{◌≡◌, arith}
use Rattle.views.specs.Views.{stride_of}
use Rattle.views.proofs.Steps.{stride_both}
use Rattle.reducing.proofs.fold_run.Goals as goal

pub returns-in-1 : goal.returns-in-1
returns-in-1 g c = let e : c.args.line.stride ≡ stride_of 1 0 = stride_both (omega arith) (omega arith) in rw e (rw c.unit.ensures at c.fold_along.ensures)
