use Rattle.bounds.specs.Rules.{add_bounds}
use Rattle.bounds.proofs.Readback.{read_sum_fits, read_sum}
use Rattle.bounds.proofs.add_bounds.Goals as goal

pub overflow_add-result : goal.overflow_add-result
overflow_add-result c = let p = c.requires in read_sum_fits p.0.low p.1.low

pub overflow_add-result-2 : goal.overflow_add-result-2
overflow_add-result-2 c = let p = c.requires in read_sum_fits p.0.high p.1.high

pub returns : goal.returns
unfolding add_bounds
returns c =
    let p = c.requires in
    rw (read_sum p.0.low p.1.low, read_sum p.0.high p.1.high)
