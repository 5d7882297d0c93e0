use Rattle.bounds.proofs.Readback.{read_times_fits, read_times}
use Rattle.bounds.proofs.sum_bounds.Goals as goal

pub overflow_mul-result : goal.overflow_mul-result
overflow_mul-result c = let p = c.requires in read_times_fits p.0 p.1.low

pub overflow_mul-result-2 : goal.overflow_mul-result-2
overflow_mul-result-2 c = let p = c.requires in read_times_fits p.0 p.1.high

pub returns : goal.returns
returns c = let p = c.requires in rw (read_times p.0 p.1.low, read_times p.0 p.1.high)
