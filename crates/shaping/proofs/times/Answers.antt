use native.Mathlib.Nat.{mul-le-mul, le_of_lt}
use native.Mathlib.Omega.{arith}
use Rattle.shaping.proofs.Counts.{count_none, count_within, count_over}
use Rattle.shaping.proofs.times.Goals as goal

pub returns-then-n-eq0 : goal.returns-then-n-eq0
returns-then-n-eq0 c = record { by_index = λ ns e. count_none c.args.n c.args.rest ns c.if-n-eq0.true; small = omega arith }

pub overflow_mul-product : goal.overflow_mul-product
overflow_mul-product c = omega (arith, mul-le-mul (le_of_lt c.ranges.n.fits) c.requires)

pub returns-then-product-le1048576 : goal.returns-then-product-le1048576
returns-then-product-le1048576 c = record { by_index = λ ns e. count_within c.args.n c.args.rest ns c.if-n-eq0.false e c.if-product-le1048576.true; small = omega arith }

pub returns : goal.returns
returns c = record { by_index = λ ns e. count_over c.args.n c.args.rest ns c.if-n-eq0.false e c.if-product-le1048576.false; small = omega arith }
