use native.Mathlib.Omega.{arith}
use Rattle.shaping.proofs.Axes.{ranks_same, ranks_differ}
use Rattle.shaping.proofs.same_rank.Goals as goal

pub returns-then-n-m : goal.returns-then-n-m
returns-then-n-m g c p e = ranks_differ c.args.s c.args.r p c.rank-n.ensures c.rank-m.ensures c.if-n-m.true

pub returns : goal.returns
returns g c p e =
    ranks_same c.args.s c.args.r p c.rank-n.ensures c.rank-m.ensures c.if-n-m.false
    (c.all_below.ensures p (λ k b h met. e k b (omega arith) (omega arith) met))
