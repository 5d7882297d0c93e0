use mathlib.Core.Path.{◌≡◌}
use native.Mathlib.Omega.{arith}
use borrow.Author.Rules.{rules}
use Rattle.plan.proofs.Decoding.{words_part}
use Rattle.packing.proofs.Turning.{sofar_first, sofar_next, sofar_stop, sofar_done}
use Rattle.packing.proofs.nodes.Goals as goal

pub loop-n-init : goal.loop-n-init
loop-n-init c = sofar_first _ _ _

pub returns-in_err-op : goal.returns-in_err-op
returns-in_err-op c = sofar_stop _ _ _ c.loop-n.invariant (words_part _ _) _ _ c.from_residual.result _ c.loop-n-test.true c.in_err-op.ensures c.from_residual.ensures.1

pub node-at-requires : goal.node-at-requires
node-at-requires c =
    let so = c.loop-n.invariant in
    (search rules, c.in_ok-op.ensures.0, omega (arith, so.inside, so.long, c.loop-n-test.true, c.requires.1))

pub loop-n-preserved : goal.loop-n-preserved
loop-n-preserved c =
    let so = c.loop-n.invariant in
    sofar_next _ _ _ so (words_part _ _) c.in_ok-op.ensures.1 (omega (arith, so.inside, so.long, c.loop-n-test.true, c.requires.1)) c.node-at.ensures

pub returns : goal.returns
returns c =
    let so = c.loop-n.invariant in
    let all : c.loop-n.n ≡ c.args.count = omega arith in
    sofar_done _ _ _ (rw all at so) (omega (arith, so.inside, so.long, c.requires.1))
