use Prim.Native.Nat.{◌+◌, ◌*◌}
use mathlib.Core.Path.{refl}
use native.Mathlib.Omega.{arith}
use lib.ListN.{get_or-eq_default}
use Rattle.verifier.specs.Listing.{decimal}
use Rattle.listing.proofs.Shapes.{after_first, no_extent, none_joined, one_more, longer, all_joined}
use Rattle.listing.proofs.Writing.{then, within, said}
use Rattle.listing.proofs.Writer.shape.Goals as goal

pub returns-then-s-eq0 : goal.returns-then-s-eq0
returns-then-s-eq0 c = within 83 (said (no_extent c.args.s c.if-s-eq0.true) c.put.ensures) (omega arith)

pub loop-n-init : goal.loop-n-init
loop-n-init c = (said (none_joined (decimal c.args.s.n0)) c.decimal.ensures, refl)

pub returns-then-n-eq0 : goal.returns-then-n-eq0
returns-then-n-eq0 c =
    let turn = c.loop-n in
    within 83 (said (all_joined c.args.s c.if-s-eq0.false turn.n-index turn.invariant.1 c.if-n-eq0.true) turn.invariant.0) (omega arith)

pub loop-n-preserved : goal.loop-n-preserved
loop-n-preserved c =
    let turn = c.loop-n in
    let ns = after_first c.args.s in
    let here = c.loop-n-test.true in
    (within (20 + 21 * (turn.n-index + 1)) (said (longer ns turn.n-index here (decimal c.args.s.n0)) (then turn.invariant.0 c.marked.ensures)) (omega arith), one_more ns turn.n-index here turn.invariant.1 c.if-n-eq0.false)

pub returns : goal.returns
returns c =
    let turn = c.loop-n in
    within 83 (said (all_joined c.args.s c.if-s-eq0.false turn.n-index turn.invariant.1 (get_or-eq_default (after_first c.args.s) 0 (omega arith))) turn.invariant.0) (omega arith)
