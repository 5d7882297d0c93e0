use mathlib.Core.Path.{◌∙◌, ap}
use mathlib.Core.Bool.{cond}
use borrow.Author.Rules.{sfits_of}
use lib.IntN.{pos}
use lib.ListN.{get_or}
use Rattle.laws.proofs.Machine.{read_back_is, fit_at}
use Rattle.plan.proofs.UnusedWords.{zero_more, zero_none, zero_done}
use mir.Syntax.{w64}
use mir.ValLaws.{of_z-to_z, of_z_fits}
use mir.Facts.{Fits-or}
use mir.Val.{of_z}
use lib.Bits.{bit_or}
use native.Mathlib.Omega.{arith}
use Rattle.plan.specs.Coded.{number_of}
use Rattle.plan.proofs.Coded.{number_small}
use Rattle.plan.proofs.unused_zero.Goals as goal

pub loop-k-init : goal.loop-k-init
loop-k-init c = zero_none (number_of c.args.op) c.args.words.now

pub loop-k-preserved : goal.loop-k-preserved
loop-k-preserved c =
    let turn = c.loop-k in
    let fit = fit_at (get_or c.args.words.now turn.k (pos 0)) c.if_unused-arg-1.given in
    rw (of_z-to_z w64 (bit_or turn.bits-bits (of_z w64 c.if_unused-bits.result)) (Fits-or turn.auto.bits-fits (of_z_fits w64 c.if_unused-bits.result (sfits_of c.if_unused-bits.type_inv)))) (zero_more c.args.words.now turn.k turn.bits-bits c.uses_word-used.result c.if_unused-bits.result (number_small c.args.op) (rw c.number.ensures at c.used_mask-mask.ensures) turn.auto.k c.loop-k-test.true (rw (of_z-to_z w64 turn.bits-bits turn.auto.bits-fits) at turn.invariant) c.uses_word-used.ensures fit (c.if_unused-bits.ensures ∙ ap (cond c.uses_word-used.result (pos 0)) (read_back_is fit)))

pub returns : goal.returns
returns c =
    zero_done _ _ c.loop-k.k _ (c.loop-k.auto.k-end (omega arith)) c.loop-k-test.false
    (rw (of_z-to_z w64 c.loop-k.bits-bits c.loop-k.auto.bits-fits) at c.loop-k.invariant)
