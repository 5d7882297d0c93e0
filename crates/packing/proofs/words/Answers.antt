use Prim.Native.Nat.{◌+◌}
use mathlib.Core.Path.{◌≡◌, refl, ◌∙◌}
use native.Mathlib.Omega.{arith}
use borrow.Author.Rules.{rules}
use Rattle.plan.specs.Coded.{number_of}
use Rattle.plan.proofs.Coded.{number_small}
use Rattle.plan.proofs.Masks.{mask_uses}
use Rattle.packing.proofs.Putting.{mask_positive, last_few, last_bit, words_none, words_room, words_more, words_done}
use Rattle.packing.proofs.words.Goals as goal

pub ilog2-last-requires : goal.ilog2-last-requires
ilog2-last-requires c = rw (c.used_mask-mask.ensures, c.number.ensures) (mask_positive _ (number_small c.args.op))

pub loop-k-init : goal.loop-k-init
loop-k-init c =
    let small = number_small c.args.op in
    (last_few _ small _ (rw (c.used_mask-mask.ensures, c.number.ensures) at c.ilog2-last.ensures.power_le), words_none c.args.w.now _ small)

pub word-to-requires : goal.word-to-requires
word-to-requires c =
    let op = c.args.op in
    let used = c.uses_word-used.ensures ∙ rw (c.used_mask-mask.ensures, c.number.ensures, mask_uses (number_of op) (c.loop-k.k + 1) (omega arith)) refl in
    words_room c.args.w.now _ (number_small op) _ (omega arith) used c.loop-k.invariant.1 c.requires.1

pub loop-k-preserved : goal.loop-k-preserved
loop-k-preserved c =
    let op = c.args.op in
    let used = c.uses_word-used.ensures ∙ rw (c.used_mask-mask.ensures, c.number.ensures, mask_uses (number_of op) (c.loop-k.k + 1) (omega arith)) refl in
    (c.loop-k.invariant.0, words_more c.args.w.now _ (number_small op) _ (omega arith) used c.loop-k.invariant.1 (search rules) c.word-to.ensures)

pub returns : goal.returns
returns c =
    let small = number_small c.args.op in
    let all : c.loop-k.k ≡ c.ilog2-last.result = omega arith in
    let no_more = last_bit _ small _ (rw (c.used_mask-mask.ensures, c.number.ensures) at c.ilog2-last.ensures.next_power_gt) in
    words_done c.args.w.now _ small c.loop-k.invariant.0 no_more (rw all at c.loop-k.invariant.1)
