use mathlib.Core.Path.{refl, ap, ◌∙◌}
use native.Mathlib.Omega.{arith}
use lib.ListN.{get_or}
use mir.Syntax.{w64}
use mir.Val.{to_z}
use mir.ValLaws.{to_z_pos}
use Rattle.plan.specs.Operations.{masks}
use Rattle.plan.specs.Coded.{number_of}
use Rattle.plan.proofs.Coded.{number_small}
use Rattle.codec.specs.Plans.{read_word}
use Rattle.codec.specs.Steps.{one_word, node_words}
use Rattle.codec.proofs.Bounds.{words_long}
use Rattle.codec.proofs.Storing.{handed_on, turn_reads, turn_stops}
use Rattle.codec.proofs.Unpacking.{word_adds, used_is, words_begin, words_end}
use Rattle.codec.proofs.words.Goals as goal

pub loop-k-init : goal.loop-k-init
loop-k-init c =
    let op = c.args.op in
    let is = c.number-number.ensures in
    let word = ap (to_z w64) is ∙ to_z_pos w64 (number_of op) (omega (arith, number_small op)) in
    (refl, c.used_mask-mask.ensures ∙ ap (λ n. get_or masks n 0) is, words_begin _ _ _ c.args.table.now _ word)

pub returns-in_err-at : goal.returns-in_err-at
unfolding node_words
returns-in_err-at c =
    let l = c.loop-k in
    let used = used_is l.invariant.1 (number_small c.args.op) c.loop-k-test.true c.uses_word-used.ensures in
    handed_on _ c.from_residual.result c.from_residual.ensures.1 (turn_stops (read_word _ _) _ l.k l.invariant.2 (one_word _ _) (word_adds _ _ _ used) c.in_err-at.ensures c.loop-k-test.true)

pub loop-k-preserved : goal.loop-k-preserved
loop-k-preserved c =
    let l = c.loop-k in
    let used = used_is l.invariant.1 (number_small c.args.op) c.loop-k-test.true c.uses_word-used.ensures in (
      c.word.auto.table ∙ l.invariant.0,
      l.invariant.1,
      turn_reads (read_word _ _) _ l.k l.invariant.2 (one_word _ _) (word_adds _ _ _ used) c.in_ok-at.ensures (omega (arith, words_long _ _ _ _ l.invariant.2.read)),
    )

pub returns : goal.returns
returns c =
    let op = c.args.op in
    let word = ap (to_z w64) c.number-number.ensures ∙ to_z_pos w64 (number_of op) (omega (arith, number_small op)) in
    words_end _ _ _ _ _ word (omega arith) (omega arith) c.loop-k.invariant.2
