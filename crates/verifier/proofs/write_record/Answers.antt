use mathlib.Core.Path.{refl, ap, ◌∙◌}
use borrow.Author.Rules.{rules}
use lib.Seq.{sets}
use Rattle.verifier.proofs.Writing.{word_is, low_is, high_is, eight_words, part_written}
use Rattle.verifier.proofs.write_record.Goals as goal

pub returns : goal.returns
returns c =
    part_written c.args.at c.args.derived.now c.copy_from_slice.ensures.after refl (search rules)
    ∙ ap (sets c.args.derived.now c.args.at)
    (eight_words c.args.r c.after-n1.ensures c.after-n2.ensures c.after-n3.ensures (word_is (search rules)) (word_is (search rules)) (low_is c.from-ends.ensures.0 c.from-ends.ensures.1) (high_is c.from-ends.ensures.0 c.from-ends.ensures.1) (word_is (search rules)) (word_is (search rules)) (word_is (search rules)) (word_is (search rules)))
