use Rattle.std.proofs.Common.{rules, tests, map, ◌∙◌, sym}
use Rattle.std.proofs.Math.ListN.{length-map}
use Rattle.std.proofs.lemmas.Iterator.{YieldsList-from_slice, YieldsList-from_map, YieldsList-from_zip, same_from_all}
use Rattle.framing.specs.Words.{word_of}
use Rattle.framing.proofs.same_words.Goals as goal

pub returns-then-cells-words : goal.returns-then-cells-words
returns-then-cells-words g c =
    let cells = c.args.cells.now in
    let words = c.args.words.now in
    same_from_all c.all.new.self _ _ (map g.C.Cell.word cells) (map word_of words) c.all.ensures.ran
    (YieldsList-from_zip (YieldsList-from_map _ g.C.Cell.word (YieldsList-from_slice cells cc) (cc) (λ x r q k. search (rules, tests)))
    (YieldsList-from_map _ word_of (YieldsList-from_slice words cc) (cc) (λ x r q k. search (rules, tests))))
    (length-map cells g.C.Cell.word ∙ c.if-cells-words.true ∙ sym (length-map words word_of)) (λ x q k. search (rules, tests)) (λ x q k. search (rules, tests))
