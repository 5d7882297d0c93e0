use Rattle.std.proofs.Common.{[], ◌∙◌, ◌<◌, map, take, length, arith, pos, sym, refl}
use Rattle.std.proofs.Math.ListN.{length-map}
use Rattle.std.proofs.lemmas.List.{ext_get_or, length-take-le, get_or-take}
use Rattle.laws.proofs.Lists.{get_or_map}
use Rattle.framing.specs.Words.{word_of}
use Rattle.framing.proofs.read_words.Goals as goal

pub returns : goal.returns
returns c =
    let turn = c.loop-k in
    let words = c.args.words.now in
    let n = length c.args.table.now in
    let many = length-take-le n words c.requires in
    ext_get_or (pos 0) turn.table (map word_of (take n words)) (turn.invariant.0 ∙ sym (length-map (take n words) word_of ∙ many))
    (λ i h.
    let w : i < n = omega (arith, turn.invariant.0) in
    turn.invariant.1 i (omega (arith, turn.invariant.0)) ∙ sym (get_or_map word_of (take n words) i (pos 0) [] (omega (arith, many)) ∙ rw (get_or-take n words i [] w) refl))
