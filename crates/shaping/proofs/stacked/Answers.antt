use borrow.Author.Rules.{rules}
use mir.Syntax.{w64}
use mir.Val.{SFits}
use native.Mathlib.Omega.{arith}
use Rattle.laws.proofs.Machine.{read_back_is}
use Rattle.shaping.proofs.Rule8.{stack_words}
use Rattle.shaping.proofs.stacked.Goals as goal

pub overflow_cast-result : goal.overflow_cast-result
overflow_cast-result c =
    let x = c.args.x in
    let f : SFits w64 x.number = search rules in
    let e = rw (read_back_is f) at c.size_of_word-m.ensures in
    omega (arith, e, (c.requires.tested.stacked c.requires.op_value).1)

pub returns : goal.returns
returns c t u =
    let x = c.args.x in
    let f : SFits w64 x.number = search rules in
    let e = rw (read_back_is f) at c.size_of_word-m.ensures in
    stack_words x _ t u c.requires.op_value c.requires.tested c.requires.s_len_bound e
