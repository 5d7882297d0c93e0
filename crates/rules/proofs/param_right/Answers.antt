use mir.Syntax.{w64}
use mir.Val.{SFits}
use borrow.Author.Rules.{rules}
use Rattle.laws.proofs.Machine.{read_back_is}
use Rattle.rules.specs.Rules.{param_right}
use Rattle.rules.proofs.param_right.Goals as goal

pub returns : goal.returns
unfolding param_right
returns c =
    let x = c.args.x in
    let n : SFits w64 x.number = search rules in
    let f : SFits w64 x.low = search rules in
    let g : SFits w64 x.high = search rules in
    simp (c.size_of_word.ensures, read_back_is n, read_back_is f, read_back_is g)
