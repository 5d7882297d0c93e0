use mir.Syntax.{w64}
use mir.Val.{SFits}
use mathlib.Core.Path.{refl}
use borrow.Author.Rules.{rules}
use Rattle.laws.proofs.Machine.{read_back_is}
use Rattle.rules.specs.Rules.{stack_number}
use Rattle.rules.proofs.stack_number.Goals as goal

pub returns : goal.returns
unfolding stack_number
returns c =
    let number : SFits w64 c.args.x.number = search rules in
    rw (c.size_of_word-sources.ensures, read_back_is number) refl
