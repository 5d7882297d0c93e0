use borrow.Author.Rules.{rules}
use mir.Syntax.{w64}
use mir.Val.{SFits}
use Rattle.bounds.proofs.Readback.{narrowed_fits, narrowed}
use Rattle.rules.proofs.narrow.Goals as goal

pub overflow_cast-result : goal.overflow_cast-result
overflow_cast-result c =
    let f : SFits w64 c.args.x.low = search rules in
    narrowed_fits f c.requires.low

pub overflow_cast-result-2 : goal.overflow_cast-result-2
overflow_cast-result-2 c =
    let g : SFits w64 c.args.x.high = search rules in
    narrowed_fits g c.requires.high

pub returns : goal.returns
returns c =
    let f : SFits w64 c.args.x.low = search rules in
    let g : SFits w64 c.args.x.high = search rules in
    rw (narrowed f c.requires.low, narrowed g c.requires.high)
