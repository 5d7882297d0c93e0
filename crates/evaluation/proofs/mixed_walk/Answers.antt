use mathlib.Core.Path.{refl}
use Rattle.evaluation.proofs.Groups.{mixed_spreads}
use Rattle.evaluation.proofs.mixed_walk.Goals as goal

pub returns-then-x : goal.returns-then-x
returns-then-x c =
    let g = c.grid-grid in
    let right = c.requires.2 in
    let all = mixed_spreads c.args.x _ _ _ _ right c.requires.0 c.requires.1 in
    let q = c.if-x.true in
    record {
      first = c.operand_view-va.ensures _ g.result g.ensures right.whole.positive all.0;
      second = c.operand_view-vb.ensures _ g.result g.ensures right.whole.positive all.1;
      third = λ _. c.operand_view-vd.ensures _ g.result g.ensures right.whole.positive (all.2 q);
      twice = λ n. absurd (n q);
    }

pub returns : goal.returns
returns c =
    let g = c.grid-grid in
    let right = c.requires.2 in
    let all = mixed_spreads c.args.x _ _ _ _ right c.requires.0 c.requires.1 in
    record {
      first = c.operand_view-va.ensures _ g.result g.ensures right.whole.positive all.0;
      second = c.operand_view-vb.ensures _ g.result g.ensures right.whole.positive all.1;
      third = λ q. absurd (c.if-x.false q);
      twice = λ _. refl;
    }
