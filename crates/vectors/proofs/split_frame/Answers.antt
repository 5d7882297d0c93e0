use Rattle.std.proofs.Common.{arith, length-drop, ap, length}
use Rattle.vectors.proofs.split_frame.Goals as goal

pub returns : goal.returns
returns c =
    let first = rw c.in_ok-kind.ensures.ok_part at c.split_first.ensures.cases in
    let input = rw c.in_ok-input.ensures.ok_part at c.split_at_checked.ensures.cases in
    let answer = rw c.in_ok-answer.ensures.ok_part at c.split_at_checked-2.ensures.cases in
    omega (arith, first, input, answer, ap length c.in_ok-input_length.ensures.1, ap length c.in_ok-answer_length.ensures.1, length-drop 2 c.in_ok-kind.rest.now, length-drop 2 c.in_ok-input_length.rest.now)
