use mathlib.Core.Path.{◌∙◌}
use native.Mathlib.Omega.{arith}
use Rattle.codec.proofs.Bounds.{opening_in, all_long}
use Rattle.codec.proofs.Storing.{refusal_is, stop_is, next_is}
use Rattle.codec.proofs.Unpacking.{no_count, after_count, none_counted, none_stand, counted, words_stand}
use Rattle.codec.proofs.read_plan.Goals as goal

pub returns-in_err-opening : goal.returns-in_err-opening
returns-in_err-opening c =
    let e = no_count _ 4352 c.in_err-opening.ensures in
    (refusal_is _ _ c.from_residual.result c.from_residual.ensures.1 ∙ none_counted e, none_stand e _ _ _)

pub all_nodes-requires : goal.all_nodes-requires
all_nodes-requires c = omega (arith, (opening_in _ c.in_ok-opening.ensures).1)

pub returns-in_err-all_nodes : goal.returns-in_err-all_nodes
returns-in_err-all_nodes c =
    let opened = c.in_ok-opening.ensures in
    let left = c.from_residual-in_err-all_nodes in
    let e = after_count _ 4352 opened (omega (arith, (opening_in _ opened).1)) ∙ stop_is _ c.in_err-all_nodes.ensures in
    (refusal_is _ _ left.result left.ensures.1 ∙ none_counted e, none_stand e _ _ _)

pub returns : goal.returns
returns c =
    let opened = c.in_ok-opening.ensures in
    let m = next_is _ c.in_ok-all_nodes.ensures in
    let e = after_count _ 4352 opened (omega (arith, (opening_in _ opened).1)) ∙ m.read in
    let long = all_long _ _ _ _ m.read in
    (counted _ e long, words_stand _ e long _ _ m.stands)
