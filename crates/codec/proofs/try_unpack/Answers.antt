use mathlib.Core.Path.{sym, ◌∙◌}
use native.Mathlib.Omega.{arith}
use lib.Seq.{length-take-le}
use Rattle.codec.proofs.Bounds.{opening_in, all_long}
use Rattle.codec.proofs.Storing.{refusal_is, stop_is, next_is}
use Rattle.codec.proofs.Unpacking.{no_count, no_room, after_count, none_counted, table_kept, counted, table_copied}
use Rattle.codec.proofs.try_unpack.Goals as goal

pub returns-in_err-opening : goal.returns-in_err-opening
returns-in_err-opening c =
    let e = no_count _ _ c.in_err-opening.ensures in
    (refusal_is _ _ c.from_residual.result c.from_residual.ensures.1 ∙ none_counted e, table_kept e _)

pub overflow_mul-words : goal.overflow_mul-words
overflow_mul-words c = omega (arith, (opening_in _ c.in_ok-opening.ensures).1)

pub returns-then-table-words : goal.returns-then-table-words
returns-then-table-words c =
    let e = no_room _ _ c.in_ok-opening.ensures c.if-table-words.true in
    (rw c.at.ensures (none_counted e), table_kept e _)

pub all_nodes-requires : goal.all_nodes-requires
all_nodes-requires c = omega (arith, (opening_in _ c.in_ok-opening.ensures).1)

pub returns-in_err-all_nodes : goal.returns-in_err-all_nodes
returns-in_err-all_nodes c =
    let left = c.from_residual-in_err-all_nodes in
    let e = after_count _ _ c.in_ok-opening.ensures c.if-table-words.false ∙ stop_is _ c.in_err-all_nodes.ensures in
    (refusal_is _ _ left.result left.ensures.1 ∙ none_counted e, table_kept e _)

pub slice_bounds-local-end : goal.slice_bounds-local-end
slice_bounds-local-end c = omega (arith, c.all_nodes.auto.table, (opening_in _ c.in_ok-opening.ensures).1)

pub slice_bounds-copy_from_slice-end-3 : goal.slice_bounds-copy_from_slice-end-3
slice_bounds-copy_from_slice-end-3 c = sym (length-take-le _ _ (omega (arith, c.all_nodes.auto.table, (opening_in _ c.in_ok-opening.ensures).1)))

pub copy_from_slice-requires : goal.copy_from_slice-requires
copy_from_slice-requires c = length-take-le _ _ c.if-table-words.false ∙ sym (length-take-le _ _ (omega (arith, c.all_nodes.auto.table, (opening_in _ c.in_ok-opening.ensures).1)))

pub returns : goal.returns
returns c =
    let m = next_is _ c.in_ok-all_nodes.ensures in
    let e = after_count _ _ c.in_ok-opening.ensures c.if-table-words.false ∙ m.read in
    let long = all_long _ _ _ _ m.read in
    (counted _ e long, table_copied _ e long _ _ m.stands (omega (arith, (opening_in _ c.in_ok-opening.ensures).1)) c.copy_from_slice.ensures.after)
