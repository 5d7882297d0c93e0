use Rattle.std.proofs.lemmas.Result.{err_from_is_err_and}
use Rattle.following.proofs.Tracing.{not_accepted, is_of, no_node, no_element, all_there, finds}
use Rattle.following.proofs.lookup.Goals as goal

pub returns-in_err-derivation : goal.returns-in_err-derivation
returns-in_err-derivation c =
    let p = err_from_is_err_and c.from_residual.result c.from_residual.ensures.1 in
    rw (p.1, p.2) (not_accepted c.args.table.now c.args.node c.args.element c.in_err-derivation.ensures.is_check)

pub returns-then-records-n : goal.returns-then-records-n
returns-then-records-n c =
    rw (c.at.ensures) (no_node c.args.table.now c.nodes-records.result.now (is_of c.in_ok-derivation.ensures.is_check c.nodes-records.ensures) c.args.node c.args.element c.if-records-n.true)

pub returns-then-count-element : goal.returns-then-count-element
returns-then-count-element c =
    rw c.at-then-count-element.ensures (no_element c.args.table.now c.nodes-records.result.now (is_of c.in_ok-derivation.ensures.is_check c.nodes-records.ensures) c.args.node c.args.element c.if-records-n.false _ c.count.ensures c.if-count-element.true)

pub follow-requires : goal.follow-requires
follow-requires c =
    all_there c.args.table.now c.nodes-records.result.now (is_of c.in_ok-derivation.ensures.is_check c.nodes-records.ensures) c.args.node c.args.element c.if-records-n.false _ c.count.ensures c.if-count-element.false

pub returns : goal.returns
returns c =
    finds c.args.table.now c.nodes-records.result.now (is_of c.in_ok-derivation.ensures.is_check c.nodes-records.ensures) c.args.node c.args.element c.if-records-n.false _ c.count.ensures c.if-count-element.false c.follow.ensures
