use Rattle.std.proofs.Common.{ℕ, ◌<◌, length, subst, rules}
use Rattle.following.proofs.Tracing.{own_node, stops, earlier, source_node, asked, nowhere, source_element_there, passes}
use Rattle.following.proofs.+follow.Goals as goal

pub node_at-x-requires : goal.node_at-x-requires
node_at-x-requires t c = own_node _ _ c.args.n c.args.e c.requires

pub returns-then-not-is_followed : goal.returns-then-not-is_followed
returns-then-not-is_followed t c =
    stops _ _ c.args.n c.args.e c.requires c.node_at-x.ensures (rw c.is_followed.ensures at c.if-not-is_followed.true)

pub bounds-records-source : goal.bounds-records-source
bounds-records-source t c =
    source_node _ _ c.args.n c.args.e c.requires c.node_at-x.ensures (rw c.is_followed.ensures at c.if-not-is_followed.false)

pub offset_bounds-records-source : goal.offset_bounds-records-source
offset_bounds-records-source t c =
    let l : c.node_at-x.result.source1.0 < length c.args.records.now = source_node _ _ c.args.n c.args.e c.requires c.node_at-x.ensures (rw c.is_followed.ensures at c.if-not-is_followed.false) in
    search rules

pub bounds-records-at : goal.bounds-records-at
bounds-records-at t c = c.requires.node_there

pub source_element-origin-requires : goal.source_element-origin-requires
source_element-origin-requires t c =
    asked _ _ c.args.n c.args.e c.requires c.node_at-x.ensures (rw c.is_followed.ensures at c.if-not-is_followed.false) _ _

pub follow-requires : goal.follow-requires
follow-requires t c =
    let f = rw c.is_followed.ensures at c.if-not-is_followed.false in (
      subst (λ (m : ℕ). c.node_at-x.result.source1.0 < m) c.decreases (earlier _ _ c.args.n c.args.e c.requires c.node_at-x.ensures f),
      source_element_there _ _ c.args.n c.args.e c.requires c.node_at-x.ensures f _ _ c.source_element-origin.result c.source_element-origin.ensures c.in-Some.o c.in-Some.is,
    )

pub returns-in-None : goal.returns-in-None
returns-in-None t c =
    nowhere _ _ c.args.n c.args.e c.requires c.node_at-x.ensures (rw c.is_followed.ensures at c.if-not-is_followed.false) _ _ c.source_element-origin.result c.source_element-origin.ensures c.in-None.is

pub returns-in-Some : goal.returns-in-Some
returns-in-Some t c =
    passes _ _ c.args.n c.args.e c.requires c.node_at-x.ensures (rw c.is_followed.ensures at c.if-not-is_followed.false) _ _ c.source_element-origin.result c.source_element-origin.ensures c.in-Some.o c.in-Some.is c.follow.ensures
