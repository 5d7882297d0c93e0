use borrow.Author.Rules.{rules}
use Rattle.std.proofs.lemmas.List.{take_min}
use Rattle.listing.proofs.Plans.{no_room, with_room}
use Rattle.listing.proofs.list.Goals as goal

pub returns-then-text-lt65536 : goal.returns-then-text-lt65536
returns-then-text-lt65536 c = no_room c.args.bytes.now c.args.text.now c.if-text-lt65536.true

pub returns : goal.returns
returns c =
    let s = c.args.bytes.now in
    let listed = with_room s c.args.text.now _ c.if-text-lt65536.false (rw c.min.ensures (take_min 12288 s)) c.unpacked.ensures.writes in
    (listed.0, search rules, listed.2)
