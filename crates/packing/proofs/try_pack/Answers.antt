use Prim.Native.Nat.{ℕ}
use mathlib.Core.Path.{sym, ◌∙◌}
use native.Mathlib.Omega.{arith}
use lib.ListN.{length, length-replicate}
use lib.Seq.{length-take-le}
use Rattle.codec.proofs.Storing.{refusal_is}
use Rattle.packing.proofs.Turning.{first_is, wrong_length, stop_is, next_is, nodes_refused, no_room, packed, none_written, bytes_kept, bytes_written, bytes_packed, counted, nodes_room}
use Rattle.packing.proofs.try_pack.Goals as goal

pub returns-then-not-length_right : goal.returns-then-not-length_right
returns-then-not-length_right c =
    let e = wrong_length c.args.table.now c.args.bytes.now (sym c.if-not-length_right.ensures) in
    (rw c.at.ensures (none_written e), bytes_kept e _)

pub opening-start-requires : goal.opening-start-requires
opening-start-requires c =
    let count = counted c.args.table.now (sym c.if-not-length_right.ensures) in
    (count.is, count.fits, count.few, omega (arith, length-replicate {A = ℕ} 11780 0))

pub nodes-requires : goal.nodes-requires
nodes-requires c =
    let count = counted c.args.table.now (sym c.if-not-length_right.ensures) in
    (count.fits, nodes_room _ c.opening-start.ensures (length-replicate {A = ℕ} 11780 0) count.few)

pub returns-in_err-end : goal.returns-in_err-end
returns-in_err-end c =
    let t = c.args.table.now in
    let right = sym c.if-not-length_right.ensures in
    let first = first_is c.opening-start.ensures (omega (arith, length-replicate {A = ℕ} 11780 0)) in
    let e = nodes_refused t (length c.args.bytes.now) right (counted t right) first (stop_is _ _ _ c.in_err-end.ensures) in
    (refusal_is _ _ c.from_residual.result c.from_residual.ensures.1 ∙ none_written e, bytes_kept e _)

pub returns-then-bytes-end : goal.returns-then-bytes-end
returns-then-bytes-end c =
    let t = c.args.table.now in
    let right = sym c.if-not-length_right.ensures in
    let first = first_is c.opening-start.ensures (omega (arith, length-replicate {A = ℕ} 11780 0)) in
    let e = no_room t (length c.args.bytes.now) right (counted t right) first (next_is _ _ c.in_ok-end.ensures) c.if-bytes-end.true in
    (rw c.at-then-bytes-end.ensures (none_written e), bytes_kept e _)

pub slice_bounds-local-end : goal.slice_bounds-local-end
slice_bounds-local-end c = (next_is _ _ c.in_ok-end.ensures).inside

pub slice_bounds-copy_from_slice-end-3 : goal.slice_bounds-copy_from_slice-end-3
slice_bounds-copy_from_slice-end-3 c = sym (length-take-le _ _ (next_is _ _ c.in_ok-end.ensures).inside)

pub copy_from_slice-requires : goal.copy_from_slice-requires
copy_from_slice-requires c = length-take-le _ _ c.if-bytes-end.false ∙ sym (length-take-le _ _ (next_is _ _ c.in_ok-end.ensures).inside)

pub returns : goal.returns
returns c =
    let t = c.args.table.now in
    let right = sym c.if-not-length_right.ensures in
    let first = first_is c.opening-start.ensures (omega (arith, length-replicate {A = ℕ} 11780 0)) in
    let m = next_is _ _ c.in_ok-end.ensures in
    let e = packed t (length c.args.bytes.now) right (counted t right) first m c.if-bytes-end.false in
    (bytes_written e m.long, bytes_packed e m.long _ (c.copy_from_slice.ensures.after ∙ m.stand))
