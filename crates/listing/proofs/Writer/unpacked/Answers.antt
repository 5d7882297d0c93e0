use lib.IntN.{pos}
use lib.ListN.{length-replicate}
use native.Mathlib.Omega.{arith}
use Rattle.verifier.proofs.Packed.{few_nodes, room}
use Rattle.listing.proofs.Plans.{stop_text, nodes_text}
use Rattle.listing.proofs.Writing.{said}
use Rattle.listing.proofs.Writer.unpacked.Goals as goal

pub overflow_mul-count : goal.overflow_mul-count
overflow_mul-count c = omega (arith, few_nodes _ c.in-Ok.ensures.0)

pub slice_bounds-checked-end : goal.slice_bounds-checked-end
slice_bounds-checked-end c = room c.args.bytes.now c.in-Ok.ensures.0 _ _ (length-replicate 4352 (pos 0)) c.in-Ok.ensures.1

pub returns-in-Err : goal.returns-in-Err
returns-in-Err c = said (stop_text c.args.bytes.now c.in-Err.ensures.0) (rw c.from-answer.ensures at c.refusal.ensures)

pub returns-in-Ok : goal.returns-in-Ok
returns-in-Ok c = said (nodes_text c.args.bytes.now c.in-Ok.ensures.0 _ _ (length-replicate 4352 (pos 0)) c.in-Ok.ensures.1) c.checked.ensures
