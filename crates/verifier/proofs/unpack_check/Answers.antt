use mathlib.Core.Path.{◌∙◌}
use lib.IntN.{pos}
use lib.ListN.{length-replicate}
use native.Mathlib.Omega.{arith}
use Rattle.verifier.proofs.Packed.{stop_place, stop_code, few_nodes, room, nodes_code}
use Rattle.verifier.proofs.unpack_check.Goals as goal

pub code-requires : goal.code-requires
code-requires c = omega (arith, stop_place _ c.in-Err.ensures.0, c.well_formed.0)

pub overflow_mul-count : goal.overflow_mul-count
overflow_mul-count c = omega (arith, few_nodes _ c.in-Ok.ensures.0)

pub slice_bounds-verdict-end : goal.slice_bounds-verdict-end
slice_bounds-verdict-end c = room c.args.bytes.now c.in-Ok.ensures.0 _ _ (length-replicate 4352 (pos 0)) c.in-Ok.ensures.1

pub returns-in-Err : goal.returns-in-Err
returns-in-Err c = c.code.ensures ∙ stop_code c.args.bytes.now c.in-Err.ensures.0

pub returns-in-Ok : goal.returns-in-Ok
returns-in-Ok c =
    let read = c.in-Ok.ensures in
    nodes_code c.args.bytes.now read.0 _ _ (length-replicate 4352 (pos 0)) read.1 c.verdict.result c.verdict.ensures c.code-in-Ok.ensures
