use native.Mathlib.Omega.{arith}
use Rattle.evaluation.proofs.Leaves.{capped_is, copied_evaluates}
use Rattle.evaluation.proofs.eval_copied.Goals as goal

pub copy_cells-requires : goal.copy_cells-requires
copy_cells-requires c =
    let n = capped_is c.count.ensures c.requires.2 in
    let room = c.requires.3 in
    (omega (arith, n, room.some), omega (arith, n, c.requires.1, c.requires.4), omega (arith, n, room.values), omega (arith, n, room.flags))

pub returns : goal.returns
returns c =
    let n = capped_is c.count.ensures c.requires.2 in
    λ o from. copied_evaluates c.args.x _ _ o c.args.base _ _ c.args.start c.requires.0 n c.requires.1 from c.copy_cells.ensures
