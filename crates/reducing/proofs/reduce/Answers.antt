use Rattle.validity.proofs.Clearing.{both_cleared}
use Rattle.reducing.specs.Folding.{reduced_flag}
use Rattle.reducing.proofs.Rows.{whole}
use Rattle.reducing.proofs.reduce.Goals as goal

pub returns : goal.returns
returns c =
    let a = c.args in
    let k = a.kept in
    let g = a.gathered in
    let flags = whole _ _ _ _ _ k.grid.extents k.view a.start g.grid.extents g.view _ c.requires.3 c.requires.5 (c.move_cells.ensures 0) c.fold_blocks.ensures in record {
      values_after = both_cleared _ _ _ _ _ a.start _ _ (reduced_flag a.flags.now k.grid.extents k.view g.grid.extents g.view) c.requires.4 c.requires.5 c.fold_values.ensures flags (rw k.grid.all_rows at c.clear_own.ensures);
      flags_after = flags;
    }
