use Prim.Native.Nat.{ℕ, ◌+◌, ◌≤◌}
use mathlib.Core.Path.{◌≡◌}
use mathlib.Core.List.{List}
use native.Mathlib.Omega.{arith}
use borrow.Author.Tests.{ne_eqb}
use lib.IntN.{ℤ, pos}
use lib.ListN.{length}
use Rattle.laws.specs.Store.{store}
use Rattle.laws.proofs.Machine.{Small}
use Rattle.laws.proofs.Store.{store_hit, length_store}
use Rattle.views.specs.Views.{cells_of}
use Rattle.reducing.specs.Gathering.{Room}
use Rattle.reducing.specs.Sums.{SumRoom}
use Rattle.reducing.proofs.Rows.{whole}
use Rattle.reducing.proofs.Rooms.{fit_kept}
use Rattle.reducing.proofs.fold_values.Goals as goal

-- a sum that begins with 0 has room
begin_room : (l m : List ℤ) (start n k : ℕ) → start + n ≤ length l → m ≡ store l start n (λ (e : ℕ). pos 0) → k ≤ 1048576 → Room SumRoom (pos 0) m start n k
begin_room l m start n k fits e few c h = rw (store_hit l m start n _ c (pos 0) e h fits) (omega arith)

pub fold_blocks-requires : goal.fold_blocks-requires
fold_blocks-requires c =
    let a = c.args in
    let n = cells_of a.kept.grid.extents in
    let e = rw a.kept.grid.all_rows at c.fill.ensures in (
      c.requires.1,
      rw (e, length_store) c.requires.2,
      fit_kept (pos 0) a.values.now c.fill.new.cells a.start n _ e Small c.requires.3 (omega (arith, c.requires.1)) (omega arith) (omega arith),
      begin_room _ _ a.start n (cells_of a.gathered.grid.extents) c.requires.2 e c.requires.0,
    )

pub returns-then-how-eq0 : goal.returns-then-how-eq0
returns-then-how-eq0 c =
    let a = c.args in
    rw c.if-how-eq0.true
    (whole _ _ _ _ _ a.kept.grid.extents a.kept.view a.start a.gathered.grid.extents a.gathered.view _ c.requires.1 c.requires.2 (rw a.kept.grid.all_rows at c.fill.ensures) c.fold_blocks.ensures)

pub returns : goal.returns
returns c =
    let a = c.args in
    rw (ne_eqb a.how 0 c.if-how-eq0.false)
    (whole _ _ _ _ _ a.kept.grid.extents a.kept.view a.start a.gathered.grid.extents a.gathered.view _ c.requires.1 c.requires.2 (c.move_cells.ensures (pos 0)) c.fold_blocks-2.ensures)
