use Prim.Native.Nat.{◌+◌}
use mathlib.Core.Path.{refl}
use native.Mathlib.Omega.{arith}
use Rattle.std.proofs.lemmas.List.{get_or_default}
use Rattle.laws.proofs.Store.{store_none, store_step}
use Rattle.reducing.proofs.Folds.{run_turn}
use Rattle.reducing.proofs.Rooms.{fit_kept, room_at}
use borrow.Author.Rules.{rules}
use Rattle.reducing.proofs.fold_runs.Goals as goal

pub loop-c-init : goal.loop-c-init
loop-c-init g c = (refl, store_none _ _ _)

pub fold_run-requires : goal.fold_run-requires
fold_run-requires g c =
    let a = c.args in
    let fold = g.F.Fold in
    let v = c.loop-c.invariant in
    let at = c.at.ensures in
    rw c.shifted-run.ensures (
      omega (arith, at.1, v.0, c.requires.0, c.requires.1),
      fit_kept fold.blank a.cells.now c.loop-c.cells a.to c.loop-c.c _ v.1 fold.Fits c.requires.2 (omega (arith, c.requires.0)) (omega (arith, at.0)) (omega (arith, at.1)),
      rw (get_or_default c.loop-c.cells (c.args.to + c.loop-c.c) _ fold.blank (omega (arith, v.0, c.requires.1, c.loop-c-test.true)))
          (room_at fold.blank a.cells.now c.loop-c.cells a.to c.loop-c.c _ v.1 fold.HasRoom a.n a.m c.requires.3 c.loop-c-test.true),
    )

pub loop-c-preserved : goal.loop-c-preserved
loop-c-preserved g c =
    let a = c.args in
    let fold = g.F.Fold in
    let v = c.loop-c.invariant in (
      search rules,
      store_step _ _ _ _ _ _ v.1
          (run_turn fold.op fold.blank a.cells.now c.loop-c.cells a.to c.loop-c.c a.n a.kept a.m a.gathered _ v.1 c.requires.0 c.loop-c-test.true c.at.ensures.0
          (get_or_default c.loop-c.cells (c.args.to + c.loop-c.c) _ fold.blank (omega (arith, v.0, c.requires.1, c.loop-c-test.true))) (rw c.shifted-run.ensures at c.fold_run.ensures)),
    )
