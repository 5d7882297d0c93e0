use mathlib.Core.Path.{refl, ap, ◌∙◌}
use native.Mathlib.Omega.{arith}
use Prim.Native.Nat.{◌^◌, ◌<◌}
use Rattle.laws.proofs.Machine.{read_back_is, fit_at}
use Rattle.plan.specs.Words.{size_of}
use Rattle.shapes.proofs.Extents.{extents_length}
use Rattle.shapes.specs.Shown.{shown, words_in}
use Rattle.views.specs.Views.{reach}
use Rattle.views.proofs.Fronts.{grid_cells, grid_extents}
use Rattle.evaluation.proofs.Gathered.{gathered_fits, reduce_within, reduce_evaluates}
use Rattle.evaluation.proofs.eval_reduced.Goals as goal

pub words-axes-requires : goal.words-axes-requires
words-axes-requires c = omega (arith, c.rank.ensures, extents_length (words_in c.args.s))

pub kept_view-kept-requires : goal.kept_view-kept-requires
kept_view-kept-requires c =
    let p = c.requires.0 in
    let under = c.grid-inner in
    grid_extents _ under.result under.ensures p.positive p.few

pub gathered_view-gathered-requires : goal.gathered_view-gathered-requires
gathered_view-gathered-requires c =
    let p = c.requires.0 in
    let under = c.grid-inner in
    grid_extents _ under.result under.ensures p.positive p.few

pub settle-w-requires : goal.settle-w-requires
settle-w-requires c =
    let axes = rw c.rank.ensures at c.words-axes.ensures in
    let room = c.requires.1 in
    let cells = grid_cells (shown c.args.r) c.grid.result c.grid.ensures in
    let within = reduce_within c.args.x _ _ c.grid-inner.result c.words-axes.result c.gathered_grid-g.result c.requires.0 c.grid-inner.ensures axes c.gathered_grid-g.ensures c.grid.result c.args.base c.grid.ensures in
    let far : reach c.grid.result c.kept_view-kept.result < 2 ^ 63 = rw c.kept_view-kept.ensures (omega (arith, within, c.requires.2, room.values, c.well_formed.1.1.1.1.0)) in
    record { some = rw cells room.some; few = rw cells (omega (arith, room.values, c.well_formed.1.1.1.1.0)); a = far; b = far; d = far }

pub of-requires : goal.of-requires
of-requires c =
    let cells = grid_cells (shown c.args.r) c.grid.result c.grid.ensures in
    let same = c.settle-w.ensures.cells in
    (omega (arith, same, cells, c.requires.1.some), omega (arith, same, cells, c.requires.1.values, c.well_formed.1.1.1.1.0))

pub of-requires-2 : goal.of-requires-2
of-requires-2 c =
    let axes = rw c.rank.ensures at c.words-axes.ensures in
    let fits = gathered_fits c.args.x _ _ c.grid-inner.result c.words-axes.result c.gathered_grid-g.result c.requires.0 c.grid-inner.ensures axes c.gathered_grid-g.ensures in
    (fits.0, omega (arith, fits.1))

pub reduce-requires : goal.reduce-requires
reduce-requires c =
    let axes = rw c.rank.ensures at c.words-axes.ensures in
    let room = c.requires.1 in
    let w = rw c.kept_view-kept.ensures at c.settle-w.ensures in
    let cells = grid_cells (shown c.args.r) c.grid.result c.grid.ensures in
    let k = c.of.ensures in
    let g = c.of-2.ensures in
    let view = c.gathered_view-gathered.ensures in
    let fits = gathered_fits c.args.x _ _ c.grid-inner.result c.words-axes.result c.gathered_grid-g.result c.requires.0 c.grid-inner.ensures axes c.gathered_grid-g.ensures in
    let within = reduce_within c.args.x _ _ c.grid-inner.result c.words-axes.result c.gathered_grid-g.result c.requires.0 c.grid-inner.ensures axes c.gathered_grid-g.ensures c.grid.result c.args.base c.grid.ensures in (
      rw view refl,
      rw g fits.0,
      rw g fits.1,
      rw (k, g, view) (omega (arith, within, w.a.far, c.requires.2)),
      rw k (omega (arith, w.cells, cells, room.values)),
      rw k (omega (arith, w.cells, cells, room.flags)),
      λ q low high. c.requires.3 q (omega (arith, w.a.begins)) (omega (arith, within, w.a.far, rw (k, g, view) at high)),
    )

pub returns : goal.returns
returns c =
    let axes = rw c.rank.ensures at c.words-axes.ensures in
    let w = rw c.kept_view-kept.ensures at c.settle-w.ensures in
    let view = c.gathered_view-gathered.ensures in
    let number = read_back_is (fit_at c.args.x.number c.struct_told-1.given.1.1.1.1.1.0.1) in
    let how = c.size_of_word-how.ensures ∙ ap size_of number in
    let values = rw (view, how, c.of.ensures, c.of-2.ensures) at c.reduce.ensures.values_after in
    let flags = rw (view, c.of.ensures, c.of-2.ensures) at c.reduce.ensures.flags_after in
    λ o from. reduce_evaluates c.args.x _ _ c.grid-inner.result c.words-axes.result c.gathered_grid-g.result c.requires.0 c.grid-inner.ensures axes c.gathered_grid-g.ensures c.grid.result c.args.base c.grid.ensures c.settle-w.result.grid c.settle-w.result.a o _ _ c.args.start w.cells w.a from values flags
