use mathlib.Core.Bool.{not}
use Prim.Native.Nat.{ℕ}
use mathlib.Core.Path.{◌≡◌, ◌∙◌, ap}
use mathlib.Core.Bool.{Bool, true}
use Rattle.plan.specs.declared.instructions.Instruction.{Instruction}
use Rattle.plan.specs.declared.Node.{Node}
use Rattle.plan.specs.Operations.{is_operation}
use Rattle.plan.proofs.Coded.{number_known}
use Rattle.rules.specs.Rules.{rows_right}
use Rattle.rules.specs.Code.{view_of}
use Rattle.shapes.proofs.Stacking.{stack_rank}
use Rattle.laws.proofs.Booleans.{on}
use Rattle.rules.proofs.RowRule.{permute_rule}
use Rattle.rules.proofs.Judging.{rows_tested, rows_held, breaks_5, breaks_6, breaks_7, breaks_8_shapes, breaks_8_count, fits_all, fits_count}
use Rattle.rules.proofs.shape_node.Goals as goal

-- rule 7 at the rank that was computed
ranked : (x : Node) (params : ℕ) {rank length : ℕ} {r : Bool} → r ≡ rows_right x params rank → rank ≡ length → r ≡ rows_right x params length
ranked x params e q = e ∙ ap (λ (n : ℕ). rows_right x params n) q

-- its operation is known
known : (x : Instruction) → is_operation x.node.op ≡ true
known x = rw (← x.named) (number_known x.op)

pub returns-then-not-type_named : goal.returns-then-not-type_named
returns-then-not-type_named c = breaks_5 c.args.x.node c.args.params (view_of c.args.sources.first) (view_of c.args.sources.second) (view_of c.args.sources.third) _ c.type_named.ensures (ap not c.if-not-type_named.true)

pub returns-then-not-types_agree : goal.returns-then-not-types_agree
returns-then-not-types_agree c = breaks_6 c.args.x.node c.args.params (view_of c.args.sources.first) (view_of c.args.sources.second) (view_of c.args.sources.third) _ c.type_named.ensures (ap not c.if-not-type_named.false) _ c.types_agree.ensures (ap not c.if-not-types_agree.true)

pub returns-then-not-rows_right : goal.returns-then-not-rows_right
returns-then-not-rows_right c =
    breaks_7 c.args.x.node c.args.params (view_of c.args.sources.first) (view_of c.args.sources.second) (view_of c.args.sources.third) _ c.type_named.ensures (ap not c.if-not-type_named.false) _ c.types_agree.ensures (ap not c.if-not-types_agree.false)
    _ (ranked c.args.x.node c.args.params c.rows_right.ensures c.rank.ensures) (ap not c.if-not-rows_right.true)

pub shapes_agree-requires : goal.shapes_agree-requires
shapes_agree-requires c =
    rows_tested c.args.x.node _ _ (rows_held c.args.x.node c.args.params (view_of c.args.sources.first) (view_of c.args.sources.second) (view_of c.args.sources.third) _ c.type_named.ensures (ap not c.if-not-type_named.false) _ c.types_agree.ensures (ap not c.if-not-types_agree.false)
    _ (ranked c.args.x.node c.args.params c.rows_right.ensures c.rank.ensures) (ap not c.if-not-rows_right.false)) _ (known c.args.x) c.requires

pub returns-then-not-shapes_agree : goal.returns-then-not-shapes_agree
returns-then-not-shapes_agree c =
    breaks_8_shapes c.args.x.node c.args.params (view_of c.args.sources.first) (view_of c.args.sources.second) (view_of c.args.sources.third) _ c.type_named.ensures (ap not c.if-not-type_named.false) _ c.types_agree.ensures (ap not c.if-not-types_agree.false)
    _ (ranked c.args.x.node c.args.params c.rows_right.ensures c.rank.ensures) (ap not c.if-not-rows_right.false) _ c.shapes_agree.ensures (ap not c.if-not-shapes_agree.true)

pub result_shape-extents-requires-clause-tested : goal.result_shape-extents-requires-clause-tested
result_shape-extents-requires-clause-tested c =
    rows_tested c.args.x.node _ _ (rows_held c.args.x.node c.args.params (view_of c.args.sources.first) (view_of c.args.sources.second) (view_of c.args.sources.third) _ c.type_named.ensures (ap not c.if-not-type_named.false) _ c.types_agree.ensures (ap not c.if-not-types_agree.false)
    _ (ranked c.args.x.node c.args.params c.rows_right.ensures c.rank.ensures) (ap not c.if-not-rows_right.false)) _ (known c.args.x) c.requires

pub result_shape-extents-requires-clause-rowa_value : goal.result_shape-extents-requires-clause-rowa_value
result_shape-extents-requires-clause-rowa_value c =
    permute_rule _ _ _ (rows_held c.args.x.node c.args.params (view_of c.args.sources.first) (view_of c.args.sources.second) (view_of c.args.sources.third) _ c.type_named.ensures (ap not c.if-not-type_named.false) _ c.types_agree.ensures (ap not c.if-not-types_agree.false)
    _ (ranked c.args.x.node c.args.params c.rows_right.ensures c.rank.ensures) (ap not c.if-not-rows_right.false))

pub result_shape-extents-requires-clause-a_len_bound : goal.result_shape-extents-requires-clause-a_len_bound
result_shape-extents-requires-clause-a_len_bound c q = stack_rank c.args.x.node _ _ _ q (on _ c.shapes_agree.ensures (ap not c.if-not-shapes_agree.false))

pub returns-then-count-gt1048576 : goal.returns-then-count-gt1048576
returns-then-count-gt1048576 c =
    breaks_8_count c.args.x.node c.args.params (view_of c.args.sources.first) (view_of c.args.sources.second) (view_of c.args.sources.third) _ c.type_named.ensures (ap not c.if-not-type_named.false) _ c.types_agree.ensures (ap not c.if-not-types_agree.false)
    _ (ranked c.args.x.node c.args.params c.rows_right.ensures c.rank.ensures) (ap not c.if-not-rows_right.false) _ c.shapes_agree.ensures
    (ap not c.if-not-shapes_agree.false) _ _ c.result_shape-extents.ensures c.count-count.ensures c.if-count-gt1048576.true

pub returns : goal.returns
returns c = (
  fits_all c.args.x.node c.args.params (view_of c.args.sources.first) (view_of c.args.sources.second) (view_of c.args.sources.third) _ c.type_named.ensures (ap not c.if-not-type_named.false) _ c.types_agree.ensures (ap not c.if-not-types_agree.false)
      _ (ranked c.args.x.node c.args.params c.rows_right.ensures c.rank.ensures) (ap not c.if-not-rows_right.false) _ c.shapes_agree.ensures
      (ap not c.if-not-shapes_agree.false) _ _ c.result_shape-extents.ensures c.count-count.ensures c.if-count-gt1048576.false,
  c.result_shape-extents.ensures,
  fits_count c.args.x.node c.args.params (view_of c.args.sources.first) (view_of c.args.sources.second) (view_of c.args.sources.third) _ c.type_named.ensures (ap not c.if-not-type_named.false) _ c.types_agree.ensures (ap not c.if-not-types_agree.false)
      _ (ranked c.args.x.node c.args.params c.rows_right.ensures c.rank.ensures) (ap not c.if-not-rows_right.false) _ c.shapes_agree.ensures
      (ap not c.if-not-shapes_agree.false) _ _ c.result_shape-extents.ensures c.count-count.ensures c.if-count-gt1048576.false,
)
