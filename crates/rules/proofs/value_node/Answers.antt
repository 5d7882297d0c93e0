use mathlib.Core.Bool.{Bool, not}
use mathlib.Core.Path.{◌≡◌, refl, ap, ◌∙◌}
use Rattle.plan.specs.declared.instructions.Instruction.{Instruction}
use Rattle.plan.specs.declared.Interval.{Interval}
use Rattle.plan.specs.Coded.{number_of}
use Rattle.rules.specs.Code.{view_of}
use Rattle.rules.proofs.Judging.{breaks_9, breaks_10, breaks_11, values_hold, range_held, derived_parts, bounds_of}
use Rattle.shapes.specs.Shown.{shown}
use Rattle.rules.specs.Rules.{divisor_right}
use Rattle.rules.proofs.Narrowing.{range_narrow}
use Rattle.rules.proofs.value_node.Goals as goal

-- rule 10, at the bounds as they were computed
divisor_of : (x : Instruction) {r : Bool} {a b : Interval} → r ≡ divisor_right (number_of x.op) a → a ≡ b → r ≡ divisor_right x.node.op b
divisor_of x e q = e ∙ rw (x.named, q) refl

pub returns-then-not-devices_agree : goal.returns-then-not-devices_agree
returns-then-not-devices_agree c = breaks_9 c.args.x.node (view_of c.args.sources.first) (view_of c.args.sources.second) (view_of c.args.sources.third) _ c.devices_agree.ensures (ap not c.if-not-devices_agree.true)

pub returns-then-not-divisor_right : goal.returns-then-not-divisor_right
returns-then-not-divisor_right c = breaks_10 c.args.x.node (view_of c.args.sources.first) (view_of c.args.sources.second) (view_of c.args.sources.third) _ c.devices_agree.ensures (ap not c.if-not-devices_agree.false) _ (divisor_of c.args.x c.divisor_right.ensures c.from-divisor.ensures.0) (ap not c.if-not-divisor_right.true)

pub returns-then-not-in_type : goal.returns-then-not-in_type
returns-then-not-in_type c =
    breaks_11 c.args.x.node (view_of c.args.sources.first) (view_of c.args.sources.second) (view_of c.args.sources.third) _ c.devices_agree.ensures (ap not c.if-not-devices_agree.false) _ (divisor_of c.args.x c.divisor_right.ensures c.from-divisor.ensures.0)
    (ap not c.if-not-divisor_right.false) _ _ c.result_type-dtype.ensures.is_type
    (bounds_of c.args.x.node (shown c.args.sources.first.extents) (c.result_bounds-range.ensures (shown c.args.sources.first.extents) c.gathers-gathered.ensures.all) c.from-first.ensures.0 c.from-divisor.ensures.0 c.from-third.ensures.0)
    _ c.in_type.ensures (ap not c.if-not-in_type.true)

pub narrow-requires : goal.narrow-requires
narrow-requires c =
    range_narrow _ _ (range_held c.args.x.node (view_of c.args.sources.first) (view_of c.args.sources.second) (view_of c.args.sources.third) _ c.devices_agree.ensures (ap not c.if-not-devices_agree.false) _ (divisor_of c.args.x c.divisor_right.ensures c.from-divisor.ensures.0)
    (ap not c.if-not-divisor_right.false) _ _ c.result_type-dtype.ensures.is_type
    (bounds_of c.args.x.node (shown c.args.sources.first.extents) (c.result_bounds-range.ensures (shown c.args.sources.first.extents) c.gathers-gathered.ensures.all) c.from-first.ensures.0 c.from-divisor.ensures.0 c.from-third.ensures.0)
    _ c.in_type.ensures (ap not c.if-not-in_type.false))

pub overflow_cast-result : goal.overflow_cast-result
overflow_cast-result c = record { fits = c.result_type-dtype.ensures.byte c.requires.held.0 }

pub overflow_cast-result-2 : goal.overflow_cast-result-2
overflow_cast-result-2 c = record { fits = c.result_device-device.ensures.byte _ _ c.requires.held.1.1.0 }

pub returns : goal.returns
returns c = (
  values_hold c.args.x.node (view_of c.args.sources.first) (view_of c.args.sources.second) (view_of c.args.sources.third) _ c.devices_agree.ensures (ap not c.if-not-devices_agree.false) _ (divisor_of c.args.x c.divisor_right.ensures c.from-divisor.ensures.0)
      (ap not c.if-not-divisor_right.false) _ _ c.result_type-dtype.ensures.is_type
      (bounds_of c.args.x.node (shown c.args.sources.first.extents) (c.result_bounds-range.ensures (shown c.args.sources.first.extents) c.gathers-gathered.ensures.all) c.from-first.ensures.0 c.from-divisor.ensures.0 c.from-third.ensures.0)
      _ c.in_type.ensures (ap not c.if-not-in_type.false),
  derived_parts c.args.x.node (view_of c.args.sources.first) (view_of c.args.sources.second) (view_of c.args.sources.third) c.result_type-dtype.ensures.is_type c.result_device-device.ensures.is_device (c.narrow.ensures ∙ (bounds_of c.args.x.node (shown c.args.sources.first.extents) (c.result_bounds-range.ensures (shown c.args.sources.first.extents) c.gathers-gathered.ensures.all) c.from-first.ensures.0 c.from-divisor.ensures.0 c.from-third.ensures.0)) c.requires.shape,
)
