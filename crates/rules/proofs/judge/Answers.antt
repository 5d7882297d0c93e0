use mathlib.Core.Path.{ap, sym, ◌∙◌}
use Rattle.std.proofs.lemmas.Result.{err_from_is_err_and}
use Rattle.laws.specs.Numbering.{count}
use Rattle.plan.proofs.Outcomes.{first_front, first_back, all_both}
use Rattle.rules.specs.Code.{view_of, shape_rules_of, value_rules_of}
use Rattle.rules.specs.Rules.{Derived, derived_of}
use Rattle.rules.proofs.judge.Goals as goal

pub returns-in_err-shaped : goal.returns-in_err-shaped
returns-in_err-shaped c =
    let s = c.args.sources in
    let p = err_from_is_err_and c.from_residual.result c.from_residual.ensures.1 in
    rw (p.1, p.2) (first_front (value_rules_of c.args.x.node (view_of s.first) (view_of s.second) (view_of s.third)) c.in_err-shaped.ensures)

pub returns-in_err-record : goal.returns-in_err-record
returns-in_err-record c =
    let s = c.args.sources in
    let p = err_from_is_err_and c.from_residual-in_err-record.result c.from_residual-in_err-record.ensures.1 in
    rw (p.1, p.2)
    (first_back (shape_rules_of c.args.x.node c.args.params (view_of s.first) (view_of s.second) (view_of s.third)) c.in_ok-shaped.ensures.0 c.in_err-record.ensures)

pub returns : goal.returns
unfolding derived_of
returns c =
    let s = c.args.sources in
    let a = view_of s.first in
    let b = view_of s.second in
    let d = view_of s.third in
    let shaped = c.in_ok-shaped.ensures in
    let judged = c.in_ok-record.ensures in (
      all_both (shape_rules_of c.args.x.node c.args.params a b d) (value_rules_of c.args.x.node a b d) shaped.0 judged.0,
      judged.1,
      shaped.2 ∙ ap count (shaped.1 ∙ sym (ap (λ (r : Derived). r.extents) judged.1)),
    )
