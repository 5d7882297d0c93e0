use mathlib.Core.Path.{refl, ap, sym, ◌∙◌}
use mathlib.Core.List.{map}
use Rattle.laws.proofs.Lists.{get_or_map}
use Rattle.plan.specs.declared.Node.{Node}
use Rattle.rules.specs.Rules.{no_source}
use Rattle.rules.specs.Code.{view_of}
use Rattle.listing.proofs.Nodes.{no_lines, next_line}
use Rattle.listing.proofs.Writing.{puts}
use Rattle.listing.proofs.Writer.node_lines.Goals as goal

pub loop-n-init : goal.loop-n-init
loop-n-init c =
    let args = c.args in
    let writer = args.self.now in
    puts (no_lines args.table.now (map view_of args.records.now) writer.text.now writer.at) refl

pub loop-n-preserved : goal.loop-n-preserved
loop-n-preserved c =
    let records = c.args.records.now in
    let turn = c.loop-n in
    let line = c.node_line.ensures in
    puts
    (next_line c.args.table.now (map view_of records) turn.n _ _ (ap (λ (x : Node). x.op) c.node_at-node.ensures) (sym (get_or_map view_of records turn.n no_source _ c.loop-n-test.true)) turn.invariant.writes line.writes)
    (line.same_text ∙ turn.invariant.same_text)
