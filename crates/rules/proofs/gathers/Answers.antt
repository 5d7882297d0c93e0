use mathlib.Core.Path.{sym, ◌∙◌}
use Rattle.shapes.proofs.Extents.{extents_positive}
use Rattle.shaping.proofs.Counts.{gathered_within, gathered_few}
use Rattle.plan.specs.Words.{list_of}
use Rattle.shapes.specs.Shown.{words_in, shown}
use Rattle.bounds.specs.Rules.{gathered_count}
use Rattle.rules.proofs.gathers.Goals as goal

pub returns-in-Reduce : goal.returns-in-Reduce
unfolding gathered_count
returns-in-Reduce c =
    let flags = list_of c.args.x.node.rowa in
    let within = gathered_within (shown c.args.s) flags (extents_positive (words_in c.args.s)) c.requires in
    let few = gathered_few (shown c.args.s) flags (extents_positive (words_in c.args.s)) c.requires in
    let is = c.gathered_count.ensures ∙ within in
    record { most = rw is few; all = λ q. sym is }
