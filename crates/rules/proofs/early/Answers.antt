use mathlib.Core.Bool.{not}
use mathlib.Core.Path.{ap, ◌∙◌}
use Rattle.plan.proofs.Decoding.{words_part}
use Rattle.rules.proofs.EarlyRules.{early_2, early_3, early_4, early_none}
use Rattle.rules.proofs.early.Goals as goal

pub returns-in-Err : goal.returns-in-Err
returns-in-Err c = early_2 _ _ _ c.node_at.ensures c.in-Err.ensures.1

pub returns-then-not-unused_zero : goal.returns-then-not-unused_zero
returns-then-not-unused_zero c =
    let x = c.in-Ok.x in
    early_3 _ _ x.node (c.in-Ok.ensures ∙ c.node_at.ensures) x.op x.named _ (words_part _ _) _ c.unused_zero.ensures (ap not c.if-not-unused_zero.true)

pub returns-then-not-sources_earlier : goal.returns-then-not-sources_earlier
returns-then-not-sources_earlier c =
    let x = c.in-Ok.x in
    early_4 _ _ x.node (c.in-Ok.ensures ∙ c.node_at.ensures) x.op x.named _ (words_part _ _) _ c.unused_zero.ensures (ap not c.if-not-unused_zero.false)
    _ c.sources_earlier.ensures (ap not c.if-not-sources_earlier.true)

pub returns : goal.returns
returns c =
    let x = c.in-Ok.x in
    let q = c.in-Ok.ensures ∙ c.node_at.ensures in
    (q, early_none _ _ x.node q x.op x.named _ (words_part _ _) _ c.unused_zero.ensures (ap not c.if-not-unused_zero.false) _ c.sources_earlier.ensures (ap not c.if-not-sources_earlier.false))
