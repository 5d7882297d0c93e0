use Prim.Native.Nat.{ℕ}
use mathlib.Core.Path.{ap, ◌∙◌}
use mathlib.Core.Bool.{not}
use mathlib.Core.List.{List}
use borrow.Author.Rules.{rules}
use Rattle.laws.specs.Numbering.{count}
use Rattle.plan.specs.Words.{list_of}
use Rattle.shapes.specs.Rules.{flagged}
use Rattle.shapes.specs.Shown.{shown, capped}
use Rattle.shaping.proofs.Flags.{gathered_tab}
use Rattle.shaping.proofs.gathered_count.Goals as goal

pub returns : goal.returns
returns c =
    let flags = list_of c.args.flags in
    let kept = c.ones_along.ensures (λ (k : ℕ). not (flagged flags k)) (λ k b met. search rules) in
    c.count.ensures ∙ ap (λ (s : List ℕ). capped (count s)) (kept ∙ gathered_tab (shown c.args.s) flags)
