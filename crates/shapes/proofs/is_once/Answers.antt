use Prim.Native.Nat.{suc, ◌+◌}
use mathlib.Core.Path.{◌≡◌, refl, sym, ◌∙◌}
use lib.ListN.{take}
use native.Mathlib.Numerals.{unary_clauses}
use native.Mathlib.Omega.{arith}
use Rattle.plan.specs.Words.{list_of}
use Rattle.laws.specs.Lists.{occurrences}
use Rattle.shapes.proofs.RowTests.{occurs_more, occurs_same}
use Rattle.shapes.proofs.is_once.Goals.{then-word-k, else-word-k}
use Rattle.shapes.proofs.is_once.Goals as goal

pub loop-j-init : goal.loop-j-init
unfolding occurrences
loop-j-init c = (refl, omega arith)

pub loop-j-preserved : goal.loop-j-preserved
loop-j-preserved c =
    let sofar = c.loop-j.invariant in
    let is = c.word.ensures in
    elim c.if-word-k.branch [
      | then-word-k w ↦
          let more : occurrences c.args.k (take (c.loop-j.j + 1) (list_of c.args.row)) ≡ suc (occurrences c.args.k (take c.loop-j.j (list_of c.args.row))) =
          simp unary_clauses (occurs_more c.args.k c.loop-j.j (list_of c.args.row) (omega arith) (sym is ∙ w.if-word-k.true)) in
          (omega (arith, w.times-is, sofar.0, more), omega (arith, w.times-is, sofar.1))
      | else-word-k w ↦
          let same : occurrences c.args.k (take (c.loop-j.j + 1) (list_of c.args.row)) ≡ occurrences c.args.k (take c.loop-j.j (list_of c.args.row)) =
          simp unary_clauses (occurs_same c.args.k c.loop-j.j (list_of c.args.row) (λ q. w.if-word-k.false (is ∙ q))) in
          (omega (arith, w.times-is, sofar.0, same), omega (arith, w.times-is, sofar.1))
    ]
