use mathlib.Core.Logic.{⊎_elim}
use Prim.Native.Nat.{◌≤◌}
use mathlib.Core.Path.{sym, ◌∙◌}
use mathlib.Core.Bool.{false, true, false≢true}
use native.Mathlib.Nat.{eq-or-lt_of_le}
use native.Mathlib.Omega.{arith}
use Rattle.laws.proofs.Booleans.{bool_cases, all_below_lem, all_below_of}
use Rattle.laws.specs.Lists.{all_below}
use Rattle.shapes.proofs.all_below.Goals as goal

pub loop-k-init : goal.loop-k-init
loop-k-init g c j h = absurd (omega arith)

pub returns-then-not-holds : goal.returns-then-not-holds
returns-then-not-holds g c p e =
    let failed = e c.loop-k.k false c.loop-k-test.true c.if-not-holds.ensures in
    bool_cases (all_below c.args.n p)
    (λ q. absurd (false≢true (failed ∙ all_below_lem c.args.n p q c.loop-k.k c.loop-k-test.true)))
    (λ q. sym q)

pub loop-k-preserved : goal.loop-k-preserved
loop-k-preserved g c j h =
    let within : j ≤ c.loop-k.k = omega arith in
    ⊎_elim (λ q. rw q c.if-not-holds.ensures) (λ l. c.loop-k.invariant j l) (eq-or-lt_of_le within)

pub returns : goal.returns
returns g c p e = sym (all_below_of c.args.n p (λ k h. sym (e k true h (c.loop-k.invariant k (omega (arith, c.loop-k-test.false))))))
