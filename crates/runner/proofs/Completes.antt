-- When a run of an accepted plan completes, and with which fields.
use Prim.Native.Nat.{ℕ, ◌≤◌}
use mathlib.Core.Path.{◌≡◌, refl, sym}
use mathlib.Core.Bool.{◌&&◌}
use mathlib.Core.List.{List}
use borrow.Author.Tests.{eq-eqb, le-leb}
use lib.IntN.{ℤ}
use lib.Dec.{eqb, leb}
use lib.ListN.{length}
use Rattle.plan.specs.Answers.{accepted}
use Rattle.plan.proofs.Outcomes.{accepted_same, need_accepted, then_accepted}
use Rattle.rules.specs.Rules.{Derived}
use Rattle.verifier.specs.Check.{verdict, total_of}
use Rattle.cells.specs.Cells.{Field}
use Rattle.runner.specs.Inputs.{input_limits, test_inputs}
use Rattle.runner.specs.Run.{fields_of, run_accepted, run}

module _ (t : List ℤ) (ds : List Derived) (values : List ℤ) (flags : List ℕ) (valueRoom flagRoom : ℕ) (v : verdict t ≡ accepted ds) where
  pub run_completes : length values ≡ length (input_limits t ds) → length flags ≡ length (input_limits t ds) → total_of ds ≤ valueRoom → total_of ds ≤ flagRoom
      → test_inputs (input_limits t ds) values flags ≡ accepted tt → run t values flags valueRoom flagRoom ≡ accepted (fields_of t ds values flags)
  unfolding run run_accepted
  run_completes l m p q e = rw (v, eq-eqb _ _ l, eq-eqb _ _ m, le-leb _ _ p, le-leb _ _ q, e) refl

  pub run_fields : (fs : List Field) → run t values flags valueRoom flagRoom ≡ accepted fs → fs ≡ fields_of t ds values flags
  unfolding run run_accepted
  run_fields fs e =
      let a : run_accepted t ds (input_limits t ds) values flags valueRoom flagRoom ≡ accepted fs = rw v at e in
      let b = need_accepted (eqb (length values) (length (input_limits t ds)) && eqb (length flags) (length (input_limits t ds))) 13 0 _ a in
      let c = need_accepted (leb (total_of ds) valueRoom && leb (total_of ds) flagRoom) 14 0 _ b.1 in
      let d = then_accepted (test_inputs (input_limits t ds) values flags) _ c.1 in
      sym (accepted_same d.2)
