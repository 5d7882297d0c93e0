-- Values under gaps never matter.
use Prim.Native.Nat.{ℕ}
use mathlib.Core.Path.{◌≡◌, refl}
use mathlib.Core.List.{List}
use lib.IntN.{ℤ, pos}
use lib.ListN.{length, get_or}
use Rattle.plan.specs.Answers.{Outcome, accepted, refused, and_then}
use Rattle.rules.specs.Rules.{Derived}
use Rattle.verifier.specs.Check.{verdict}
use Rattle.runner.specs.Inputs.{input_limits}
use Rattle.runner.specs.Run.{run_accepted, run}
use Rattle.runner.proofs.Inputs.{tests_same, cells_same}

-- Two inputs of one length with the same flags, and the same numbers where the flag is 1: the run is the same, refused or not.
module _ (t : List ℤ) (values others : List ℤ) (flags : List ℕ) (valueRoom flagRoom : ℕ) (l : length values ≡ length others)
    (h : (p : ℕ) → get_or flags p 0 ≡ 1 → get_or values p (pos 0) ≡ get_or others p (pos 0)) where
  after : (ds : List Derived) → run_accepted t ds (input_limits t ds) values flags valueRoom flagRoom ≡ run_accepted t ds (input_limits t ds) others flags valueRoom flagRoom
  unfolding run_accepted
  after ds = rw (l, tests_same (input_limits t ds) values flags others h, cells_same values others flags l h) refl

  pub gaps_hide : run t values flags valueRoom flagRoom ≡ run t others flags valueRoom flagRoom
  unfolding run
  gaps_hide = by (verdict t)
    where
      by : (o : Outcome (List Derived)) → and_then o (λ ds. run_accepted t ds (input_limits t ds) values flags valueRoom flagRoom) ≡ and_then o (λ ds. run_accepted t ds (input_limits t ds) others flags valueRoom flagRoom)
      by (accepted ds) = after ds
      by (refused r) = refl
