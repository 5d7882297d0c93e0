use mathlib.Core.Path.{◌≡◌}
use lib.Dec.{eqb}
use mir.Syntax.{w64}
use mir.Val.{of_z}
use Rattle.laws.specs.Lists.{all_below}
use Rattle.plan.specs.Coded.{number_of}
use Rattle.plan.proofs.UnusedWords.{used_or_zero}
use Rattle.plan.proofs.unused_zero.Given as goal

abbrev pub invariant-loop-k : goal.invariant-loop-k
invariant-loop-k l = eqb (of_z w64 l.bits) 0 ≡ all_below l.k (used_or_zero (number_of l.fn.op) l.words)
