use mathlib.Core.Path.{◌≡◌}
use mathlib.Core.Bool.{true}
use Rattle.codec.specs.Plans.{none_new}
use Rattle.codec.proofs.edition_of.Given as goal

abbrev pub invariant-loop-i : goal.invariant-loop-i
invariant-loop-i l = none_new l.table l.i ≡ true
