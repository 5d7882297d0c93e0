-- The worked examples, by computation.
use mathlib.Core.Path.{refl}
use Rattle.guarantees.specs.Examples.{MarkedHold}
use Rattle.guarantees.specs.Further.{FurtherHold}
use Rattle.guarantees.proofs.Everything.{everything}

pub marked_hold : MarkedHold
unfolding everything
marked_hold = refl

pub further_hold : FurtherHold
unfolding everything
further_hold = refl
