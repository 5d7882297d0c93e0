-- A refusal is told, and writes nothing.
use mathlib.Core.Path.{refl}
use Rattle.guarantees.specs.Refusals.{RefusalsKeep}

pub refusals_keep : RefusalsKeep
refusals_keep =
    record {
      of_unpack = λ s table r e. rw e (record { number = refl; place = refl; count = refl }, refl);
      of_pack = λ t bytes r e. rw e (record { number = refl; place = refl; count = refl }, refl);
      of_check = λ t derived r e. rw e (record { number = refl; place = refl; count = refl }, refl);
      of_run = λ t values flags v f r e. rw e (record { number = refl; place = refl; count = refl }, refl, refl);
      of_lookup = λ t n e r q. rw q (record { number = refl; place = refl; found = refl; node = refl; element = refl });
    }
