use Prim.Native.Nat.{◌*◌}
use mathlib.Core.Path.{refl}
use native.Mathlib.Omega.{arith}
use lib.Seq.{length-take-le}
use lib.ListN.{get_or}
use Rattle.verifier.specs.Check.{derived_words}
use Rattle.rules.specs.Code.{view_of}
use Rattle.verifier.proofs.Writing.{none_yet, one_more, kept}
use Rattle.verifier.proofs.write_records.Goals as goal

pub loop-i-init : goal.loop-i-init
loop-i-init c = (refl, none_yet c.args.derived.now c.args.records.now)

pub loop-i-preserved : goal.loop-i-preserved
loop-i-preserved c =
    let turn = c.loop-i in
    let rs = c.args.records.now in
    (kept turn.derived (8 * turn.i) (derived_words (view_of (get_or rs turn.i _))) c.write_record.ensures turn.invariant.0, one_more c.args.derived.now rs turn.i c.loop-i-test.true _ (length-take-le turn.i rs (omega arith)) turn.invariant.1 c.write_record.ensures)
