use Prim.Native.Nat.{◌-◌}
use mathlib.Core.Path.{◌∙◌}
use native.Mathlib.Omega.{arith}
use lib.ListN.{length}
use Rattle.running.proofs.Gaps.{last_count}
use Rattle.running.proofs.output_gaps.Goals as goal

pub count_gaps-requires : goal.count_gaps-requires
count_gaps-requires c =
    let rs = c.args.records.now in
    rw (last_count rs _ (length rs - 1) (omega (arith, c.requires.0)) c.requires.2 c.count-n.ensures) c.requires.3

pub returns : goal.returns
returns c =
    let rs = c.args.records.now in
    c.count_gaps.ensures ∙ rw (last_count rs _ (length rs - 1) (omega (arith, c.requires.0)) c.requires.2 c.count-n.ensures)
