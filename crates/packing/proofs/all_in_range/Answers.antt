use mathlib.Core.Path.{refl}
use borrow.Author.Rules.{rules}
use Rattle.laws.specs.Lists.{all_below}
use Rattle.packing.proofs.Breaking.{range_more}
use Rattle.packing.proofs.all_in_range.Goals as goal

pub loop-k-init : goal.loop-k-init
unfolding all_below
loop-k-init c = refl

pub loop-k-preserved : goal.loop-k-preserved
loop-k-preserved c = range_more c.args.w.now _ _ _ c.loop-k.invariant (search rules)
