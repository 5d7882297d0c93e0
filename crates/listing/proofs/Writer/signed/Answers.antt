use native.Mathlib.Omega.{arith}
use Rattle.listing.proofs.Numbers.{minus_is, plain_is}
use Rattle.listing.proofs.Writing.{said, within}
use Rattle.listing.proofs.Writer.signed.Goals as goal

pub returns-then-v-lt0 : goal.returns-then-v-lt0
returns-then-v-lt0 c = said (minus_is c.ranges.v c.unsigned_abs-size.ensures.value c.if-v-lt0.true) c.marked.ensures

pub returns : goal.returns
returns c = within 21 (said (plain_is c.ranges.v c.unsigned_abs-size.ensures.value c.if-v-lt0.false) c.decimal.ensures) (omega arith)
