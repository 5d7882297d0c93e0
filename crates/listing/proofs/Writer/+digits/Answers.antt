use Rattle.std.proofs.Common.{◌-◌}
use native.Mathlib.Omega.{arith}
use mathlib.Core.Path.{refl, ◌∙◌}
use Rattle.listing.proofs.Numbers.{no_digits, one_digit, more_digits}
use Rattle.listing.proofs.Writing.{puts}
use Rattle.listing.proofs.Writer.+digits.Goals as goal

pub returns-then-k-eq0 : goal.returns-then-k-eq0
returns-then-k-eq0 t c =
    let writer = c.args.self.now in
    puts (no_digits c.args.k c.args.n c.if-k-eq0.true writer.text.now writer.at) refl

pub returns-then-n-lt10 : goal.returns-then-n-lt10
returns-then-n-lt10 t c = puts (one_digit c.args.k c.args.n (c.args.k - 1) (omega arith) c.if-n-lt10.true c.put.ensures.writes) c.put.ensures.same_text

pub returns : goal.returns
returns t c =
    puts (more_digits c.args.k c.args.n (c.args.k - 1) (omega arith) c.if-n-lt10.false c.digits.ensures.writes c.put-2.ensures.writes) (c.put-2.ensures.same_text ∙ c.digits.ensures.same_text)
