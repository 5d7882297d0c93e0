use native.Mathlib.Omega.{arith}
use mathlib.Core.Path.{refl}
use Rattle.listing.proofs.Writing.{word_put, puts}
use Rattle.listing.proofs.Writer.word.Goals as goal

pub returns : goal.returns
returns c =
    puts (record { stands = word_put c.args.self.now.text.now c.args.word.now _ _ _ (omega arith) c.copy_from_slice.ensures.after c.requires; is_next = refl; short = omega arith }) refl
