use Prim.Native.Nat.{◌+◌, ◌*◌}
use mathlib.Core.List.{◌++◌}
use lib.ListN.{take}
use Rattle.verifier.specs.Listing.{decimal, joined}
use Rattle.listing.specs.Writing.{Puts}
use Rattle.listing.proofs.Shapes.{AreExtents, after_first}
use Rattle.listing.proofs.Writer.shape.Given as goal

abbrev pub invariant-loop-n : goal.invariant-loop-n
invariant-loop-n l =
    let ns = after_first l.fn.s in
    Puts (decimal l.fn.s.n0 ++ joined (take l.n-index ns)) (20 + 21 * l.n-index) l.fn.self l.self × AreExtents ns l.n-index
