-- The listing's lines, and the text with the room that it asks for.
use Rattle.std.specs.Prelude.{ℕ, cond, List, [], leb, ℤ, get_or}
use Rattle.laws.specs.Lists.{tab, concat}
use Rattle.plan.specs.Words.{node_at}
use Rattle.plan.specs.Answers.{Outcome, accepted, and_then}
use Rattle.rules.specs.Rules.{Derived, no_source}
use Rattle.verifier.specs.Check.{Checked, verdict}
use Rattle.verifier.specs.Listing.{node_line, listing}

-- the lines of the first `count` nodes of a table, whose records are ds
abbrev pub lines_of : List ℤ → List Derived → ℕ → List ℕ
lines_of t ds count = concat (tab count (λ (n : ℕ). node_line n (node_at t n).op (get_or ds n no_source)))

-- a table that was read, checked
abbrev pub checked_of : List ℤ → Outcome Checked
checked_of t = and_then (verdict t) (λ ds. accepted (record { table = t; records = ds }))

-- room for any listing: the header's 36 bytes, 256 lines of at most 255, and the last line
abbrev pub text_room : ℕ
text_room = 65536

-- the listing, where there is that room
unfoldable pub text_with : List ℕ → ℕ → List ℕ
text_with s room = cond (leb text_room room) (listing s) []
