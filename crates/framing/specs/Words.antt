-- The words of a frame.
use Rattle.std.specs.Prelude.{ℕ, List, ℤ}
use Rattle.std.specs.Int.{w64, from_le_bytes, cast_signed}

-- the word in eight bytes, in two's complement
abbrev pub word_of : List ℕ → ℤ
word_of bytes = cast_signed w64 (from_le_bytes w64 bytes)
