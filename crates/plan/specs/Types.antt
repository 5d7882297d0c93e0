-- Intervals of whole numbers, and the types' ranges.
use Rattle.std.specs.Prelude.{ℕ, Bool, ◌&&◌, List, [], ◌∷◌, ℤ, pos, negsuc, get_or}
use Rattle.std.specs.Int.Signed.{le_z}
use Rattle.plan.specs.declared.Interval.{Interval}

-- [low,high]
abbrev pub between : ℤ → ℤ → Interval
between low high = record { low = low; high = high }

unfoldable pub holds : Interval → ℤ → Bool
holds i z = le_z i.low z && le_z z i.high

-- both ends of the second lie in the first
unfoldable pub contains : Interval → Interval → Bool
contains i j = holds i j.low && holds i j.high

-- "Types: 0 bool (0..1), 1 u8 (0..255), 2 i16 .., 3 i32 (−2147483648..2147483647)."; 02 §2: "The range of i16 becomes −32767..32767, wherever a type's range is
-- asked for." negsuc n is −(n + 1)
abbrev pub type_ranges : List Interval
type_ranges =
    between (pos 0) (pos 1)
    ∷ between (pos 0) (pos 255)
    ∷ between (negsuc 32766) (pos 32767)
    ∷ between (negsuc 2147483647) (pos 2147483647)
    ∷ []

abbrev pub bool : ℕ
bool = 0

-- the range of a type; [0,0] for a number that is no type, which rule 5 refuses
unfoldable pub range_of : ℕ → Interval
range_of t = get_or type_ranges t (between (pos 0) (pos 0))
