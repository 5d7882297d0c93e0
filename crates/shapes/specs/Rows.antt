-- The rows of a node.
use Rattle.std.specs.Prelude.{ℕ, Bool, ◌&&◌, cond, List, [], ◌∷◌, leb, ltb, eqb, length, get_or, take}
use Rattle.laws.specs.Lists.{all_below, occurrences}

-- "extents of 1..1048576", "B holds 0..1048576"
abbrev pub extent_limit : ℕ
extent_limit = 1048576

-- the extents that a shape row holds: those before its first zero
unfoldable pub extents_of : List ℕ → List ℕ
extents_of [] = []
extents_of (n ∷ ns) = cond (eqb n 0) [] (n ∷ extents_of ns)

-- the first `rank` of the four words satisfy p, "all with zeros after"
unfoldable pub row_of : (ℕ → Bool) → ℕ → List ℕ → Bool
row_of p rank row = all_below 4 (λ (k : ℕ). cond (ltb k rank) (p (get_or row k 0)) (eqb (get_or row k 0) 0))

-- "Rank is 0 to 4. A shape row is rank extents of 1..1048576, then zeros."
unfoldable pub is_shape_row : List ℕ → Bool
is_shape_row row = row_of (λ (n : ℕ). leb n extent_limit) (length (extents_of row)) row

-- "FLIP's and REDUCE's are flags"
unfoldable pub is_flag_row : ℕ → List ℕ → Bool
is_flag_row = row_of (λ (n : ℕ). leb n 1)

-- "B holds 0..1048576 over the source's rank"
unfoldable pub is_offset_row : ℕ → List ℕ → Bool
is_offset_row = row_of (λ (n : ℕ). leb n extent_limit)

-- "PERMUTE's row is 0..rank−1 once each"
unfoldable pub is_permutation : ℕ → List ℕ → Bool
is_permutation rank row =
    row_of (λ (n : ℕ). ltb n rank) rank row && all_below rank (λ (k : ℕ). eqb (occurrences k (take rank row)) 1)
