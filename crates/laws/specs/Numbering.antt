-- Row-major numbering. A shape is the list of its extents; coordinates are a function from axis to coordinate.
use Rattle.std.specs.Prelude.{ℕ, zero, suc, ◌+◌, ◌*◌, ◌/◌, ◌%◌, List, [], ◌∷◌}

-- the number of elements; 1 at rank 0
unfoldable pub count : List ℕ → ℕ
count [] = 1
count (n ∷ ns) = n * count ns

-- the element at coordinates c
unfoldable pub ravel : List ℕ → (ℕ → ℕ) → ℕ
ravel [] c = 0
ravel (n ∷ ns) c = c 0 * count ns + ravel ns (λ (k : ℕ). c (suc k))

-- the coordinate of element e along axis k; 0 past the rank
unfoldable pub coord : List ℕ → ℕ → ℕ → ℕ
coord [] e k = 0
coord (n ∷ ns) e zero = e / count ns
coord (n ∷ ns) e (suc k) = coord ns (e % count ns) k
