-- The gaps of the output node.
use Prim.Native.Nat.{ℕ, zero, suc, ◌+◌, ◌<◌, ◌≤◌}
use mathlib.Core.Path.{◌≡◌, refl, ◌∙◌}
use mathlib.Core.Bool.{cond}
use mathlib.Core.List.{List, [], ◌∷◌}
use native.Mathlib.Omega.{arith}
use native.Mathlib.Nat.{add-zero}
use lib.Dec.{eqb}
use lib.ListN.{length, get_or}
use Rattle.laws.specs.Numbering.{count}
use Rattle.shapes.specs.Shown.{shown, capped}
use Rattle.shaping.proofs.Counts.{capped_within}
use Rattle.rules.specs.declared.Record.{Record}
use Rattle.rules.specs.Rules.{no_source}
use Rattle.verifier.specs.Check.{count_of}
use Rattle.cells.specs.Cells.{Cell, known, gap}
use Rattle.runner.specs.Run.{flag_of, gap_count}
use Rattle.inputs.specs.Nodes.{nodes_of}
use Rattle.inputs.specs.Scanning.{gaps_from}
use Rattle.inputs.proofs.Sizes.{node_size}

-- the count of a record within the limit, as the code counts it
pub last_count : (records : List Record) (d : Record) (i : ℕ) {m : ℕ} → i < length records → count_of (get_or (nodes_of records) i no_source) ≤ 1048576
    → m ≡ capped (count (shown (get_or records i d).extents)) → m ≡ count_of (get_or (nodes_of records) i no_source)
last_count records d i l h e =
    let size = node_size records d i l in
    e ∙ rw (← size) (capped_within h)

-- counted from the first on
gaps_first : (fs : List ℕ) (from n : ℕ) → gaps_from fs from (suc n) ≡ cond (eqb (get_or fs from 0) 1) 0 1 + gaps_from fs (suc from) n
unfolding gaps_from
gaps_first fs from zero = let place : from + 0 ≡ from = omega arith in rw place (omega arith)
gaps_first fs from (suc n) =
    let place : suc from + n ≡ from + suc n = omega arith in
    rw (gaps_first fs from n, place) (omega arith)

-- the flags of n cells have as many gaps as the cells
pub gaps_counted : (fs : List ℕ) (from n : ℕ) (cells : List Cell) → length cells ≡ n → ((e : ℕ) → e < n → get_or fs (from + e) 0 ≡ flag_of (get_or cells e gap)) → gaps_from fs from n ≡ gap_count cells
unfolding gaps_from gap_count
gaps_counted fs from zero [] l h = refl
gaps_counted fs from (suc n) [] l h = absurd (omega arith)
gaps_counted fs from zero (c ∷ cs) l h = absurd (omega arith)
gaps_counted fs from (suc n) (c ∷ cs) l h =
    let rest = gaps_counted fs (suc from) n cs (omega arith) (λ e q. let place : suc from + e ≡ from + suc e = omega arith in rw place (h (suc e) (omega arith))) in
    let head : get_or fs from 0 ≡ flag_of c = rw add-zero at (h 0 (omega arith)) in
    gaps_first fs from n ∙ rw (head, rest) (by_cell c)
  where
    by_cell : (c : Cell) → cond (eqb (flag_of c) 1) 0 1 + gap_count cs ≡ gap_count (c ∷ cs)
    by_cell (known z) = omega arith
    by_cell gap = omega arith
