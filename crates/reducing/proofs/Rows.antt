-- Folds over the rows of a result's grid, and over the rows of what is gathered.
use Prim.Native.Nat.{ℕ, ◌+◌, ◌*◌, ◌≤◌, ◌<◌}
use mathlib.Core.Path.{◌≡◌}
use mathlib.Core.List.{List}
use native.Mathlib.Omega.{arith}
use lib.ListN.{length, get_or}
use Rattle.laws.specs.Store.{store}
use Rattle.plan.specs.declared.Row.{Row}
use Rattle.views.specs.declared.Line.{Line}
use Rattle.views.specs.declared.View.{View}
use Rattle.views.specs.Views.{step, rows_of, cells_of, row_place, place, row_reach, reach}
use Rattle.views.proofs.RowPlaces.{place_row, row_below, cell_below, base_place}
use Rattle.views.proofs.Steps.{step_le, place_le}
use Rattle.reducing.specs.Folding.{fold_from, source}
use Rattle.reducing.specs.Gathering.{along, far, taken, runs, AllIn}
use Rattle.reducing.proofs.Folds.{rows_turn, taken_after, blocks_turn}

-- the cells of row i
abbrev pub row_line : Row → View → ℕ → Line
row_line k v i = record { place = row_place k v i; stride = v.s3 }

-- no source lies further than both reaches
module _ (k : Row) (kept : View) where
  pub row_near : (more low i : ℕ) {row : Line} → reach k kept + more < low → row ≡ row_line k kept i → row.place ≤ row_reach k kept → far k.r3 row + more < low
  row_near more low i near e h = rw e (omega (arith, row_below k kept {n = reach k kept + 1} (omega arith) (rw e at h)))

  cell_near : (i c more start : ℕ) → reach k kept + more < start → i < rows_of k → c < k.r3 → row_place k kept i + step k.r3 kept.s3 c + more < start
  cell_near i c more start near h w = omega (arith, cell_below k kept {n = reach k kept + 1} (omega arith) i c h w)

  sources_near : (g : Row) (gathered : View) (start : ℕ) → reach k kept + reach g gathered < start
      → (e i : ℕ) → e < cells_of k → i < cells_of g → source k kept g gathered e i < start
  sources_near g gathered start near e i h q = omega (arith, place_le k kept e h, place_le g gathered i q)

  -- and each may be taken in
  pub sources_fit : {A : Type 0} (Fits : A → Type 0) (d : A) (l : List A) (g : Row) (gathered : View) → AllIn Fits d l kept.base (reach k kept + reach g gathered + 1)
      → (e i : ℕ) → e < cells_of k → i < cells_of g → Fits (get_or l (source k kept g gathered e i) d)
  sources_fit Fits d l g gathered fit e i h q =
      fit (source k kept g gathered e i) (omega (arith, base_place k kept e)) (omega (arith, place_le k kept e h, place_le g gathered i q))

module _ {A : Type 0} (f : A → A → A) (d : A) (l m m' : List A) (k : Row) (kept : View) (start : ℕ) where
  -- row i of the result
  pub row_turn : (i w : ℕ) (run : Line) {row : Line} → reach k kept + far w run < start → i < rows_of k
      → m ≡ taken f d l start (i * k.r3) (λ (e j : ℕ). place k kept e + along w run j) w
      → m' ≡ taken f d m (start + i * k.r3) k.r3 (runs k.r3 row w run) w → row ≡ row_line k kept i
      → m' ≡ taken f d l start ((i + 1) * k.r3) (λ (e j : ℕ). place k kept e + along w run j) w
  row_turn i w run near h e e' at =
      rows_turn f d l m m' start i k.r3 w _ (runs k.r3 (row_line k kept i) w run) e (rw at at e')
      (λ c j q v. omega (arith, place_row k kept i c q))
      (λ c j q v. omega (arith, cell_near k kept i c (far w run) start near h q, step_le w run.stride j v))

  -- row j of what is gathered
  pub block_turn : (g : Row) (gathered : View) (j : ℕ) {run : Line} → reach k kept + reach g gathered < start → start + cells_of k ≤ length l
      → j < rows_of g → m ≡ taken f d l start (cells_of k) (source k kept g gathered) (j * g.r3)
      → m' ≡ taken f d m start (cells_of k) (λ (e i : ℕ). place k kept e + along g.r3 run i) g.r3 → run ≡ row_line g gathered j
      → m' ≡ taken f d l start (cells_of k) (source k kept g gathered) ((j + 1) * g.r3)
  block_turn g gathered j near fits h e e' at =
      blocks_turn f d l m m' start (cells_of k) j g.r3 _ (λ (e i : ℕ). place k kept e + along g.r3 (row_line g gathered j) i) fits e (rw at at e')
      (λ c i q v. omega (arith, place_row g gathered j i v))
      (λ c i q v. omega (arith, place_le k kept c q, cell_below g gathered {n = reach g gathered + 1} (omega arith) j i h v))

  -- the whole: cells begun with z, then folded
  pub whole : (g : Row) (gathered : View) (z : ℕ → A) → reach k kept + reach g gathered < start → start + cells_of k ≤ length l
      → m ≡ store l start (cells_of k) z → m' ≡ taken f d m start (cells_of k) (source k kept g gathered) (cells_of g)
      → m' ≡ store l start (cells_of k) (λ (e : ℕ). fold_from f (z e) (λ (i : ℕ). get_or l (source k kept g gathered e i) d) (cells_of g))
  whole g gathered z near fits e e' = taken_after f d l m m' start (cells_of k) (cells_of g) z _ fits e e' (sources_near k kept g gathered start near)
