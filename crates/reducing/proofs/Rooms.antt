-- There is room for the cells that are taken in, and they may be.
use Prim.Native.Nat.{ℕ, zero, suc, ◌+◌, ◌*◌, ◌≤◌, ◌<◌}
use mathlib.Core.Path.{◌≡◌}
use mathlib.Core.List.{List}
use native.Mathlib.Omega.{arith}
use native.Mathlib.Nat.{add_assoc}
use lib.ListN.{length, get_or}
use Rattle.laws.specs.Store.{store}
use Rattle.laws.proofs.Store.{store_read, store_ahead, store_hit}
use Rattle.views.specs.declared.Line.{Line}
use Rattle.views.proofs.Steps.{step_le}
use Rattle.views.proofs.RowPlaces.{block_fits}
use Rattle.reducing.specs.Folding.{fold_from}
use Rattle.reducing.specs.Gathering.{along, far, taken, AllIn, Room}
use Rattle.reducing.specs.Laws.{FoldLaws}
use Rattle.reducing.proofs.Folds.{cell_read}

module _ {A : Type 0} {f : A → A → A} {HasRoom : ℕ → A → Type 0} {Fits : A → Type 0} (laws : FoldLaws f HasRoom Fits) where
  -- what is left after i cells
  fold_room : (z : A) (v : ℕ → A) (n i : ℕ) → ((j : ℕ) → j < i → Fits (v j)) → HasRoom (n + i) z → HasRoom n (fold_from f z v i)
  unfolding fold_from
  fold_room z v n zero fit room = laws.less (n + 0) n z room (omega arith)
  fold_room z v n (suc i) fit room =
      laws.takes n _ _ (fold_room z v (n + 1) i (λ j q. fit j (omega arith)) (laws.less (n + suc i) (n + 1 + i) z room (omega arith))) (fit i (omega arith))

  -- the next cell of a line may be taken in
  pub run_room : (d z : A) (l : List A) (n : ℕ) (line : Line) (i : ℕ) {p : ℕ} {a x : A} → far n line < length l → AllIn Fits d l line.place (far n line + 1) → HasRoom n z → i < n
      → a ≡ fold_from f z (λ (k : ℕ). get_or l (along n line k) d) i → p ≡ along n line i → x ≡ get_or l p x → HasRoom 1 a × Fits x
  run_room d z l n line i {p} within fit room h so_far at read =
      let near = step_le n line.stride i h in (
        rw so_far (fold_room z _ 1 i (λ j q. fit (along n line j) (omega arith) (omega (arith, step_le n line.stride j (omega arith)))) (laws.less n (1 + i) z room (omega arith))),
        rw (cell_read d l p read (omega (arith, at, near))) (fit p (omega (arith, at)) (omega (arith, at, near))),
      )

  -- each cell has taken in j of k blocks of w
  pub room_block : (d : A) (l m : List A) (start n j k w : ℕ) (from : ℕ → ℕ → ℕ) → start + n ≤ length l → m ≡ taken f d l start n from (j * w)
      → ((e i : ℕ) → e < n → i < k * w → Fits (get_or l (from e i) d)) → Room HasRoom d l start n (k * w) → j < k → Room HasRoom d m start n w
  room_block d l m start n j k w from fits e fit room h c q =
      let few = block_fits j k w h in
      rw (store_hit l m start n _ c d e q fits)
      (fold_room (get_or l (start + c) d) _ w (j * w) (λ i p. fit c i q (omega arith)) (laws.less (k * w) (w + j * w) _ (room c q) (omega (arith, few))))

-- ---- in a loop: l at first, m so far

module _ {A : Type 0} (d : A) (l m : List A) (s n : ℕ) (g : ℕ → A) (e : m ≡ store l s n g) where
  -- the cells before what is written
  pub fit_kept : (Fits : A → Type 0) {a a' q q' : ℕ} → AllIn Fits d l a q → q ≤ s → a ≤ a' → q' ≤ q → AllIn Fits d m a' q'
  fit_kept Fits h near more less p v w = rw (store_read l m s n g p d e (omega arith)) (h p (omega arith) (omega arith))

  pub fit_at : (Fits : A → Type 0) {a q : ℕ} (p : ℕ) → AllIn Fits d l a q → q ≤ s → a ≤ p → p < q → Fits (get_or m p d)
  fit_at Fits p h near v w = fit_kept Fits h near (omega arith) (omega arith) p v w

  -- the next cell
  pub room_at : (HasRoom : ℕ → A → Type 0) (a k : ℕ) → Room HasRoom d l s a k → n < a → HasRoom k (get_or m (s + n) d)
  room_at HasRoom a k room h = rw (store_ahead l m s n g (s + n) d e (omega arith)) (room n h)

  -- the cells ahead
  pub room_ahead : (HasRoom : ℕ → A → Type 0) (a k : ℕ) {b : ℕ} → Room HasRoom d l s a k → n + b ≤ a → Room HasRoom d m (s + n) b k
  room_ahead HasRoom a k room fits c h =
      let p = room (n + c) (omega arith) in
      rw (store_ahead l m s n g (s + n + c) d e (omega arith), add_assoc) p
