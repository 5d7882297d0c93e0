-- Cells that take in others one after another, in place.
use Prim.Native.Nat.{ℕ, zero, suc, ◌+◌, ◌*◌, ◌≤◌, ◌<◌}
use mathlib.Core.Path.{◌≡◌, refl, sym, ap, ◌∙◌}
use mathlib.Core.List.{List}
use native.Mathlib.Omega.{arith}
use native.Mathlib.Numerals.{add-one}
use native.Mathlib.Nat.{add-zero, add-suc, add_assoc, add-mul, one-mul, zero-mul}
use lib.ListN.{length, get_or}
use Rattle.std.proofs.lemmas.List.{get_or_default}
use Rattle.laws.specs.Store.{store}
use Rattle.laws.proofs.Store.{store_block, store_again, store_read, store_ahead, store_hit, store_same, store_own}
use Rattle.views.specs.declared.Line.{Line}
use Rattle.views.specs.declared.Stride.{Stride}
use Rattle.views.specs.Views.{step}
use Rattle.views.proofs.Steps.{step_le}
use Rattle.reducing.specs.Folding.{fold_from}
use Rattle.reducing.specs.Gathering.{along, far, taken, runs}

-- a cell as it is read in a loop is the cell
pub cell_read : {A : Type 0} (d : A) (l : List A) (p : ℕ) {x : A} → x ≡ get_or l p x → p < length l → x ≡ get_or l p d
cell_read d l p e h = e ∙ get_or_default l p _ d h

-- ---- one fold

module _ {A : Type 0} (f : A → A → A) where
  -- a loop begins and takes a turn, along a line
  pub fold_none : (z : A) (v : ℕ → A) → z ≡ fold_from f z v 0
  unfolding fold_from
  fold_none z v = refl

  fold_step : (z : A) (v : ℕ → A) (n : ℕ) (a x : A) → a ≡ fold_from f z v n → x ≡ v n → f a x ≡ fold_from f z v (n + 1)
  unfolding fold_from
  fold_step z v n a x e q = rw (e, q, add-one)

  pub fold_turn : (z d : A) (l : List A) (n : ℕ) (line : Line) (i : ℕ) {p : ℕ} {a x y : A} → a ≡ fold_from f z (λ (k : ℕ). get_or l (along n line k) d) i
      → p ≡ along n line i → y ≡ get_or l p d → x ≡ f a y → x ≡ fold_from f z (λ (k : ℕ). get_or l (along n line k) d) (i + 1)
  fold_turn z d l n line i e at read r = r ∙ fold_step z _ i _ _ e (rw (← at) read)

  -- only the values below m matter
  fold_same : (z : A) (v w : ℕ → A) (m : ℕ) → ((i : ℕ) → i < m → v i ≡ w i) → fold_from f z v m ≡ fold_from f z w m
  unfolding fold_from
  fold_same z v w zero h = refl
  fold_same z v w (suc m) h = rw (h m (omega arith), fold_same z v w m (λ i q. h i (omega arith)))

  -- some, and then others
  fold_append : (z : A) (v : ℕ → A) (a b : ℕ) → fold_from f (fold_from f z v a) (λ (i : ℕ). v (a + i)) b ≡ fold_from f z v (a + b)
  unfolding fold_from
  fold_append z v a zero = rw add-zero
  fold_append z v a (suc b) = rw (add-suc, fold_append z v a b)

-- ---- many, in place

module _ {A : Type 0} (f : A → A → A) (d : A) (l m : List A) where
  -- what cell j takes in is what it would have at first: it is ahead of what is written, its sources lie before that
  take_same : (s n : ℕ) (g : ℕ → A) (j k : ℕ) (from from' : ℕ → ℕ) → m ≡ store l s n g → s + n ≤ j
      → ((i : ℕ) → i < k → from i ≡ from' i) → ((i : ℕ) → i < k → from i < s)
      → fold_from f (get_or m j d) (λ (i : ℕ). get_or m (from i) d) k ≡ fold_from f (get_or l j d) (λ (i : ℕ). get_or l (from' i) d) k
  take_same s n g j k from from' e ahead same near =
      rw (store_ahead l m s n g j d e ahead)
      (fold_same f (get_or l j d) _ _ k (λ i h. rw (← same i h) (store_read l m s n g (from i) d e (near i h))))

  -- cell c takes in a run, or one cell
  pub run_turn : (to c n : ℕ) (kept : Line) (k : ℕ) (run : Line) (g : ℕ → A) {q : ℕ} {z x : A} → m ≡ store l to c g → far n kept + far k run < to → c < n
      → q ≡ along n kept c → z ≡ get_or m (to + c) d → x ≡ fold_from f z (λ (i : ℕ). get_or m (run.place + q + step k run.stride i) d) k
      → x ≡ fold_from f (get_or l (to + c) d) (λ (i : ℕ). get_or l (runs n kept k run c i) d) k
  run_turn to c n kept k run g {q} e near h at begin r =
      r
      ∙ rw begin
      (take_same to c g (to + c) k (λ (i : ℕ). run.place + q + step k run.stride i) (runs n kept k run c) e (omega arith) (λ i w. omega (arith, at))
      (λ i w. omega (arith, at, step_le n kept.stride c h, step_le k run.stride i w)))

  pub cell_turn : (to c n : ℕ) (line : Line) (g : ℕ → A) {q : ℕ} {z w x : A} → m ≡ store l to c g → far n line < to → c < n
      → q ≡ along n line c → z ≡ get_or m (to + c) d → w ≡ get_or m q d → x ≡ f z w
      → x ≡ fold_from f (get_or l (to + c) d) (λ (i : ℕ). get_or l (along n line c) d) 1
  unfolding fold_from
  cell_turn to c n line g {q} e near h at begin other r =
      r
      ∙ rw (begin, other, at, store_ahead l m to c g (to + c) d e (omega arith), store_read l m to c g (along n line c) d e (omega (arith, step_le n line.stride c h)))

  -- the next row of n cells
  pub rows_turn : (m' : List A) (start r n k : ℕ) (from from' : ℕ → ℕ → ℕ) → m ≡ taken f d l start (r * n) from k → m' ≡ taken f d m (start + r * n) n from' k
      → ((c i : ℕ) → c < n → i < k → from' c i ≡ from (r * n + c) i) → ((c i : ℕ) → c < n → i < k → from' c i < start)
      → m' ≡ taken f d l start ((r + 1) * n) from k
  rows_turn m' start r n k from from' e e' same near =
      store_block l m m' start r n
      (λ (c : ℕ). fold_from f (get_or l (start + c) d) (λ (i : ℕ). get_or l (from c i) d) k)
      (λ (c : ℕ). fold_from f (get_or m (start + r * n + c) d) (λ (i : ℕ). get_or m (from' c i) d) k)
      e e'
      (λ c h. rw (← add_assoc start (r * n) c) (take_same start (r * n) _ (start + r * n + c) k (from' c) (from (r * n + c)) e (omega arith) (λ i. same c i h) (λ i. near c i h)))

  -- cells that hold z take in sources that lie before them
  pub taken_after : (m' : List A) (start n w : ℕ) (z : ℕ → A) (from : ℕ → ℕ → ℕ) → start + n ≤ length l → m ≡ store l start n z → m' ≡ taken f d m start n from w
      → ((e i : ℕ) → e < n → i < w → from e i < start) → m' ≡ store l start n (λ (e : ℕ). fold_from f (z e) (λ (i : ℕ). get_or l (from e i) d) w)
  taken_after m' start n w z from fits e e' near =
      store_again l m m' start n z _ _ e e'
      (λ c h. rw (store_hit l m start n z c d e h fits) (fold_same f (z c) _ _ w (λ i q. store_read l m start n z (from c i) d e (near c i h q))))

  -- the next w sources of each cell
  pub blocks_turn : (m' : List A) (start n j w : ℕ) (from from' : ℕ → ℕ → ℕ) → start + n ≤ length l
      → m ≡ taken f d l start n from (j * w) → m' ≡ taken f d m start n from' w
      → ((e i : ℕ) → e < n → i < w → from' e i ≡ from e (j * w + i)) → ((e i : ℕ) → e < n → i < w → from' e i < start)
      → m' ≡ taken f d l start n from ((j + 1) * w)
  blocks_turn m' start n j w from from' fits e e' same near = taken_after m' start n w _ from' fits e e' near ∙ store_same l start n _ _ more
    where
      source : ℕ → ℕ → A
      source c i = get_or l (from c i) d

      more : (c : ℕ) → c < n
          → fold_from f (fold_from f (get_or l (start + c) d) (source c) (j * w)) (λ (i : ℕ). get_or l (from' c i) d) w ≡ fold_from f (get_or l (start + c) d) (source c) ((j + 1) * w)
      more c h =
          rw (add-mul, one-mul)
          (fold_same f _ _ (λ (i : ℕ). source c (j * w + i)) w (λ i q. ap (λ (k : ℕ). get_or l k d) (same c i h q))
          ∙ fold_append f (get_or l (start + c) d) (source c) (j * w) w)

-- before the first block
pub blocks_none : {A : Type 0} (f : A → A → A) (d : A) (l : List A) (start n w : ℕ) (from : ℕ → ℕ → ℕ) → l ≡ taken f d l start n from (0 * w)
unfolding fold_from
blocks_none f d l start n w from = rw zero-mul (sym (store_own l start n d))

-- a run of one cell is that cell
one_step : (b : Stride) (i : ℕ) → i < 1 → step 1 b i ≡ 0
unfolding step
one_step b i q = let z : i ≡ 0 = omega arith in rw z (omega arith)

pub run_of_one : {A : Type 0} (f : A → A → A) (d : A) (l : List A) (to n : ℕ) (kept run : Line) {m : ℕ} {end : List A} → m ≡ 1
    → end ≡ taken f d l to n (λ (c i : ℕ). kept.place + run.place + step n kept.stride c) 1 → end ≡ taken f d l to n (runs n kept m run) m
run_of_one f d l to n kept run e r =
    r ∙ rw e (store_same l to n _ _ (λ c h. fold_same f _ _ _ 1 (λ i q. ap (λ (j : ℕ). get_or l j d) (omega (arith, one_step run.stride i q)))))
