-- Rows laid within gaps: gaps, cells and gaps end to end, and such rows one after another.
use Prim.Native.Nat.{ℕ, ◌+◌, ◌*◌, ◌-◌, ◌/◌, ◌%◌, ◌^◌, ◌<◌, ◌≤◌}
use mathlib.Core.Path.{◌≡◌, refl, sym, ◌∙◌}
use mathlib.Core.Bool.{Bool, true, false, ◌&&◌, cond}
use mathlib.Core.Option.{none, some}
use mathlib.Core.List.{List}
use native.Mathlib.Omega.{arith}
use native.Mathlib.Nat.{mul-one, mul-zero, add-zero}
use borrow.Author.Tests.{le-leb, lt-leb, lt-ltb, le-ltb}
use lib.Arith.{digits_div, digits_mod}
use lib.ListN.{get_or}
use Rattle.laws.specs.Store.{store}
use Rattle.laws.proofs.Store.{store_same, store_read, store_after_store, store_block}
use Rattle.plan.specs.declared.Row.{Row}
use Rattle.views.specs.Views.{stride_of, step, span, cells_of}
use Rattle.views.specs.Strides.{strides_of}
use Rattle.views.specs.Walks.{in_band, row_inside, row_start, band_place}
use Rattle.views.proofs.Padding.{band_in, row_in_source}
use Rattle.moving.specs.Moved.{fetch, band_cell, row_cell, Laid}

-- ---- one place after another

one_step : (n c : ℕ) → step n (stride_of 1 0) c ≡ c
unfolding step
one_step n c = rw (mul-one, mul-zero, add-zero)

pub one_span : (n p to : ℕ) → 0 < n → p + n ≤ to → p + span n (stride_of 1 0) < to
unfolding span
one_span n p to h q = rw mul-one (omega arith)

-- ---- one row

module _ {A : Type 0} (d : A) (l : List A) where
  module _ (before n p : ℕ) where
    -- a gap before the cells, a cell, a gap after them
    gap_before : (c : ℕ) → c < before → band_cell d l before n p c ≡ d
    gap_before c h = rw (lt-leb before c h)

    cell_between : (c : ℕ) → c < n → band_cell d l before n p (before + c) ≡ get_or l (p + c) d
    cell_between c h =
        let low : before ≤ before + c = omega arith in
        let high : before + c < before + n = omega arith in
        let at : before + c - before ≡ c = omega arith in
        rw (le-leb before (before + c) low, lt-ltb (before + c) (before + n) high, at)

    gap_after : (c : ℕ) → band_cell d l before n p (before + n + c) ≡ d
    gap_after c =
        let low : before ≤ before + n + c = omega arith in
        let high : before + n ≤ before + n + c = omega arith in
        rw (le-leb before (before + n + c) low, le-ltb (before + n + c) (before + n) high)

    -- gaps, the cells from p on, gaps
    pub band_laid : (to width : ℕ) {m k end : List A} → before + n ≤ width → p + n ≤ to
        → m ≡ store l to before (λ (c : ℕ). d)
        → k ≡ store m (to + before) n (λ (c : ℕ). get_or m (p + step n (stride_of 1 0) c) d)
        → end ≡ store k (to + before + n) (width - before - n) (λ (c : ℕ). d)
        → end ≡ store l to width (band_cell d l before n p)
    band_laid to width {m} {k} {end} wide near e1 e2 e3 =
        let f : ℕ → A = band_cell d l before n p in
        let first : m ≡ store l to before f = e1 ∙ store_same l to before (λ (c : ℕ). d) f (λ c h. sym (gap_before c h)) in
        let middle = store_after_store l m k to before n f _ first e2 (λ c h. rw (one_step n c, store_read l m to before f (p + c) d first (omega arith)) (sym (cell_between c h))) in
        let at : to + before + n ≡ to + (before + n) = omega arith in
        let last = store_after_store l k end to (before + n) (width - before - n) f (λ (c : ℕ). d) middle (rw at at e3) (λ c h. sym (gap_after c)) in
        let all : before + n + (width - before - n) ≡ width = omega arith in
        rw all at last

  -- row i of the result: gaps only, or a band
  module _ (r o s : Row) (base i to : ℕ) {end : List A} where
    pub row_outside : row_inside r o s i ≡ false → end ≡ store l to r.r3 (λ (c : ℕ). d) → end ≡ store l to r.r3 (row_cell d l r o s base i)
    row_outside b e = e ∙ store_same l to r.r3 (λ (c : ℕ). d) (row_cell d l r o s base i) (λ c h. rw b)

    pub row_laid : {p : ℕ} → row_inside r o s i ≡ true → p ≡ row_start r o s base i → end ≡ store l to r.r3 (band_cell d l o.r3 s.r3 p)
        → end ≡ store l to r.r3 (row_cell d l r o s base i)
    row_laid {p} b q e = e ∙ store_same l to r.r3 (band_cell d l o.r3 s.r3 p) (row_cell d l r o s base i) (λ c h. rw (b, q))

-- ---- where a row begins

-- what the coordinates of a row that has cells of the source add, by the source's strides t
pub start_fits : (r o s : Row) (base i : ℕ) {t : Row} → Laid r o s → row_inside r o s i ≡ true → base + cells_of s < 2 ^ 64 → t ≡ strides_of s
    → base + ((i / r.r2 / r.r1 - o.r0) * t.r0 + ((i / r.r2 % r.r1 - o.r1) * t.r1 + (i % r.r2 - o.r2) * t.r2)) < 2 ^ 64
unfolding row_start
start_fits r o s base i laid b h e = rw e (omega (arith, row_in_source r o s i b base laid.extents.p3, h))

-- ---- rows one after another

-- a cell of a row by the place of the element
fetched : {A : Type 0} (d : A) (l m : List A) (a b : Bool) (x : ℕ) → (a ≡ true → b ≡ true → get_or m x d ≡ get_or l x d)
    → cond a (cond b (get_or m x d) d) d ≡ fetch d l (cond (a && b) (some x) none)
fetched d l m true true x h = h refl refl
fetched d l m true false x h = refl
fetched d l m false b x h = refl

-- after i rows, row i
pub pad_turn : {A : Type 0} (d : A) (l : List A) (r o s : Row) (base start i : ℕ) {m end : List A} → 0 < s.r3 → base + cells_of s ≤ start
    → m ≡ store l start (i * r.r3) (λ (j : ℕ). fetch d l (band_place r o s base j))
    → end ≡ store m (start + i * r.r3) r.r3 (row_cell d m r o s base i)
    → end ≡ store l start ((i + 1) * r.r3) (λ (j : ℕ). fetch d l (band_place r o s base j))
unfolding band_place
pad_turn d l r o s base start i {m} {end} some-cells near e f =
    store_block l m end start i r.r3 (λ (j : ℕ). fetch d l (band_place r o s base j)) (row_cell d m r o s base i) e f
    (λ c w.
    rw (digits_div i w, digits_mod i w)
    (fetched d l m (row_inside r o s i) (in_band o.r3 s.r3 c) (row_start r o s base i + (c - o.r3))
    (λ inside within.
    store_read l m start (i * r.r3) _ (row_start r o s base i + (c - o.r3)) d e
    (omega (arith, row_in_source r o s i inside base some-cells, (band_in o.r3 s.r3 c within).1, near)))))
