-- Rows moved one after another.
use Prim.Native.Nat.{ℕ, ◌+◌, ◌*◌, ◌<◌}
use native.Mathlib.Nat.{mul-zero, add-zero}
use mathlib.Core.Path.{◌≡◌, ◌∙◌}
use mathlib.Core.List.{List}
use lib.ListN.{length, get_or}
use Rattle.std.proofs.lemmas.List.{get_or_default}
use Rattle.laws.specs.Store.{store}
use Rattle.laws.proofs.Store.{store_block, store_read, store_same}
use Rattle.plan.specs.declared.Row.{Row}
use Rattle.views.specs.declared.View.{View}
use Rattle.views.specs.Views.{stride_of, step, rows_of, row_place, place, reach}
use Rattle.views.proofs.RowPlaces.{place_row, cell_below}

-- one cell again and again
still_step : (n j : ℕ) → step n (stride_of 0 0) j ≡ 0
unfolding step
still_step n j = rw (mul-zero, mul-zero)

pub still_filled : {A : Type 0} (d : A) (l : List A) (n p to : ℕ) {m : List A} {x : A} → p < length l → x ≡ get_or l p x → m ≡ store l to n (λ (j : ℕ). x)
    → m ≡ store l to n (λ (j : ℕ). get_or l (p + step n (stride_of 0 0) j) d)
still_filled d l n p to {m} {x} there read e =
    e ∙ store_same l to n _ _ (λ j h. read ∙ rw (still_step, add-zero) (get_or_default l p x d there))

-- after i rows, row i
pub move_turn : {A : Type 0} (d : A) (l : List A) (g : Row) (v : View) (start i : ℕ) {m end : List A} → reach g v < start → i < rows_of g
    → m ≡ store l start (i * g.r3) (λ (j : ℕ). get_or l (place g v j) d)
    → end ≡ store m (start + i * g.r3) g.r3 (λ (c : ℕ). get_or m (row_place g v i + step g.r3 v.s3 c) d)
    → end ≡ store l start ((i + 1) * g.r3) (λ (j : ℕ). get_or l (place g v j) d)
move_turn d l g v start i {m} {end} near few e f =
    store_block l m end start i g.r3 (λ (j : ℕ). get_or l (place g v j) d) (λ (c : ℕ). get_or m (row_place g v i + step g.r3 v.s3 c) d) e f
    (λ c w. rw (place_row g v i c w) (store_read l m start (i * g.r3) _ (row_place g v i + step g.r3 v.s3 c) d e (cell_below g v near i c few w)))
