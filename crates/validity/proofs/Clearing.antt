-- A row under its flags: 0 in the gaps, and nothing to do where there is none.
use Prim.Native.Nat.{ℕ, ◌+◌, ◌≤◌, ◌<◌}
use mathlib.Core.Path.{◌≡◌, refl, sym, ◌∙◌}
use mathlib.Core.Bool.{Bool, true, ◌&&◌}
use mathlib.Core.List.{List}
use mathlib.Core.Logic.{⊎_elim}
use native.Mathlib.Nat.{eq-or-lt_of_le}
use native.Mathlib.Omega.{arith}
use borrow.Author.Tests.{leb-true}
use lib.Dec.{leb}
use lib.IntN.{ℤ, pos}
use lib.ListN.{length, get_or}
use Rattle.laws.specs.Store.{store}
use Rattle.laws.proofs.Booleans.{and_true}
use Rattle.laws.proofs.Store.{store_hit, store_same, store_own, store_again}
use Rattle.views.specs.Views.{stride_of, step, span}
use Rattle.validity.proofs.Rows.{unit_step}
use Rattle.validity.specs.Flags.{cleared_value}

-- one more flag is from `low` to 1
pub flags_more : (fs : List ℕ) (p i low : ℕ) (b : Bool) → (b ≡ true → (j : ℕ) → j < i → (low ≤ get_or fs (p + j) 0) × (get_or fs (p + j) 0 ≤ 1))
    → (b && (leb low (get_or fs (p + i) 0) && leb (get_or fs (p + i) 0) 1)) ≡ true → (j : ℕ) → j < i + 1 → (low ≤ get_or fs (p + j) 0) × (get_or fs (p + j) 0 ≤ 1)
flags_more fs p i low b h e j w =
    let all = and_true b _ e in
    let both = and_true (leb low (get_or fs (p + i) 0)) _ all.1 in
    ⊎_elim
    (λ (q : j ≡ i). rw q (leb-true low _ both.0, leb-true _ 1 both.1))
    (λ (q : j < i). h all.0 j q)
    (eq-or-lt_of_le (omega arith))

-- n cells from place to place, by their span
pub unit_room : (n p m : ℕ) → p + span n (stride_of 1 0) < m → p + n ≤ m
unfolding span
unit_room n p m h = omega arith

pub unit_near : (n p m : ℕ) → p + n ≤ m → 0 < n → p + span n (stride_of 1 0) < m
unfolding span
unit_near n p m h some = omega arith

-- a number under a flag, read at k, where the one at p is
pub cleared_read : (fs : List ℕ) {k p : ℕ} {x y : ℤ} → x ≡ y → k ≡ p → cleared_value (get_or fs k 0) x ≡ cleared_value (get_or fs p 0) y
cleared_read fs ex ep = rw (ex, ep)

-- where every flag is 1, a row stays as it is
pub all_kept : (vs : List ℤ) (fs : List ℕ) (n p to : ℕ) → ((j : ℕ) → j < n → (1 ≤ get_or fs (p + j) 0) × (get_or fs (p + j) 0 ≤ 1))
    → vs ≡ store vs to n (λ (j : ℕ). cleared_value (get_or fs (p + j) 0) (get_or vs (to + j) (pos 0)))
all_kept vs fs n p to h =
    sym (store_own vs to n (pos 0)) ∙ store_same vs to n _ _ (λ j w. let e : get_or fs (p + j) 0 ≡ 1 = omega (arith, h j w) in rw e refl)

-- the flags taken from place to place
pub unit_cleared : (vs end : List ℤ) (fs : List ℕ) (n p to : ℕ) → end ≡ store vs to n (λ (j : ℕ). cleared_value (get_or fs (p + j) 0) (get_or vs (to + j) (pos 0)))
    → end ≡ store vs to n (λ (j : ℕ). cleared_value (get_or fs (p + step n (stride_of 1 0) j) 0) (get_or vs (to + j) (pos 0)))
unit_cleared vs end fs n p to e = e ∙ store_same vs to n _ _ (λ j w. rw (unit_step n j))

pub own_cleared : (vs end : List ℤ) (fs : List ℕ) (n to : ℕ) → end ≡ store vs to n (λ (j : ℕ). cleared_value (get_or fs (to + step n (stride_of 1 0) j) 0) (get_or vs (to + j) (pos 0)))
    → end ≡ store vs to n (λ (j : ℕ). cleared_value (get_or fs (to + j) 0) (get_or vs (to + j) (pos 0)))
own_cleared vs end fs n to e = e ∙ store_same vs to n _ _ (λ j w. rw (unit_step n j))

-- numbers x over l, flags b over fs, and the numbers cleared by them
pub both_cleared : (l m m' : List ℤ) (fs fs' : List ℕ) (s n : ℕ) (x : ℕ → ℤ) (b : ℕ → ℕ) → s + n ≤ length l → s + n ≤ length fs → m ≡ store l s n x → fs' ≡ store fs s n b
    → m' ≡ store m s n (λ (j : ℕ). cleared_value (get_or fs' (s + j) 0) (get_or m (s + j) (pos 0))) → m' ≡ store l s n (λ (j : ℕ). cleared_value (b j) (x j))
both_cleared l m m' fs fs' s n x b room room-flags e q h =
    store_again l m m' s n x _ _ e h (λ k w. rw (store_hit l m s n x k (pos 0) e w room, store_hit fs fs' s n b k 0 q w room-flags))
