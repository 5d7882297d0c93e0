-- Cells of three views read while a buffer is written behind them, and their rows one after another.
use Prim.Native.Nat.{ℕ, ◌+◌, ◌*◌, ◌≤◌, ◌<◌}
use mathlib.Core.Path.{◌≡◌, refl, ap, ◌∙◌}
use mathlib.Core.Bool.{Bool, true, false, cond, ◌&&◌}
use mathlib.Core.List.{List, append-nil, append_assoc}
use Rattle.std.proofs.lemmas.List.{drop_all, drop-drop}
use native.Mathlib.Nat.{zero-add}
use native.Mathlib.Omega.{arith}
use lib.Dec.{eqb}
use lib.IntN.{ℤ, pos}
use lib.ListN.{length, get_or}
use borrow.Author.Tests.{ne_eqb}
use Rattle.laws.specs.Integers.{same_z}
use Rattle.laws.specs.Lists.{tab}
use Rattle.laws.specs.Store.{store}
use borrow.Rule.Slice.PartMut.{put_mid}
use Rattle.laws.proofs.Store.{store_block, store_read, store_same, store_again, store_hit, store_tab}
use Rattle.plan.specs.declared.Row.{Row}
use Rattle.plan.specs.Operations.{ADD, WHERE}
use Rattle.plan.specs.declared.operations.Operation.{Operation}
use Rattle.plan.specs.declared.operations.Operation.TheVariants.{Where}
use Rattle.plan.specs.Coded.{number_of}
use Rattle.views.specs.declared.View.{View}
use Rattle.views.specs.Views.{stride_of, step, rows_of, place, reach}
use Rattle.views.proofs.RowPlaces.{place_row, cell_below}
use Rattle.views.proofs.Steps.{step_le}
use Rattle.validity.specs.Flags.{mix_flag, side_of, side_flag, chosen_flag, three}
use Rattle.validity.specs.declared.Lines.{Lines}
use Rattle.validity.specs.Lines.{row_lines, Before, along, cell_place}

-- m has what l has before place s
pub record Kept {A : Type 0} (d : A) (l m : List A) (s : ℕ) : Type 0 where
  pub at : (k : ℕ) → k < s → get_or m k d ≡ get_or l k d

module _ {A : Type 0} (d : A) where
  pub kept : (l m : List A) (s n : ℕ) (f : ℕ → A) → m ≡ store l s n f → Kept d l m s
  kept l m s n f e = record { at = λ k h. store_read l m s n f k d e h }

  pub kept_all : (l : List A) (s : ℕ) → Kept d l l s
  kept_all l s = record { at = λ k h. refl }

module _ {vs ws : List ℤ} {s : ℕ} (v : Kept (pos 0) vs ws s) where
  module _ {fs gs : List ℕ} (f : Kept 0 fs gs s) {C : Type 0} (F : ℤ → ℕ → ℤ → ℕ → ℤ → ℕ → C) where
    -- three cells
    pub three_kept : (p q u : ℕ) → p < s → q < s → u < s → three F ws gs p q u ≡ three F vs fs p q u
    three_kept p q u hp hq hu = rw (v.at p hp, f.at p hp, v.at q hq, f.at q hq, v.at u hu, f.at u hu)

    pub along_kept : (r : Lines) (n i : ℕ) → Before r n s → i < n → along F ws gs r n i ≡ along F vs fs r n i
    along_kept r n i h w =
        three_kept _ _ _ (omega (arith, step_le n r.a.stride i w, h.a)) (omega (arith, step_le n r.b.stride i w, h.b)) (omega (arith, step_le n r.d.stride i w, h.d))

    -- after i rows, row i
    pub mix_turn : (g : Row) (a b d : View) (l m end : List C) (i : ℕ) → reach g a < s → reach g b < s → reach g d < s → i < rows_of g
        → m ≡ store l s (i * g.r3) (λ (j : ℕ). three F vs fs (place g a j) (place g b j) (place g d j))
        → end ≡ store m (s + i * g.r3) g.r3 (λ (c : ℕ). along F ws gs (row_lines g a b d i) g.r3 c)
        → end ≡ store l s ((i + 1) * g.r3) (λ (j : ℕ). three F vs fs (place g a j) (place g b j) (place g d j))
    mix_turn g a b d l m end i na nb nd few e h =
        store_block l m end s i g.r3 _ _ e h
        (λ c w.
        rw (place_row g a i c w, place_row g b i c w, place_row g d i c w)
        (three_kept _ _ _ (cell_below g a na i c few w) (cell_below g b nb i c few w) (cell_below g d nd i c few w)))

module _ {A : Type 0} (l : List A) (s : ℕ) (f : ℕ → A) where
  -- a whole list written, and a part in one go
  pub whole : (n : ℕ) → length l ≡ n → store l 0 n f ≡ tab n f
  whole n h = store_tab l 0 n f (omega (arith, h)) ∙ rw (zero-add, drop_all n l (omega (arith, h)), append-nil) refl

  pub put : (k n : ℕ) (v : List A) → s + n ≤ length l → k ≡ n → v ≡ tab n f → put_mid s k l v ≡ store l s n f
  put k n v room e h = rw (e, h, store_tab l s n f room, drop-drop, append_assoc) refl

-- what was read at cell i of three lines that end before place s
pub cells_kept : {A : Type 0} {d : A} {l m : List A} {s : ℕ} → Kept d l m s → (r : Lines) (n i : ℕ) → Before r n s → i < n → {x : A × A × A}
    → x ≡ (get_or m (cell_place n r.a i) d, get_or m (cell_place n r.b i) d, get_or m (cell_place n r.d i) d)
    → x ≡ (get_or l (cell_place n r.a i) d, get_or l (cell_place n r.b i) d, get_or l (cell_place n r.d i) d)
cells_kept v r n i h w e =
    rw (
      ← v.at (cell_place n r.a i) (omega (arith, step_le n r.a.stride i w, h.a)),
      ← v.at (cell_place n r.b i) (omega (arith, step_le n r.b.stride i w, h.b)),
      ← v.at (cell_place n r.d i) (omega (arith, step_le n r.d.stride i w, h.d)),
    ) e

-- what those cells give, from a number and three flags that were read
pub along_read : {C : Type 0} (F : ℤ → ℕ → ℤ → ℕ → ℤ → ℕ → C) (vs : List ℤ) (fs : List ℕ) (r : Lines) (n i : ℕ) {x : ℤ} {f : ℕ × ℕ × ℕ} → x ≡ get_or vs (cell_place n r.a i) (pos 0)
    → f ≡ (get_or fs (cell_place n r.a i) 0, get_or fs (cell_place n r.b i) 0, get_or fs (cell_place n r.d i) 0)
    → F x f.0 (get_or vs (cell_place n r.b i) (pos 0)) f.1 (get_or vs (cell_place n r.d i) (pos 0)) f.2 ≡ along F vs fs r n i
along_read F vs fs r n i ex ef = rw (ex, ef) refl

pub chosen_read : (fs gs : List ℕ) (t k l m : ℕ) {f : ℕ × ℕ × ℕ} → get_or gs t 0 ≡ get_or fs t 0 → f ≡ (get_or fs k 0, get_or fs l 0, get_or fs m 0) → side_flag (get_or gs t 0) f.0 f.1 f.2 ≡ chosen_flag fs t k l m
chosen_read fs gs t k l m here e = rw (here, e) refl

-- no other operation has the number of WHERE
pub other_number : (op : Operation) → (op ≡ Where → ⊥) → number_of op ≡ WHERE → ⊥
other_number op h e = grind arith

-- the flags of all binary operations are those of ADD
pub flags_alike : (op : ℕ) → (op ≡ WHERE → ⊥) → (vs : List ℤ) (fs l m : List ℕ) (s n : ℕ) (r : Lines) (k : ℕ)
    → m ≡ store l s n (along (mix_flag ADD) vs fs r k) → m ≡ store l s n (along (mix_flag op) vs fs r k)
unfolding mix_flag
flags_alike op other vs fs l m s n r k e = e ∙ store_same l s n _ _ (λ j w. rw (ne_eqb op WHERE other) refl)

-- ---- WHERE: the sides first, then the flags in their places

-- a side, of a number read at k, where the one at p is
pub side_read : (vs : List ℤ) {k p : ℕ} {x : ℤ} → x ≡ get_or vs k (pos 0) → k ≡ p → side_of x ≡ side_of (get_or vs p (pos 0))
side_read vs ex ep = rw (ex, ep)

-- a row that goes from place to place
pub unit_step : (n c : ℕ) → step n (stride_of 1 0) c ≡ c
unfolding step
unit_step n c = omega arith

pub side_chosen : (x y z : ℤ) (f g h : ℕ) → side_flag (side_of x) f g h ≡ mix_flag 18 x f y g z h
unfolding mix_flag
side_chosen x y z f g h = ap (λ (r : ℕ). cond (eqb f 1) r 0) (by_side (same_z x (pos 0)))
  where
    by_side : (b : Bool) → cond (eqb (cond b 0 1) 0) h g ≡ cond b h g
    by_side true = refl
    by_side false = refl

pub both_chosen : (op : ℕ) (x y z : ℤ) (f g h : ℕ) → (op ≡ WHERE → ⊥) → cond (eqb f 1 && eqb g 1) 1 0 ≡ mix_flag op x f y g z h
unfolding mix_flag
both_chosen op x y z f g h other = rw (ne_eqb op WHERE other) refl

-- the sides, and the flags over them
pub where_done : (vs : List ℤ) (fs gs end : List ℕ) (s n : ℕ) (r : Lines) → s + n ≤ length fs → Before r n s
    → gs ≡ store fs s n (λ (j : ℕ). side_of (get_or vs (cell_place n r.a j) (pos 0)))
    → end ≡ store gs s n (λ (j : ℕ). chosen_flag gs (s + j) (cell_place n r.a j) (cell_place n r.b j) (cell_place n r.d j))
    → end ≡ store fs s n (along (mix_flag WHERE) vs fs r n)
where_done vs fs gs end s n r room near e h =
    let v = kept 0 fs gs s n _ e in
    store_again fs gs end s n _ _ _ e h
    (λ k w.
    rw (store_hit fs gs s n _ k 0 e w room, v.at (cell_place n r.a k) (omega (arith, step_le n r.a.stride k w, near.a)), v.at (cell_place n r.b k) (omega (arith, step_le n r.b.stride k w, near.b)), v.at (cell_place n r.d k) (omega (arith, step_le n r.d.stride k w, near.d)))
    (side_chosen (get_or vs (cell_place n r.a k) (pos 0)) _ _ _ _ _))
