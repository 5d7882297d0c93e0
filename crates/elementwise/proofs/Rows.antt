-- The rows of three views: numbers read while a buffer is written behind them, gaps cleared, a row in parts.
use Prim.Native.Nat.{ℕ, ◌+◌, ◌*◌, ◌-◌, ◌^◌, ◌≤◌, ◌<◌}
use mathlib.Core.Path.{◌≡◌, refl, sym, ap, ◌∙◌}
use mathlib.Core.List.{List}
use native.Mathlib.Nat.{add-zero, add-mul, mul-le-mul_right}
use native.Mathlib.Omega.{arith}
use lib.IntN.{ℤ, pos}
use lib.ListN.{length, get_or}
use borrow.Author.Tests.{ne_eqb}
use mir.Syntax.{w64}
use mir.Val.{SFits}
use Rattle.laws.specs.Store.{store}
use Rattle.laws.proofs.Machine.{Small, small_fits, read_back, read_back_is}
use Rattle.laws.proofs.Store.{store_read, store_hit, store_same, store_again, store_after_store}
use Rattle.plan.specs.declared.Row.{Row}
use Rattle.plan.specs.Operations.{WHERE}
use Rattle.views.specs.declared.Line.{Line}
use Rattle.views.specs.declared.Stride.{Stride}
use Rattle.views.specs.declared.View.{View}
use Rattle.views.specs.Views.{stride_of, step, span, rows_of, row_place, reach}
use Rattle.views.specs.Numbers.{SmallSeen}
use Rattle.views.proofs.RowPlaces.{row_below, cell_below, place_row, block_fits}
use Rattle.views.proofs.Steps.{step_le, row_le}
use Rattle.validity.specs.declared.Lines.{Lines}
use Rattle.validity.specs.Flags.{mix_flag, cleared_value}
use Rattle.validity.specs.Lines.{Before, along, cell_place, last_place, stepping, row_lines}
use Rattle.validity.proofs.Clearing.{both_cleared}
use Rattle.validity.proofs.Rows.{Kept, along_kept}
use Rattle.elementwise.specs.Mixing.{plain_value, mix_value, numbers_along, SmallAlong, Sources, Rising, lines_from}

pub small_back : {x : ℤ} → Small x → Small (read_back x)
small_back s = rw (read_back_is (small_fits s)) s

-- what an operation gives for three numbers that were read
pub numbers_read : (F : ℤ → ℤ → ℤ → ℤ) (vs : List ℤ) (r : Lines) (n i : ℕ) {x : ℤ × ℤ × ℤ} → SFits w64 x.0 → SFits w64 x.1 → SFits w64 x.2
    → x ≡ (get_or vs (cell_place n r.a i) (pos 0), get_or vs (cell_place n r.b i) (pos 0), get_or vs (cell_place n r.d i) (pos 0))
    → F (read_back x.0) (read_back x.1) (read_back x.2) ≡ numbers_along F vs r n i
numbers_read F vs r n i f g h e = rw (read_back_is f, read_back_is g, read_back_is h, e) refl

-- a number along a line, read while places from s on are written
pub number_kept : {vs ws : List ℤ} {s : ℕ} → Kept (pos 0) vs ws s → (l : Line) (n i : ℕ) {k : ℕ} → k ≡ cell_place n l i → last_place n l < s → i < n → SmallAlong vs n l
    → read_back (get_or ws k (pos 0)) ≡ get_or vs (cell_place n l i) (pos 0)
number_kept v l n i e near w t = rw (e, v.at (cell_place n l i) (omega (arith, step_le n l.stride i w))) (read_back_is (small_fits (t i w)))

-- a line that stays
stay_step : (n c : ℕ) → step n (stride_of 0 0) c ≡ 0
unfolding step
stay_step n c = omega arith

-- a row divided by the power that stands under its second line
pub power_row : (F : ℤ → ℤ → ℤ → ℤ) (vs end : List ℤ) (r : Lines) (l : Line) (to n k : ℕ) → r ≡ stepping r 1 0 → l ≡ record { place = r.a.place; stride = stride_of 1 0 }
    → SFits w64 (get_or vs r.b.place (pos 0)) → read_back (get_or vs r.b.place (pos 0)) ≡ pos (2 ^ k)
    → ((z : ℕ → ℤ) → end ≡ store vs to n (λ (j : ℕ). F (get_or vs (cell_place n l j) (pos 0)) (pos (2 ^ k)) (z j)))
    → end ≡ store vs to n (λ (j : ℕ). numbers_along F vs r n j)
power_row F vs end r l to n k e el f y h =
    let a : l ≡ r.a = el ∙ sym (ap (λ (q : Lines). q.a) e) in
    let b : r.b.stride ≡ stride_of 0 0 = ap (λ (q : Lines). q.b.stride) e in
    let p : pos (2 ^ k) ≡ get_or vs r.b.place (pos 0) = sym y ∙ read_back_is f in
    h (λ j. get_or vs (cell_place n r.d j) (pos 0)) ∙ store_same vs to n _ _ (λ j w. rw (a, b, stay_step n j, add-zero, p) refl)

-- ---- the numbers of a row, then 0 in its gaps: vs₁ are the numbers whatever the flags, gs the flags of the result

module _ (op : ℕ) (vs vs₁ vs₂ : List ℤ) (fs gs : List ℕ) (s n : ℕ) (r : Lines) (near : Before r n s) (room : s + n ≤ length vs) (room-flags : s + n ≤ length fs)
    (e : vs₁ ≡ store vs s n (λ (j : ℕ). numbers_along (plain_value op) vs r n j)) (eg : gs ≡ store fs s n (λ (j : ℕ). along (mix_flag op) vs fs r n j)) where
  -- by the condition's flags
  pub where_mixed : op ≡ WHERE → vs₂ ≡ store vs₁ s n (λ (j : ℕ). cleared_value (get_or gs (cell_place n r.a j) 0) (get_or vs₁ (s + j) (pos 0)))
      → vs₂ ≡ store vs s n (λ (j : ℕ). along (mix_value op) vs fs r n j)
  unfolding mix_value
  where_mixed is h =
      store_again vs vs₁ vs₂ s n _ _ _ e h
      (λ k w. rw (store_hit vs vs₁ s n _ k (pos 0) e w room, store_read fs gs s n _ (cell_place n r.a k) 0 eg (omega (arith, step_le n r.a.stride k w, near.a)), is) refl)

  -- by the result's
  pub both_mixed : (op ≡ WHERE → ⊥) → vs₂ ≡ store vs₁ s n (λ (j : ℕ). cleared_value (get_or gs (s + j) 0) (get_or vs₁ (s + j) (pos 0)))
      → vs₂ ≡ store vs s n (λ (j : ℕ). along (mix_value op) vs fs r n j)
  unfolding mix_value
  both_mixed not h = both_cleared vs vs₁ vs₂ fs gs s n _ _ room room-flags e eg h ∙ store_same vs s n _ _ (λ k w. rw (ne_eqb op WHERE not) refl)

-- ---- a part of a row, m cells from cell i on, of lines that do not go down

module _ (s : Stride) (flat : s.down ≡ 0) (n m i : ℕ) (fits : i + m ≤ n) where
  part_place : (p c : ℕ) → p + step n s i + step m s c ≡ p + step n s (i + c)
  unfolding step
  part_place p c = rw (flat, add-mul) (omega arith)

  part_below : (p to : ℕ) → 0 < m → p + span n s < to → p + step n s i + span m s < to + i
  unfolding span step
  part_below p to few h =
      let e : (n - 1) * (s.up + s.down) ≡ (n - 1) * s.up = rw (flat, add-zero) in
      let e' : (m - 1) * (s.up + s.down) ≡ (m - 1) * s.up = rw (flat, add-zero) in
      let t : (i + (m - 1)) * s.up ≤ (n - 1) * s.up = mul-le-mul_right s.up (omega arith) in
      rw flat (omega (arith, e, e', t, add-mul i (m - 1) s.up))

  small_part : {vs ws : List ℤ} {to : ℕ} (p : ℕ) → Kept (pos 0) vs ws to → p + span n s < to → SmallAlong vs n (record { place = p; stride = s })
      → SmallAlong ws m (record { place = p + step n s i; stride = s })
  small_part {to = to} p v h t c w =
      let l : p + step n s (i + c) < to = omega (arith, step_le n s (i + c) (omega arith)) in
      rw (part_place p c, v.at _ l) (t (i + c) (omega arith))

pub part_sources : {vs ws : List ℤ} {to : ℕ} → Kept (pos 0) vs ws to → (r : Lines) → Rising r → (n m i : ℕ) → i + m ≤ n → 0 < m → Sources vs r n to → Sources ws (lines_from r n i) m (to + i)
part_sources {to = to} v r up n m i fits few h =
    record {
      before = record {
        a = part_below r.a.stride up.a n m i fits r.a.place to few h.before.a;
        b = part_below r.b.stride up.b n m i fits r.b.place to few h.before.b;
        d = part_below r.d.stride up.d n m i fits r.d.place to few h.before.d;
      };
      a = small_part r.a.stride up.a n m i fits r.a.place v h.before.a h.a;
      b = small_part r.b.stride up.b n m i fits r.b.place v h.before.b h.b;
    }

module _ {vs ws : List ℤ} {fs gs : List ℕ} {to : ℕ} (v : Kept (pos 0) vs ws to) (f : Kept 0 fs gs to) {C : Type 0} (F : ℤ → ℕ → ℤ → ℕ → ℤ → ℕ → C) where
  -- after i cells the next m
  pub part_turn : (r : Lines) → Rising r → (n m i : ℕ) → i + m ≤ n → Before r n to → (l l' end : List C)
      → l' ≡ store l to i (λ (j : ℕ). along F vs fs r n j) → end ≡ store l' (to + i) m (λ (c : ℕ). along F ws gs (lines_from r n i) m c)
      → end ≡ store l to (i + m) (λ (j : ℕ). along F vs fs r n j)
  part_turn r up n m i fits near l l' end e h =
      store_after_store l l' end to i m _ _ e h
      (λ c w.
      rw (part_place r.a.stride up.a n m i fits r.a.place c, part_place r.b.stride up.b n m i fits r.b.place c, part_place r.d.stride up.d n m i fits r.d.place c)
      (along_kept v f F r n (i + c) near (omega arith)))

-- the numbers along row i
pub small_row : {vs ws : List ℤ} {s : ℕ} → Kept (pos 0) vs ws s → (g : Row) (a : View) (i : ℕ) → SmallSeen vs g a → reach g a < s → i < rows_of g
    → SmallAlong ws g.r3 (record { place = row_place g a i; stride = a.s3 })
small_row v g a i t near few j w =
    let h = cell_below g a near i j few w in
    let there : i * g.r3 + j < rows_of g * g.r3 = omega (arith, block_fits i (rows_of g) g.r3 few) in
    rw (v.at _ h, ← place_row g a i j w) (t (i * g.r3 + j) there)

-- row i of three views, written after the rows before it
pub row_sources : {vs ws : List ℤ} {s : ℕ} → Kept (pos 0) vs ws s → (g : Row) (a b d : View) (i : ℕ) → reach g a < s → reach g b < s → reach g d < s → i < rows_of g
    → SmallSeen vs g a → SmallSeen vs g b → Sources ws (row_lines g a b d i) g.r3 (s + i * g.r3)
row_sources v g a b d i ha hb hd few sa sb =
    record {
      before = record {
        a = omega (arith, row_below g a ha (row_le g i few a));
        b = omega (arith, row_below g b hb (row_le g i few b));
        d = omega (arith, row_below g d hd (row_le g i few d));
      };
      a = small_row v g a i sa ha few;
      b = small_row v g b i sb hb few;
    }
