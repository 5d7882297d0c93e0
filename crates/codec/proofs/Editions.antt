-- New operations in a table, and in what begins with it.
use Prim.Native.Nat.{ℕ, zero, suc, ◌+◌, ◌*◌, ◌<◌, ◌≤◌}
use mathlib.Core.Path.{◌≡◌, refl, sym, ap, ◌∙◌}
use mathlib.Core.Bool.{Bool, true, false, ◌&&◌, not, cond, false≢true}
use mathlib.Core.Logic.{◌⊎◌, inl, inr}
use mathlib.Core.List.{List, ◌++◌}
use native.Mathlib.Omega.{arith}
use borrow.Author.Tests.{ltb-false, ne_eqb}
use native.Mathlib.Numerals.{add-one}
use native.Mathlib.Nat.{add-zero}
use lib.IntN.{ℤ, pos}
use lib.ListN.{length, get_or, drop, get_or-append}
use lib.Seq.{sets, sets-eq, get_or-append-add}
use Rattle.std.specs.Prelude.{Result, Ok, Err, MatchResult}
use Rattle.plan.specs.declared.operations.Operation.{Operation}
use Rattle.plan.specs.declared.operations.UnknownOperation.{UnknownOperation}
use Rattle.plan.specs.Coded.{number_of, Decodes}
use Rattle.laws.specs.Lists.{all_below, among}
use Rattle.laws.proofs.Booleans.{bool_cases, and_true, all_below_lem, all_below_snoc}
use Rattle.plan.specs.Operations.{operation_count, is_new, is_operation, in_file}
use Rattle.plan.proofs.ByOperation.{operation_small}
use Rattle.plan.specs.Words.{size_of, size_at, words_of}
use Rattle.plan.proofs.Decoding.{word_at_lem}
use Rattle.codec.specs.declared.Edition.{Edition}
use Rattle.codec.specs.declared.Edition.TheVariants.{First, Second}
use Rattle.codec.specs.Plans.{none_new}
use Rattle.codec.specs.Steps.{edition_number}

-- every operation of a file is one
pub file_known : (edition op : ℕ) → in_file edition op ≡ true → op < operation_count
unfolding in_file
file_known edition op e = operation_small op (and_true (is_operation op) _ e).0

-- the operation of node i
abbrev op_in : List ℤ → ℕ → ℕ
op_in t i = size_of (get_or t (17 * i) (pos 0))

op_in_lem : (t : List ℤ) (i : ℕ) → size_at (words_of t i) 0 ≡ op_in t i
op_in_lem t i = ap size_of (word_at_lem t i 0 (omega arith) ∙ ap (λ (k : ℕ). get_or t k (pos 0)) (add-zero (17 * i)))

-- one node more
pub none_more : (t : List ℤ) (n : ℕ) → none_new t (n + 1) ≡ (none_new t n && not (is_new (op_in t n)))
unfolding none_new
none_more t n = rw (add-one, all_below_snoc n (λ (i : ℕ). not (is_new (size_at (words_of t i) 0))), op_in_lem t n) refl

none_next : (t t' : List ℤ) (n : ℕ) → none_new t n ≡ none_new t' n → get_or t (17 * n) (pos 0) ≡ get_or t' (17 * n) (pos 0) → none_new t (suc n) ≡ none_new t' (suc n)
none_next t t' n e h = rw (← add-one) (none_more t n ∙ rw (e, h) (sym (none_more t' n)))

-- the same operations
pub none_same : (t t' : List ℤ) (n : ℕ) → ((i : ℕ) → i < n → get_or t (17 * i) (pos 0) ≡ get_or t' (17 * i) (pos 0)) → none_new t n ≡ none_new t' n
unfolding none_new all_below
none_same t t' zero h = refl
none_same t t' (suc n) h = none_next t t' n (none_same t t' n (λ i l. h i (omega arith))) (h n (omega arith))

-- a table that begins with words u
pub get_or_front : (u before : List ℤ) (k : ℕ) → k < length u → length u ≤ length before → get_or (sets before 0 u) k (pos 0) ≡ get_or u k (pos 0)
get_or_front u before k h l =
    let room : 0 + length u ≤ length before = omega arith in
    rw (sets-eq u before 0 room) (get_or-append u (drop (0 + length u) before) (pos 0) k h)

-- a new one among nodes, and then one more: it is among the nodes, or is the one
pub new_among : (n : ℕ) (a b : List ℤ) → length a ≡ 17 * n → 0 < length b → none_new (a ++ b) (suc n) ≡ false → (none_new a n ≡ false) ⊎ (is_new (size_of (get_or b 0 (pos 0))) ≡ true)
new_among n a b long some e =
    let front : none_new (a ++ b) n ≡ none_new a n = none_same (a ++ b) a n (λ i h. get_or-append a b (pos 0) (17 * i) (omega arith)) in
    let last : get_or (a ++ b) (17 * n) (pos 0) ≡ get_or b 0 (pos 0) = ap (λ (k : ℕ). get_or (a ++ b) k (pos 0)) (sym long ∙ sym (add-zero (length a))) ∙ get_or-append-add a b 0 (pos 0) in
    let more : none_new (a ++ b) (n + 1) ≡ (none_new a n && not (is_new (size_of (get_or b 0 (pos 0))))) = none_more (a ++ b) n ∙ rw (front, last) refl in
    by (none_new a n) (is_new (size_of (get_or b 0 (pos 0)))) (sym more ∙ rw add-one e)
  where
    by : (c d : Bool) → (c && not d) ≡ false → (c ≡ false) ⊎ (d ≡ true)
    by false d e = inl refl
    by true true e = inr refl
    by true false e = absurd (false≢true (sym e))

-- ---- a loop over the nodes, whose operations are read by their bits

pub none_begun : (t : List ℤ) → none_new t 0 ≡ true
unfolding none_new all_below
none_begun t = refl

module _ (t : List ℤ) (i : ℕ) {w : ℤ} {op : ℕ} (at : w ≡ get_or t (17 * i) (pos 0)) (is : op ≡ size_of w) where
  here : is_new (op_in t i) ≡ is_new op
  here = sym (ap is_new (is ∙ ap size_of at))

  pub none_yet : none_new t i ≡ true → is_new op ≡ false → none_new t (i + 1) ≡ true
  none_yet e f = none_more t i ∙ rw (e, here, f) refl

  pub new_found : (count : ℕ) → i < count → is_new op ≡ true → ◌≡◌ {A = ℕ} 2 (cond (none_new t count) 1 2)
  unfolding none_new
  new_found count l f =
      bool_cases (none_new t count)
      (λ all.
      let old : not (is_new (size_at (words_of t i) 0)) ≡ true = all_below_lem count (λ (k : ℕ). not (is_new (size_at (words_of t k) 0))) all i l in
      absurd (false≢true (rw (op_in_lem t i, here, f) at old)))
      (λ some. rw some refl)

-- a number that no operation has
module _ (op : ℕ) (unknown : is_operation op ≡ false) where
  pub not_new : is_new op ≡ false
  unfolding is_operation is_new among
  not_new =
      let large : 24 ≤ op = ltb-false op 24 unknown in
      rw (ne_eqb op 21 (λ e. omega arith), ne_eqb op 22 (λ e. omega arith), ne_eqb op 23 (λ e. omega arith)) refl

  pub not_in_file : (edition : ℕ) → in_file edition op ≡ false
  unfolding in_file
  not_in_file edition = rw unknown refl

-- whether the operation that a number is decoded to is new
pub new_is : (n : ℕ) {b : Bool} (r : Result Operation UnknownOperation) → Decodes n r → MatchResult r (λ op. b ≡ is_new (number_of op)) (λ _. b ≡ false) → b ≡ is_new n
new_is n (Ok op) d h = h ∙ ap is_new d
new_is n (Err e) d h = h ∙ sym (not_new n d.1)

-- editions of the same number are the same
pub edition_same : (a b : Edition) → edition_number a ≡ edition_number b → a ≡ b
edition_same First First e = refl
edition_same First Second e = absurd (omega arith)
edition_same Second First e = absurd (omega arith)
edition_same Second Second e = refl
