-- The editions of a file: the bytes that name each, the operations that it may hold, and which of them are new.
use Prim.Native.Nat.{ℕ, zero, suc, ◌*◌, ◌/◌, ◌<◌, ◌≤◌, suc-le-suc}
use mathlib.Core.Path.{◌≡◌, refl, ap, sym, ◌∙◌}
use mathlib.Core.Bool.{Bool, true, false, ◌&&◌, not, false≢true}
use mathlib.Core.List.{List}
use native.Mathlib.Omega.{arith}
use native.Mathlib.Nat.{zero-lt-suc}
use borrow.Author.Tests.{ltb-true, lt-ltb, eqb-true, eq-eqb, leb-true, leb-false}
use lib.IntN.{ℤ, pos, negsuc}
use lib.Dec.{eqb, leb, ltb}
use lib.ListN.{length, get_or}
use Rattle.laws.specs.Lists.{all_below, among}
use Rattle.laws.proofs.Booleans.{bool_cases, cond_both, and_true, and_true_of, all_below_lem, on}
use Rattle.laws.proofs.Parts.{arithℤ}
use Rattle.plan.specs.Operations.{new_operations, is_new, is_operation, in_file}
use Rattle.plan.specs.Words.{size_of, size_at, words_of, node_count}
use Rattle.plan.specs.Answers.{accepted, refuse, need}
use Rattle.plan.proofs.ByOperation.{◌then◌, for_group, for_range}
use Rattle.plan.proofs.Decoding.{word_at_lem}
use Rattle.codec.specs.Plans.{header_of, edition_at, none_new, edition_of}
use Rattle.codec.proofs.Bounds.{Holds}
use Rattle.codec.proofs.Editions.{file_known}
use Rattle.guarantees.specs.Demand3.{word}
use Rattle.guarantees.specs.Rules.{Exactly, From}
use Rattle.guarantees.specs.Unpacks.{Opens, first_edition, second_edition, OperationIn, New, UnpackRefuses, bad_opening}
use Rattle.guarantees.proofs.Runs.{not_true}

-- ---- new operations

new_from : (o : ℕ) → is_new o ≡ true → (21 ≤ o) × (o ≤ 23)
unfolding is_new
new_from o = for_group (λ (k : ℕ). (21 ≤ k) × (k ≤ 23)) o new_operations ((omega arith, omega arith) then (omega arith, omega arith) then (omega arith, omega arith) then tt)

from_new : (o : ℕ) → 21 ≤ o → o ≤ 23 → is_new o ≡ true
unfolding is_new among
from_new o low high = for_range (λ (k : ℕ). is_new k ≡ true) o 21 3 (refl then refl then refl then tt) low (omega arith)

new_word : (w : ℤ) → Exactly (is_new (size_of w) ≡ true) (From (pos 21) (pos 23) w)
unfolding size_of
new_word (pos k) = (λ e. let h = new_from k e in (omega (arithℤ, h.0), omega (arithℤ, h.1)), λ h. from_new k (omega (arithℤ, h.0)) (omega (arithℤ, h.1)))
new_word (negsuc k) = (λ e. absurd (omega (arith, (new_from _ e).1)), λ h. absurd (omega (arithℤ, h.0)))

new_node : (t : List ℤ) (n : ℕ) → Exactly (is_new (size_at (words_of t n) 0) ≡ true) (New t n)
new_node t n =
    let size : is_new (size_at (words_of t n) 0) ≡ is_new (size_of (word t n 0)) = ap (λ (w : ℤ). is_new (size_of w)) (word_at_lem t n 0 (omega arith)) in
    let w = new_word (word t n 0) in
    (λ e. w.0 (sym size ∙ e), λ h. size ∙ w.1 h)

-- ---- a table's edition

-- a test that does not hold of all numbers below n fails for one of them
some_fails : (n : ℕ) (p : ℕ → Bool) → all_below n p ≡ false → (k : ℕ) × (k < n) × (p k ≡ false)
unfolding all_below
some_fails zero p e = absurd (false≢true (sym e))
some_fails (suc n) p e =
    bool_cases (p 0) (λ a. let w = some_fails n (λ (j : ℕ). p (suc j)) (rw a at e) in (suc w.0, suc-le-suc w.1, w.2)) (λ a. (0, zero-lt-suc n, a))

-- one of the first m nodes of a table is new
abbrev pub SomeNew : List ℤ → ℕ → Type 0
SomeNew t m = (n : ℕ) × (n < m) × New t n

-- the edition of a table of m nodes
edition_cases : {G : Type 0} (t : List ℤ) (m : ℕ) → length t ≡ 17 * m → (edition_of t ≡ 1 → (SomeNew t m → ⊥) → G) → (edition_of t ≡ 2 → SomeNew t m → G) → G
unfolding edition_of none_new node_count
edition_cases t m long f g =
    let nodes : length t / 17 ≡ m = omega arith in
    let test : ℕ → Bool = λ i. not (is_new (size_at (words_of t i) 0)) in
    bool_cases (none_new t m)
    (λ e. f (rw (nodes, e) refl) (λ w. false≢true (rw ((new_node t w.0).1 w.2) at (all_below_lem m test e w.0 w.1))))
    (λ e.
    let w = some_fails m test e in
    g (rw (nodes, e) refl) (w.0, w.1, (new_node t w.0).0 (on (is_new (size_at (words_of t w.0) 0)) refl w.2)))

-- ---- a file's edition

pub opening_holds : (s : List ℕ) (room : ℕ) → Holds (λ (edition : ℕ). Opens s edition (length (header_of edition))) (UnpackRefuses s room) (edition_at s)
unfolding edition_at
opening_holds s room =
    let P : ℕ → Type 0 = λ edition. Opens s edition (length (header_of edition)) in
    let R = UnpackRefuses s room in
    cond_both (Holds P R) (ltb 0 (length s) && eqb (get_or s 0 0) 0) (need (ltb 1 (length s) && eqb (get_or s 1 0) 2) 23 0 (accepted 2)) (accepted 1)
    (λ e.
    let x = and_true (ltb 0 (length s)) (eqb (get_or s 0 0) 0) e in
    let some : 0 < length s = ltb-true 0 (length s) x.0 in
    let zeroth : get_or s 0 0 ≡ 0 = eqb-true (get_or s 0 0) 0 x.1 in
    cond_both (Holds P R) (ltb 1 (length s) && eqb (get_or s 1 0) 2) (accepted 2) (refuse 23 0)
    (λ f. let y = and_true (ltb 1 (length s)) (eqb (get_or s 1 0) 2) f in second_edition (ltb-true 1 (length s) y.0) zeroth (eqb-true (get_or s 1 0) 2 y.1))
    (λ f. bad_opening some zeroth (λ l z. false≢true (sym f ∙ and_true_of _ _ (lt-ltb 1 (length s) l) (eq-eqb (get_or s 1 0) 2 z)))))
    (λ e. first_edition (λ l z. false≢true (sym e ∙ and_true_of _ _ (lt-ltb 0 (length s) l) (eq-eqb (get_or s 0 0) 0 z))))

module _ {s : List ℕ} where
  pub edition_is : {edition at : ℕ} → Opens s edition at → edition_at s ≡ accepted edition
  unfolding edition_at
  edition_is (first_edition h) =
      let other : (ltb 0 (length s) && eqb (get_or s 0 0) 0) ≡ false = not_true (λ e. let y = and_true (ltb 0 (length s)) (eqb (get_or s 0 0) 0) e in h (ltb-true 0 (length s) y.0) (eqb-true (get_or s 0 0) 0 y.1)) in
      rw other refl
  edition_is (second_edition l a b) = let some : 0 < length s = omega arith in rw (lt-ltb 0 (length s) some, a, lt-ltb 1 (length s) l, b) refl

  pub header_is : {edition at : ℕ} → Opens s edition at → length (header_of edition) ≡ at
  header_is (first_edition h) = refl
  header_is (second_edition l a b) = refl

  pub first_of : {edition at : ℕ} → Opens s edition at → (edition ≡ 2 → ⊥) → Opens s 1 0
  first_of (first_edition h) bad = first_edition h
  first_of (second_edition l a b) bad = absurd (bad refl)

  pub second_of : {edition at : ℕ} → Opens s edition at → (edition ≡ 1 → ⊥) → Opens s 2 2
  second_of (first_edition h) bad = absurd (bad refl)
  second_of (second_edition l a b) bad = second_edition l a b

  -- its operations
  pub in_file_lem : {edition at : ℕ} → Opens s edition at → (o : ℕ) → Exactly (in_file edition o ≡ true) (OperationIn edition o)
  unfolding in_file is_operation
  in_file_lem (first_edition h) o = (
    λ e. (
      λ _.
          bool_cases (leb o 20) (leb-true o 20)
          (λ b. absurd (false≢true (rw (from_new o (omega (arith, leb-false o 20 b)) (omega (arith, file_known 1 o e))) at (and_true (ltb o 24) (not (is_new o)) e).1))),
      λ q. absurd (omega (arith, q)),
    ),
    λ k.
        let low : o ≤ 20 = k.0 refl in
        and_true_of (ltb o 24) (not (is_new o)) (lt-ltb o 24 (omega arith)) (bool_cases (is_new o) (λ e. absurd (omega (arith, (new_from o e).0))) (λ e. rw e refl)),
  )
  in_file_lem (second_edition l a b) o = (λ e. (λ q. absurd (omega (arith, q)), λ _. omega (arith, file_known 2 o e)), λ k. let low : o ≤ 23 = k.1 refl in and_true_of (ltb o 24) true (lt-ltb o 24 (omega arith)) refl)

  pub known : {edition at o : ℕ} → Opens s edition at → OperationIn edition o → o ≤ 23
  known {edition} {o = o} opens h = omega (arith, file_known edition o ((in_file_lem opens o).1 h))

  -- "it must hold at least one new operation": 26 is not due exactly then; a first edition file holds none
  pub own_edition : {edition at : ℕ} → Opens s edition at → (t : List ℤ) (m : ℕ) → length t ≡ 17 * m → (edition ≡ 1 → SomeNew t m → ⊥)
      → Exactly (eqb edition (edition_of t) ≡ true) (edition ≡ 2 → SomeNew t m)
  own_edition (first_edition h) t m long none = (
    λ q two. absurd (omega (arith, two)),
    λ w. edition_cases t m long (λ e bad. eq-eqb 1 (edition_of t) (sym e)) (λ e some. absurd (none refl some)),
  )
  own_edition (second_edition l a b) t m long none = (
    λ q two. edition_cases t m long (λ e bad. absurd (omega (arith, e, eqb-true 2 (edition_of t) q))) (λ e some. some),
    λ w. edition_cases t m long (λ e bad. absurd (bad (w refl))) (λ e some. eq-eqb 2 (edition_of t) (sym e)),
  )
