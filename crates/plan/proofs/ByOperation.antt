-- What holds of each row of a table holds of every operation.
use Prim.Native.Nat.{ℕ, zero, suc, ◌+◌, ◌<◌, ◌≤◌}
use mathlib.Core.Path.{◌≡◌, refl, sym, subst}
use mathlib.Core.Bool.{Bool, true, false, ◌&&◌, ◌||◌, not, cond, false≢true}
use mathlib.Core.Logic.{⊎_elim}
use mathlib.Core.List.{List, [], ◌∷◌, ◌++◌}
use native.Mathlib.Omega.{arith}
use native.Mathlib.Nat.{eq-or-lt_of_le}
use borrow.Author.Tests.{eqb-true, ltb-true, ne_eqb}
use lib.Dec.{eqb}
use Rattle.laws.specs.Lists.{among}
use Rattle.laws.proofs.Booleans.{or_true, cond_both, all_below_lem}
use Rattle.plan.specs.declared.Node.{Node}
use Rattle.plan.specs.Operations.{Entry, ◌⇒◌, by_operation, operations_of, covers_all, operation_count, is_operation, uses, followed, IDIV, MOD, STACK}
use Rattle.plan.specs.Words.{size_of, in_number, reads}

-- P holds of each row's value where the row is the operation's
abbrev pub EachRow : {A : Type 0} → (A → Type 0) → ℕ → List (Entry A) → Type 0
EachRow P op [] = Unit
EachRow P op ((ops ⇒ a) ∷ rows) = (among op ops ≡ true → P a) × EachRow P op rows

-- one row's answer before those of the other rows
infixr 30 ◌then◌
abbrev pub ◌then◌ : {A B : Type 0} → A → B → A × B
a then b = (a, b)

pub by_rows : {A : Type 0} (P : A → Type 0) (op : ℕ) (rows : List (Entry A)) (other : A) → EachRow P op rows → P other → P (by_operation op rows other)
by_rows P op [] other h p = p
by_rows P op ((ops ⇒ a) ∷ rows) other h p = cond_both P (among op ops) a (by_operation op rows other) h.0 (λ e. by_rows P op rows other h.1 p)

among_append : (k : ℕ) (xs ys : List ℕ) → among k (xs ++ ys) ≡ (among k xs || among k ys)
unfolding among
among_append k [] ys = refl
among_append k (x ∷ xs) ys = go (eqb k x) (among_append k xs ys)
  where
    go : (b : Bool) → among k (xs ++ ys) ≡ (among k xs || among k ys) → (b || among k (xs ++ ys)) ≡ ((b || among k xs) || among k ys)
    go true e = refl
    go false e = e

-- no row for the numbers that are no operation is needed where the operation has one
listed : {A : Type 0} (P : A → Type 0) (op : ℕ) (rows : List (Entry A)) (other : A) → among op (operations_of rows) ≡ true → EachRow P op rows → P (by_operation op rows other)
unfolding among
listed P op [] other m h = absurd (false≢true m)
listed P op ((ops ⇒ a) ∷ rows) other m h =
    go (among op ops) refl (rw (among_append op ops (operations_of rows)) at m) (λ e. listed P op rows other e h.1)
  where
    go : (b : Bool) → among op ops ≡ b → (b || among op (operations_of rows)) ≡ true → (among op (operations_of rows) ≡ true → P (by_operation op rows other))
        → P (cond b a (by_operation op rows other))
    go true q e next = h.0 q
    go false q e next = next e

-- every operation's number is below their count
pub operation_small : (op : ℕ) → is_operation op ≡ true → op < operation_count
unfolding is_operation
operation_small op h = ltb-true op operation_count h

pub by_operation_lem : {A : Type 0} (P : A → Type 0) (op : ℕ) (rows : List (Entry A)) (other : A) → covers_all rows ≡ true → is_operation op ≡ true → EachRow P op rows
    → P (by_operation op rows other)
by_operation_lem P op rows other c h each =
    let row : (not (is_operation op) || among op (operations_of rows)) ≡ true = all_below_lem operation_count (λ (op : ℕ). not (is_operation op) || among op (operations_of rows)) c op (operation_small op h) in
    listed P op rows other (rw h at row) each

-- ---- a group of operations, one by one

abbrev pub EachOf : (ℕ → Type 0) → List ℕ → Type 0
EachOf P [] = Unit
EachOf P (k ∷ ks) = P k × EachOf P ks

pub for_group : (P : ℕ → Type 0) (op : ℕ) (ops : List ℕ) → EachOf P ops → among op ops ≡ true → P op
unfolding among
for_group P op [] each m = absurd (false≢true m)
for_group P op (k ∷ ks) each m =
    or_true (eqb op k) (among op ks) m (λ q. subst P (sym (eqb-true op k q)) each.0) (λ q. for_group P op ks each.1 q)

-- the operations from k on, n of them
abbrev pub EachFrom : (ℕ → Type 0) → ℕ → ℕ → Type 0
EachFrom P k zero = Unit
EachFrom P k (suc n) = P k × EachFrom P (suc k) n

pub for_range : (P : ℕ → Type 0) (op k n : ℕ) → EachFrom P k n → k ≤ op → op < k + n → P op
for_range P op k zero each low high = absurd (omega arith)
for_range P op k (suc n) each low high =
    ⊎_elim (λ (q : k ≡ op). subst P q each.0) (λ (q : k < op). for_range P op (suc k) n each.1 q (omega arith)) (eq-or-lt_of_le low)

-- the only one of a row
pub only : (op k : ℕ) → among op (k ∷ []) ≡ true → op ≡ k
unfolding among
only op k m = or_true (eqb op k) false m (eqb-true op k) (λ q. absurd (false≢true q))

-- the words that a group uses
pub followed_uses : (op : ℕ) → among op followed ≡ true → uses op 1 ≡ true
unfolding among uses
followed_uses op = for_group (λ (k : ℕ). uses k 1 ≡ true) op followed (refl then refl then refl then refl then refl then refl then refl then tt)

pub divides_uses : (op : ℕ) → among op (IDIV ∷ MOD ∷ []) ≡ true → uses op 2 ≡ true
unfolding among uses
divides_uses op = for_group (λ (k : ℕ). uses k 2 ≡ true) op (IDIV ∷ MOD ∷ []) (refl then refl then tt)

-- ---- the sources that are read

-- all that an operation uses is read, but word 3 of a STACK
pub reads_plain : (x : Node) (k : ℕ) → (x.op ≡ STACK → ⊥) → reads x k ≡ uses x.op k
unfolding reads
reads_plain x k n = rw (ne_eqb x.op STACK n) (and_yes (uses x.op k))
  where
    and_yes : (b : Bool) → (b && true) ≡ b
    and_yes true = refl
    and_yes false = refl

pub reads_low : (x : Node) (k : ℕ) → (k ≡ 3 → ⊥) → reads x k ≡ uses x.op k
unfolding reads
reads_low x k n = rw (ne_eqb k 3 n) (none (uses x.op k) (eqb x.op STACK))
  where
    none : (b c : Bool) → (b && (not (c && false) || eqb (size_of x.number) 3)) ≡ b
    none true true = refl
    none true false = refl
    none false c = refl

pub stack_third : (x : Node) → x.op ≡ STACK → in_number x 3 ≡ reads x 3
unfolding reads uses among
stack_third x q = rw q refl

-- a STACK reads its third source with number 3
pub stack_reads : (x : Node) → x.op ≡ STACK → reads x 3 ≡ eqb (size_of x.number) 3
unfolding reads uses among
stack_reads x q = rw q refl

pub followed_reads : (x : Node) → among x.op followed ≡ true → reads x 1 ≡ true
followed_reads x h = rw (reads_low x 1 (λ q. omega arith)) (followed_uses x.op h)

pub divides_reads : (x : Node) → among x.op (IDIV ∷ MOD ∷ []) ≡ true → reads x 2 ≡ true
divides_reads x h = rw (reads_low x 2 (λ q. omega arith)) (divides_uses x.op h)
