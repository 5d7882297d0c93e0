-- The masks: bit k of an operation's mask is set exactly where the operation uses word k, and what is no operation uses nothing.
use Prim.Native.Nat.{ℕ, ◌<◌, ◌≤◌, ◌^◌, ◌/◌, ◌%◌}
use mathlib.Core.Path.{◌≡◌, refl, sym}
use mathlib.Core.Bool.{Bool, true, false, ◌||◌, not, false≢true}
use mathlib.Core.List.{[]}
use native.Mathlib.Nat.{zero-div}
use native.Mathlib.Omega.{arith}
use borrow.Author.Tests.{leb-true, ltb-true, ltb-false, not-true, lt-leb, le-ltb}
use lib.Dec.{eqb, leb, ltb}
use lib.ListN.{get_or, get_or-eq_default}
use Rattle.laws.specs.Lists.{all_below, among}
use Rattle.laws.proofs.Booleans.{bool_cases, all_below_lem}
use Rattle.plan.specs.Operations.{uses, used_words, mask_of, masks, operation_count}

abbrev same : Bool → Bool → Bool
same true b = b
same false true = false
same false false = true

same_is : (b c : Bool) → same b c ≡ true → b ≡ c
same_is true c e = sym e
same_is false true e = absurd (false≢true e)
same_is false false e = refl

-- the bit for word k, and the test that it says what the used words say
abbrev bit : ℕ → ℕ → Bool
bit op k = eqb (get_or masks op 0 / 2 ^ k % 2) 1

abbrev right : ℕ → ℕ → Bool
right op k = same (bit op k) (uses op k)

table : all_below operation_count (λ (op : ℕ). all_below 17 (right op)) ≡ true
unfolding all_below among uses mask_of masks
table = refl

pub mask_bit : (op k : ℕ) → op < operation_count → k < 17 → eqb (get_or masks op 0 / 2 ^ k % 2) 1 ≡ uses op k
mask_bit op k h l =
    same_is (bit op k) (uses op k) (all_below_lem 17 (right op) (all_below_lem operation_count (λ (op : ℕ). all_below 17 (right op)) table op h) k l)

pub mask_none : (op : ℕ) → operation_count ≤ op → get_or masks op 0 ≡ 0
unfolding masks
mask_none op h = get_or-eq_default masks 0 {n = op} h

uses_none : (op k : ℕ) → operation_count ≤ op → uses op k ≡ false
unfolding uses among
uses_none op k h = rw (get_or-eq_default used_words [] {n = op} h) refl

-- of any number: what is no operation uses no word
pub mask_uses : (op k : ℕ) → k < 17 → eqb (get_or masks op 0 / 2 ^ k % 2) 1 ≡ uses op k
mask_uses op k l =
    bool_cases (ltb op operation_count) (λ e. mask_bit op k (ltb-true op operation_count e) l)
    (λ e. let h : operation_count ≤ op = ltb-false op operation_count e in rw (mask_none op h, zero-div, uses_none op k h) refl)

-- no mask has bits above that of word 16
abbrev low : ℕ → Bool
low op = leb (get_or masks op 0 / 2 ^ 16) 1

all_low : all_below operation_count low ≡ true
unfolding all_below mask_of masks
all_low = refl

pub mask_low : (op : ℕ) → op < operation_count → get_or masks op 0 / 2 ^ 16 ≤ 1
mask_low op h = leb-true (get_or masks op 0 / 2 ^ 16) 1 (all_below_lem operation_count low all_low op h)

-- where a mask has no bits above that of word k, no word after k is used
abbrev last : ℕ → ℕ → ℕ → Bool
last op k j = leb j k || (ltb 1 (get_or masks op 0 / 2 ^ k) || not (uses op j))

all_last : all_below operation_count (λ (op : ℕ). all_below 17 (λ (k : ℕ). all_below 17 (last op k))) ≡ true
unfolding all_below among uses mask_of masks
all_last = refl

pub mask_last : (op k j : ℕ) → op < operation_count → k < j → j < 17 → get_or masks op 0 / 2 ^ k ≤ 1 → uses op j ≡ false
mask_last op k j h l m e =
    let some = all_below_lem operation_count (λ (op : ℕ). all_below 17 (λ (k : ℕ). all_below 17 (last op k))) all_last op h in
    let is = all_below_lem 17 (last op k) (all_below_lem 17 (λ (k : ℕ). all_below 17 (last op k)) some k (omega arith)) j m in
    not-true (uses op j) (rw (lt-leb j k l, le-ltb 1 (get_or masks op 0 / 2 ^ k) e) at is)
