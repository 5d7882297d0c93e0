-- What a node that meets the rules derives fits the code's record.
use Prim.Native.Nat.{ℕ, zero, suc, ◌<◌, ◌≤◌}
use mathlib.Core.Path.{◌≡◌}
use mathlib.Core.Bool.{true, false, ◌||◌, not}
use mathlib.Core.List.{[], ◌∷◌}
use native.Mathlib.Omega.{arith}
use borrow.Author.Tests.{leb-true}
use lib.IntN.{ℤ, pos, negsuc}
use lib.Dec.{eqb, leb}
use Rattle.laws.specs.Integers.{Within}
use Rattle.laws.specs.Lists.{among}
use Rattle.laws.proofs.Booleans.{and_true, cond_both}
use Rattle.laws.proofs.Parts.{arithℤ}
use Rattle.plan.specs.declared.Interval.{Interval}
use Rattle.plan.specs.declared.Node.{Node}
use Rattle.plan.specs.Operations.{CONST, PARAM, CAST, LOAD, uses, by_operation}
use Rattle.plan.specs.Types.{holds, contains, range_of}
use Rattle.plan.proofs.ByOperation.{◌then◌, by_rows, for_group}
use Rattle.bounds.specs.Narrow.{Narrow}
use Rattle.bounds.proofs.Sound.{In, held}
use Rattle.rules.specs.Rules.{type_named, device_named, param_right, row_rules, rows_right, join_device, device_rules, result_device, result_types, result_type}
use Rattle.rules.specs.Code.{TypeOf, DeviceOf}

-- ---- bounds in a type are 32-bit numbers

in_range : (t : ℕ) (z : ℤ) → In z (range_of t) → Within z (negsuc 2147483647) (pos 2147483647)
unfolding range_of
in_range zero z w = omega arithℤ
in_range (suc zero) z w = omega arithℤ
in_range (suc (suc zero)) z w = omega arithℤ
in_range (suc (suc (suc zero))) z w = omega arithℤ
in_range (suc (suc (suc (suc t)))) z w = omega arithℤ

pub range_narrow : (t : ℕ) (i : Interval) → contains (range_of t) i ≡ true → Narrow i
unfolding contains
range_narrow t i e =
    let f = and_true (holds (range_of t) i.low) (holds (range_of t) i.high) e in
    record { low = in_range t i.low (held (range_of t) i.low f.0); high = in_range t i.high (held (range_of t) i.high f.1) }

-- ---- a type and a device are bytes

named_type : (x : Node) → type_named x ≡ true → among x.op (CONST ∷ PARAM ∷ CAST ∷ []) ≡ true → x.dtype < 256
unfolding type_named uses among
named_type x e m =
    let l : x.dtype ≤ 3 = leb-true x.dtype 3 (for_group (λ (k : ℕ). (not (uses k 4) || leb x.dtype 3) ≡ true → leb x.dtype 3 ≡ true) x.op (CONST ∷ PARAM ∷ CAST ∷ []) ((λ q. q) then (λ q. q) then (λ q. q) then tt) m e) in
    omega arith

type_byte : (x : Node) (a b : ℕ) → type_named x ≡ true → a < 256 → b < 256 → result_type x a b < 256
unfolding result_type
type_byte x a b e p q =
    by_rows (λ (t : ℕ). t < 256) x.op (result_types x a b) 0 ((λ m. named_type x e m) then (λ m. p) then (λ m. omega arith) then (λ m. q) then tt) (omega arith)

named_device : (x : Node) (params rank : ℕ) → rows_right x params rank ≡ true → among x.op (PARAM ∷ LOAD ∷ []) ≡ true → x.device < 256
unfolding rows_right among device_named
named_device x params rank e m =
    let d : device_named x ≡ true = for_group (λ (k : ℕ). by_operation k (row_rules x params rank) false ≡ true → device_named x ≡ true) x.op (PARAM ∷ LOAD ∷ [])
    ((λ q. (and_true (device_named x) _ (and_true (param_right x params) _ q).1).0) then (λ q. q) then tt) m e in
    let l : x.device ≤ 255 = leb-true x.device 255 (and_true (leb 1 x.device) (leb x.device 255) d).1 in
    omega arith

join_byte : (d e : ℕ) → d < 256 → e < 256 → join_device d e < 256
unfolding join_device
join_byte d e p q = cond_both (λ (n : ℕ). n < 256) (eqb d 0) e d (λ t. q) (λ t. p)

device_byte : (x : Node) (params rank d e f : ℕ) → rows_right x params rank ≡ true → d < 256 → e < 256 → f < 256 → result_device x d e f < 256
unfolding result_device
device_byte x params rank d e f rows p q r =
    by_rows (λ (t : ℕ). t < 256) x.op (device_rules x d e f) 0
    ((λ m. omega arith) then (λ m. named_device x params rank rows m) then (λ m. join_byte (join_device d e) f (join_byte d e p q) r) then tt) (omega arith)

pub typed : (x : Node) (a b : ℕ) {r : ℕ} → a < 256 → b < 256 → r ≡ result_type x a b → TypeOf x a b r
typed x a b p q e = record { is_type = e; byte = λ n. rw e (type_byte x a b n p q) }

pub placed : (x : Node) (d e f : ℕ) {r : ℕ} → d < 256 → e < 256 → f < 256 → r ≡ result_device x d e f → DeviceOf x d e f r
placed x d e f p q s i = record { is_device = i; byte = λ params rank rows. rw i (device_byte x params rank d e f rows p q s) }
