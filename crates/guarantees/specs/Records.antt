-- What is derived of a node, in the paper's words and numbers: its type, device, bounds and extents, from its words and its sources' records. n is the node,
-- o its operation, `earlier` are the records of the nodes before it.
use Rattle.std.specs.Prelude.{ℕ, ◌+◌, ◌*◌, ◌<◌, ◌≤◌, max, ◌≡◌, cond, ◌⊎◌, List, [], ◌∷◌, eqb, ℤ, pos, ◌+ℤ◌, ◌-ℤ◌, ◌*ℤ◌, ◌≤ℤ◌, ◌<ℤ◌, length, get_or}
use Rattle.plan.specs.declared.Interval.{Interval}
use Rattle.rules.specs.Rules.{Derived}
use Rattle.verifier.specs.Check.{derive_node}
use Rattle.guarantees.specs.Demand3.{word, as_count}
use Rattle.guarantees.specs.Rules.{ReadsSource, source, IsRow, from_last, Rule9}
use Rattle.guarantees.specs.Values.{Floor}

-- ---- "dtype of result"

pub record TypeIs (t : List ℤ) (n : ℕ) (earlier : List Derived) (o d : ℕ) : Type 0 where
  -- "0 CONST .. word 4; 1 PARAM .. word 4; 8 CAST .. word 4"
  pub named : (o ≡ 0) ⊎ ((o ≡ 1) ⊎ (o ≡ 8)) → pos d ≡ word t n 4
  -- "14 CMPLT, 15 CMPNE .. bool; 16 AND, 17 OR .. bool"
  pub bool : 14 ≤ o → o ≤ 17 → d ≡ 0
  -- 02 §3: "KNOWN (22, one source): bool"
  pub tells : o ≡ 22 → d ≡ 0
  -- "18 WHERE .. second source"
  pub chosen : o ≡ 18 → d ≡ (source t n earlier 2).dtype
  -- "source": of all others; FILL and STACK have sources of one type
  pub kept : ((2 ≤ o) × (o ≤ 7)) ⊎ (((9 ≤ o) × (o ≤ 13)) ⊎ (((19 ≤ o) × (o ≤ 21)) ⊎ (o ≡ 23))) → d ≡ (source t n earlier 1).dtype

-- ---- "CONST has device 0. PARAM and LOAD name theirs, 1..255. Others take the one non-zero device of their sources, or 0"; 02 §3: "All three carry devices as
-- binary operations do"

pub record DeviceIs (t : List ℤ) (n : ℕ) (earlier : List Derived) (o d : ℕ) : Type 0 where
  pub none : o ≡ 0 → d ≡ 0
  pub named : (o ≡ 1) ⊎ (o ≡ 20) → pos d ≡ word t n 6
  -- of a source that has one; 0 where none has
  pub taken : 2 ≤ o → (o ≡ 20 → ⊥) → (k : ℕ) → 1 ≤ k → k ≤ 3 → ReadsSource t n o k → ((source t n earlier k).device ≡ 0 → ⊥) → d ≡ (source t n earlier k).device
  pub zero : 2 ≤ o → (o ≡ 20 → ⊥) → ((k : ℕ) → 1 ≤ k → k ≤ 3 → ReadsSource t n o k → (source t n earlier k).device ≡ 0) → d ≡ 0

-- ---- bounds, "With [a,A], [b,B], [c,C] of the sources"

abbrev pub MaxOf : ℤ → ℤ → ℤ → Type 0
MaxOf z p q = (p ≤ℤ z) × (q ≤ℤ z) × ((z ≡ p) ⊎ (z ≡ q))

abbrev pub MinOf : ℤ → ℤ → ℤ → Type 0
MinOf z p q = (z ≤ℤ p) × (z ≤ℤ q) × ((z ≡ p) ⊎ (z ≡ q))

-- "least and greatest" of three
abbrev pub LeastOf : ℤ → ℤ → ℤ → ℤ → Type 0
LeastOf z p q r = (z ≤ℤ p) × (z ≤ℤ q) × (z ≤ℤ r) × ((z ≡ p) ⊎ ((z ≡ q) ⊎ (z ≡ r)))

abbrev pub GreatestOf : ℤ → ℤ → ℤ → ℤ → Type 0
GreatestOf z p q r = (p ≤ℤ z) × (q ≤ℤ z) × (r ≤ℤ z) × ((z ≡ p) ⊎ ((z ≡ q) ⊎ (z ≡ r)))

-- "least and greatest of four"
pub record Extremes (low high p q r s : ℤ) : Type 0 where
  pub below : (low ≤ℤ p) × (low ≤ℤ q) × (low ≤ℤ r) × (low ≤ℤ s)
  pub above : (p ≤ℤ high) × (q ≤ℤ high) × (r ≤ℤ high) × (s ≤ℤ high)
  pub least : (low ≡ p) ⊎ ((low ≡ q) ⊎ ((low ≡ r) ⊎ (low ≡ s)))
  pub greatest : (high ≡ p) ⊎ ((high ≡ q) ⊎ ((high ≡ r) ⊎ (high ≡ s)))

abbrev pub Between : Interval → ℤ → ℤ → Type 0
Between d low high = (d.low ≡ low) × (d.high ≡ high)

-- an extent where the flag is 1, else 1
abbrev pub if_flagged : ℤ → ℕ → ℕ
if_flagged w e = cond (eqb (as_count w) 1) e 1

-- "n is the product of flagged extents, 1 if none": extents s, flags from word k on
unfoldable pub flagged_product : List ℤ → ℕ → ℕ → List ℕ → ℕ
flagged_product t n k [] = 1
flagged_product t n k (e ∷ s) = if_flagged (word t n k) e * flagged_product t n (k + 1) s

pub record BoundsAre (t : List ℤ) (n o : ℕ) (a b c d : Interval) (s : List ℕ) : Type 0 where
  -- "CONST [v,v]; PARAM [low,high]; movement (2–7) and LOAD, the source's"; "CAST the source's"
  pub constant : o ≡ 0 → Between d (word t n 5) (word t n 5)
  pub given : o ≡ 1 → Between d (word t n 7) (word t n 8)
  pub kept : ((2 ≤ o) × (o ≤ 8)) ⊎ (o ≡ 20) → Between d a.low a.high
  -- "ADD [a+b,A+B]; MUL least and greatest of four products; MAX [max(a,b),max(A,B)]"
  pub add : o ≡ 9 → Between d (a.low +ℤ b.low) (a.high +ℤ b.high)
  pub mul : o ≡ 10 → Extremes d.low d.high (a.low *ℤ b.low) (a.low *ℤ b.high) (a.high *ℤ b.low) (a.high *ℤ b.high)
  pub max : o ≡ 11 → MaxOf d.low a.low b.low × MaxOf d.high a.high b.high
  -- "IDIV least and greatest of four floored corner quotients"
  pub idiv : o ≡ 12 → (p q r u : ℤ) × Floor a.low b.low p × Floor a.low b.high q × Floor a.high b.low r × Floor a.high b.high u × Extremes d.low d.high p q r u
  -- "MOD [0,B−1] for b>0, [b+1,0] for B<0"
  pub mod_up : o ≡ 13 → pos 0 <ℤ b.low → Between d (pos 0) (b.high -ℤ pos 1)
  pub mod_down : o ≡ 13 → b.low ≤ℤ pos 0 → Between d (b.low +ℤ pos 1) (pos 0)
  -- "CMPLT is [1,1] if A<b, [0,0] if a≥B, else [0,1]."
  pub less : o ≡ 14 → a.high <ℤ b.low → Between d (pos 1) (pos 1)
  pub not_less : o ≡ 14 → b.low ≤ℤ a.high → b.high ≤ℤ a.low → Between d (pos 0) (pos 0)
  pub may_be_less : o ≡ 14 → b.low ≤ℤ a.high → a.low <ℤ b.high → Between d (pos 0) (pos 1)
  -- "CMPNE is [1,1] if the two are disjoint, [0,0] if all four ends are equal, else [0,1]."
  pub disjoint : o ≡ 15 → (a.high <ℤ b.low) ⊎ (b.high <ℤ a.low) → Between d (pos 1) (pos 1)
  pub all_equal : o ≡ 15 → a.low ≡ a.high → b.low ≡ b.high → a.low ≡ b.low → Between d (pos 0) (pos 0)
  pub may_differ : o ≡ 15 → b.low ≤ℤ a.high → a.low ≤ℤ b.high → ((a.low ≡ a.high) × (b.low ≡ b.high) × (a.low ≡ b.low) → ⊥) → Between d (pos 0) (pos 1)
  -- "AND [min(a,b),min(A,B)], OR [max(a,b),max(A,B)]; WHERE [min(b,c),max(B,C)]"
  pub and : o ≡ 16 → MinOf d.low a.low b.low × MinOf d.high a.high b.high
  pub or : o ≡ 17 → MaxOf d.low a.low b.low × MaxOf d.high a.high b.high
  pub chosen : o ≡ 18 → MinOf d.low b.low c.low × MaxOf d.high b.high c.high
  -- "REDUCE sum over n elements [n·a,n·A]; max, the source's."
  pub sum : o ≡ 19 → word t n 5 ≡ pos 0 → Between d (pos (flagged_product t n 9 s) *ℤ a.low) (pos (flagged_product t n 9 s) *ℤ a.high)
  pub greatest : o ≡ 19 → word t n 5 ≡ pos 1 → Between d a.low a.high
  -- 02 §3, FILL: "bounds least low and greatest high". KNOWN: "bounds [0,1]". STACK: "bounds least and greatest"
  pub filled : o ≡ 21 → MinOf d.low a.low b.low × MaxOf d.high a.high b.high
  pub tells : o ≡ 22 → Between d (pos 0) (pos 1)
  pub stack_two : o ≡ 23 → word t n 5 ≡ pos 2 → MinOf d.low a.low b.low × MaxOf d.high a.high b.high
  pub stack_three : o ≡ 23 → word t n 5 ≡ pos 3 → LeastOf d.low a.low b.low c.low × GreatestOf d.high a.high b.high c.high

-- ---- extents

-- "right-aligned; each axis equal or 1; the larger wins": r of s and u
pub record Joined (s u r : List ℕ) : Type 0 where
  pub rank : length r ≡ max (length s) (length u)
  pub both : (i : ℕ) → i < length s → i < length u → from_last r i ≡ max (from_last s i) (from_last u i)
  pub first : (i : ℕ) → i < length s → length u ≤ i → from_last r i ≡ from_last s i
  pub second : (i : ℕ) → length s ≤ i → i < length u → from_last r i ≡ from_last u i

pub record ExtentsAre (t : List ℤ) (n o : ℕ) (s u v r : List ℕ) : Type 0 where
  -- a CONST has none; a shape row's are the result's: "A is s'"
  pub none : o ≡ 0 → r ≡ []
  pub row : (o ≡ 1) ⊎ ((4 ≤ o) × (o ≤ 7)) → (x : List ℕ) → IsRow t n 9 x → r ≡ x
  -- "PERMUTE: result axis k is source axis A_k."
  pub permuted : o ≡ 2 → (length r ≡ length s) × ((k m : ℕ) → k < length s → word t n (9 + k) ≡ pos m → get_or r k 1 ≡ get_or s m 1)
  -- FLIP, CAST, LOAD and KNOWN keep the shape
  pub same : (o ≡ 3) ⊎ ((o ≡ 8) ⊎ ((o ≡ 20) ⊎ (o ≡ 22))) → r ≡ s
  pub two : 9 ≤ o → o ≤ 17 → Joined s u r
  pub three : o ≡ 18 → (x : List ℕ) × Joined s u x × Joined x v r
  -- "REDUCE: flagged axes become 1; rank stays."
  pub reduced : o ≡ 19 → (length r ≡ length s) × ((k : ℕ) → k < length s → (word t n (9 + k) ≡ pos 1 → get_or r k 1 ≡ 1) × ((word t n (9 + k) ≡ pos 1 → ⊥) → get_or r k 1 ≡ get_or s k 1))
  -- 02 §3, FILL: "broadcast". STACK: "number 2 or 3 of sources joined on a new leading axis"
  pub filled : o ≡ 21 → Joined s u r
  pub stacked : o ≡ 23 → (m : ℕ) → word t n 5 ≡ pos m → r ≡ m ∷ s

-- ---- the record of a node

-- What of the rules before it a row needs stands before it: a type or device that is used is not negative (5, 7), there are no two devices (9), and a source
-- has at most four extents, each from 1 on.
pub record RecordsSay : Type 0 where
  pub dtype : (t : List ℤ) (n : ℕ) (earlier : List Derived) (o : ℕ) → word t n 0 ≡ pos o → o ≤ 23 → pos 0 ≤ℤ word t n 4 → TypeIs t n earlier o (derive_node t n earlier).dtype
  pub device : (t : List ℤ) (n : ℕ) (earlier : List Derived) (o : ℕ) → word t n 0 ≡ pos o → o ≤ 23 → pos 0 ≤ℤ word t n 6 → Rule9 t n earlier o → DeviceIs t n earlier o (derive_node t n earlier).device
  pub bounds : (t : List ℤ) (n : ℕ) (earlier : List Derived) (o : ℕ) → word t n 0 ≡ pos o → o ≤ 23 → length (source t n earlier 1).extents ≤ 4
      → BoundsAre t n o (source t n earlier 1).bounds (source t n earlier 2).bounds (source t n earlier 3).bounds (derive_node t n earlier).bounds (source t n earlier 1).extents
  pub extents : (t : List ℤ) (n : ℕ) (earlier : List Derived) (o : ℕ) → word t n 0 ≡ pos o → o ≤ 23 → length (source t n earlier 1).extents ≤ 4 → ((j k : ℕ) → 1 ≤ get_or (source t n earlier j).extents k 1)
      → ExtentsAre t n o (source t n earlier 1).extents (source t n earlier 2).extents (source t n earlier 3).extents (derive_node t n earlier).extents
