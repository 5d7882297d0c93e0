-- Rules 2 to 11 in the paper's words and numbers: each holds exactly where the check's test of that number does. n is the node, o its operation, and
-- `earlier` are the records of the nodes before it.
use Rattle.std.specs.Prelude.{ℕ, ◌+◌, ◌-◌, ◌<◌, ◌≤◌, ◌≡◌, Bool, true, false, ◌⊎◌, List, [], ◌∷◌, ℤ, pos, negsuc, ◌≤ℤ◌, ◌<ℤ◌, length, get_or}
use Rattle.laws.specs.Lists.{among}
use Rattle.laws.specs.Numbering.{count}
use Rattle.plan.specs.Words.{params_before}
use Rattle.rules.specs.Rules.{Derived, no_source}
use Rattle.verifier.specs.Check.{derive_node}
use Rattle.verifier.specs.Meets.{rule_holds}
use Rattle.guarantees.specs.Demand3.{word, as_count}

-- each from the other
abbrev pub Exactly : Type 0 → Type 0 → Type 0
Exactly A B = (A → B) × (B → A)

-- low ≤ z ≤ high
abbrev pub From : ℤ → ℤ → ℤ → Type 0
From low high z = (low ≤ℤ z) × (z ≤ℤ high)

-- "words used", for each word from 0 on: the operations that use it; 02 §3: FILL (21) has two sources, KNOWN (22) "one source", "STACK (23, words 1,2,3,5)". Word 0 is the operation itself, and no rule asks whether it is used.
abbrev pub users : List (List ℕ)
users =
    []
    ∷ (2 ∷ 3 ∷ 4 ∷ 5 ∷ 6 ∷ 7 ∷ 8 ∷ 9 ∷ 10 ∷ 11 ∷ 12 ∷ 13 ∷ 14 ∷ 15 ∷ 16 ∷ 17 ∷ 18 ∷ 19 ∷ 20 ∷ 21 ∷ 22 ∷ 23 ∷ [])
    ∷ (9 ∷ 10 ∷ 11 ∷ 12 ∷ 13 ∷ 14 ∷ 15 ∷ 16 ∷ 17 ∷ 18 ∷ 21 ∷ 23 ∷ [])
    ∷ (18 ∷ 23 ∷ [])
    ∷ (0 ∷ 1 ∷ 8 ∷ [])
    ∷ (0 ∷ 1 ∷ 19 ∷ 23 ∷ [])
    ∷ (1 ∷ 20 ∷ [])
    ∷ (1 ∷ [])
    ∷ (1 ∷ [])
    ∷ (1 ∷ 2 ∷ 3 ∷ 4 ∷ 5 ∷ 6 ∷ 7 ∷ 19 ∷ [])
    ∷ (1 ∷ 2 ∷ 3 ∷ 4 ∷ 5 ∷ 6 ∷ 7 ∷ 19 ∷ [])
    ∷ (1 ∷ 2 ∷ 3 ∷ 4 ∷ 5 ∷ 6 ∷ 7 ∷ 19 ∷ [])
    ∷ (1 ∷ 2 ∷ 3 ∷ 4 ∷ 5 ∷ 6 ∷ 7 ∷ 19 ∷ [])
    ∷ (6 ∷ 7 ∷ [])
    ∷ (6 ∷ 7 ∷ [])
    ∷ (6 ∷ 7 ∷ [])
    ∷ (6 ∷ 7 ∷ [])
    ∷ []

-- operation o uses word k
abbrev pub uses_word : ℕ → ℕ → Bool
uses_word o k = among o (get_or users k [])

-- word k of 1 to 3 names a source that is read. 02 §3: "rules 4 and 6 read word 3 only with number 3", of STACK
abbrev pub ReadsSource : List ℤ → ℕ → ℕ → ℕ → Type 0
ReadsSource t n o k = (uses_word o k ≡ true) × (o ≡ 23 → k ≡ 3 → word t n 5 ≡ pos 3)

-- the record of source k
abbrev pub source : List ℤ → ℕ → List Derived → ℕ → Derived
source t n earlier k = get_or earlier (as_count (word t n k)) no_source

-- ---- 2 to 6

-- "operation not 0..20"; 02 §3: "in 01's rule 2 .. the limit is 23"
abbrev pub Rule2 : List ℤ → ℕ → Type 0
Rule2 t n = From (pos 0) (pos 23) (word t n 0)

-- "unused word not zero"
abbrev pub Rule3 : List ℤ → ℕ → ℕ → Type 0
Rule3 t n o = (k : ℕ) → 1 ≤ k → k ≤ 16 → uses_word o k ≡ false → word t n k ≡ pos 0

-- "source negative or not earlier"
abbrev pub Rule4 : List ℤ → ℕ → ℕ → Type 0
Rule4 t n o = (k : ℕ) → 1 ≤ k → k ≤ 3 → ReadsSource t n o k → (pos 0 ≤ℤ word t n k) × (word t n k <ℤ pos n)

-- "word 4 used and not 0..3"
abbrev pub Rule5 : List ℤ → ℕ → ℕ → Type 0
Rule5 t n o = uses_word o 4 ≡ true → From (pos 0) (pos 3) (word t n 4)

-- "type rule broken (operands differ, bool misplaced, WHERE condition not bool)"; bool is 0, and the rows are those of the table of operations
pub record Rule6 (t : List ℤ) (n o a b c : ℕ) : Type 0 where
  -- "9 ADD, 10 MUL, 11 MAX, 12 IDIV, 13 MOD: not bool; 14 CMPLT (not bool)"
  pub arithmetic : 9 ≤ o → o ≤ 14 → (a ≡ b) × (a ≡ 0 → ⊥)
  -- "15 CMPNE"
  pub differs : o ≡ 15 → a ≡ b
  -- "16 AND, 17 OR (bool only)"
  pub logical : (o ≡ 16) ⊎ (o ≡ 17) → (a ≡ 0) × (b ≡ 0)
  -- "18 WHERE"
  pub chooses : o ≡ 18 → (a ≡ 0) × (b ≡ c)
  -- "19 REDUCE (not bool ..)"
  pub reduces : o ≡ 19 → a ≡ 0 → ⊥
  -- 02 §3: "FILL (21, sources T and C, same type ..)"
  pub fills : o ≡ 21 → a ≡ b
  -- "STACK ..: all shapes and types equal", of the two or three that are read
  pub stacks : o ≡ 23 → a ≡ b
  pub stacks_third : o ≡ 23 → word t n 5 ≡ pos 3 → b ≡ c

-- ---- 7, "row or number wrong", "7 in full"

-- the four words from k on, of which the first `rank` meet P: "all with zeros after"
pub record RowOf (P : ℤ → Type 0) (t : List ℤ) (n k rank : ℕ) : Type 0 where
  pub ranked : rank ≤ 4
  pub each : (i : ℕ) → i < rank → P (word t n (k + i))
  pub zeros : (i : ℕ) → rank ≤ i → i < 4 → word t n (k + i) ≡ pos 0

-- "Rank is 0 to 4. A shape row is rank extents of 1..1048576, then zeros."
abbrev pub ShapeRow : List ℤ → ℕ → Type 0
ShapeRow t n = (rank : ℕ) × RowOf (From (pos 1) (pos 1048576)) t n 9 rank

-- "PERMUTE's row is 0..rank−1 once each"
pub record PermutationRow (t : List ℤ) (n rank : ℕ) : Type 0 where
  pub row : RowOf (λ (w : ℤ). (pos 0 ≤ℤ w) × (w <ℤ pos rank)) t n 9 rank
  pub once : (m : ℕ) → m < rank → (k : ℕ) × (k < rank) × (word t n (9 + k) ≡ pos m) × ((j : ℕ) → j < rank → word t n (9 + j) ≡ pos m → j ≡ k)

-- `params` PARAMs stand before it, and `rank` is the first source's
pub record Rule7 (t : List ℤ) (n o params rank : ℕ) : Type 0 where
  -- "the k-th PARAM from zero has slot (word 5) k ≤ 15 and low ≤ high"; "shape rows as above"
  pub slot : o ≡ 1 → (word t n 5 ≡ pos params) × (params ≤ 15)
  pub limits : o ≡ 1 → word t n 7 ≤ℤ word t n 8
  -- "a device used is 1..255"
  pub device : (o ≡ 1) ⊎ (o ≡ 20) → From (pos 1) (pos 255) (word t n 6)
  pub shape : (o ≡ 1) ⊎ ((4 ≤ o) × (o ≤ 7)) → ShapeRow t n
  -- "REDUCE's number is 0 or 1"
  pub number : o ≡ 19 → From (pos 0) (pos 1) (word t n 5)
  pub permutation : o ≡ 2 → PermutationRow t n rank
  -- "FLIP's and REDUCE's are flags"
  pub flags : (o ≡ 3) ⊎ (o ≡ 19) → RowOf (From (pos 0) (pos 1)) t n 9 rank
  -- "B holds 0..1048576 over the source's rank"
  pub offsets : (o ≡ 6) ⊎ (o ≡ 7) → RowOf (From (pos 0) (pos 1048576)) t n 13 rank
  -- 02 §3: "STACK's number, or a word 3 not zero with number 2, is 7"
  pub stack : o ≡ 23 → ((word t n 5 ≡ pos 2) × (word t n 3 ≡ pos 0)) ⊎ (word t n 5 ≡ pos 3)

-- ---- 8, "shapes disagree, or over 1048576 elements"

-- extents r are the row of words from k on
pub record IsRow (t : List ℤ) (n k : ℕ) (r : List ℕ) : Type 0 where
  pub ranked : length r ≤ 4
  pub each : (i : ℕ) → i < length r → (1 ≤ get_or r i 1) × (word t n (k + i) ≡ pos (get_or r i 1))
  pub zeros : (i : ℕ) → length r ≤ i → i < 4 → word t n (k + i) ≡ pos 0

-- extent i of s, counted from the last axis: "right-aligned"
abbrev pub from_last : List ℕ → ℕ → ℕ
from_last s i = get_or s (length s - 1 - i) 1

-- "each axis equal or 1", of the axes that both have
abbrev pub Broadcasts : List ℕ → List ℕ → Type 0
Broadcasts s t = (i : ℕ) → i < length s → i < length t → (from_last s i ≡ from_last t i) ⊎ ((from_last s i ≡ 1) ⊎ (from_last t i ≡ 1))

-- a, b and c are the sources' extents, r those of row A, `offset` is row B
pub record Rule8 (t : List ℤ) (n o : ℕ) (a b c r : List ℕ) (offset : ℕ → ℕ) : Type 0 where
  -- "RESHAPE: equal element counts. EXPAND: same rank, s_k is 1 or s'_k."
  pub reshape : o ≡ 4 → count a ≡ count r
  pub expand : o ≡ 5 → (length a ≡ length r) × ((k : ℕ) → k < length a → (get_or a k 1 ≡ 1) ⊎ (get_or a k 1 ≡ get_or r k 1))
  -- "PAD: same rank, offset o_k + s_k ≤ s'_k. SHRINK: same rank, o_k + s'_k ≤ s_k. A is s', B is o."
  pub pad : o ≡ 6 → (length a ≡ length r) × ((k : ℕ) → k < length a → offset k + get_or a k 1 ≤ get_or r k 1)
  pub shrink : o ≡ 7 → (length a ≡ length r) × ((k : ℕ) → k < length a → offset k + get_or r k 1 ≤ get_or a k 1)
  -- "Binary and WHERE: right-aligned; each axis equal or 1"
  pub two : 9 ≤ o → o ≤ 17 → Broadcasts a b
  pub three : o ≡ 18 → Broadcasts a b × Broadcasts a c × Broadcasts b c
  -- 02 §3: FILL, "broadcast"
  pub fill : o ≡ 21 → Broadcasts a b
  -- "STACK ..: all shapes .. equal, source rank at most 3"
  pub stack : o ≡ 23 → (b ≡ a) × (length a ≤ 3)
  pub stack_third : o ≡ 23 → word t n 5 ≡ pos 3 → c ≡ a

-- ---- 9 to 11

-- "two devices". "Device 0 is NULL."
abbrev pub Rule9 : List ℤ → ℕ → List Derived → ℕ → Type 0
Rule9 t n earlier o =
    (j k : ℕ) → 1 ≤ j → j ≤ 3 → 1 ≤ k → k ≤ 3 → ReadsSource t n o j → ReadsSource t n o k
    → ((source t n earlier j).device ≡ 0) ⊎ (((source t n earlier k).device ≡ 0) ⊎ ((source t n earlier j).device ≡ (source t n earlier k).device))

-- "divisor bounds contain 0"
abbrev pub Rule10 : List ℤ → ℕ → List Derived → ℕ → Type 0
Rule10 t n earlier o = (o ≡ 12) ⊎ (o ≡ 13) → (source t n earlier 2).bounds.low ≤ℤ pos 0 → pos 0 ≤ℤ (source t n earlier 2).bounds.high → ⊥

-- a number of a type: "0 bool (0..1), 1 u8 (0..255), 2 i16 .., 3 i32 (−2147483648..2147483647)"; 02 §2: "The range of i16 becomes −32767..32767"; negsuc n is
-- −(n + 1)
pub record InType (dtype : ℕ) (z : ℤ) : Type 0 where
  pub bool : dtype ≡ 0 → From (pos 0) (pos 1) z
  pub u8 : dtype ≡ 1 → From (pos 0) (pos 255) z
  pub i16 : dtype ≡ 2 → From (negsuc 32766) (pos 32767) z
  pub i32 : dtype ≡ 3 → From (negsuc 2147483647) (pos 2147483647) z

-- "bounds leave the type"
abbrev pub Rule11 : ℕ → ℤ → ℤ → Type 0
Rule11 dtype low high = InType dtype low × InType dtype high

-- ---- the test of each number

-- Rules 3 to 11 are asked where those before them hold; what of that a rule's words need stands before it.
pub record RulesSay : Type 0 where
  pub rule_2 : (t : List ℤ) (n : ℕ) (earlier : List Derived) → Exactly (rule_holds t n earlier 2 ≡ true) (Rule2 t n)
  pub rule_3 : (t : List ℤ) (n : ℕ) (earlier : List Derived) (o : ℕ) → word t n 0 ≡ pos o → o ≤ 23 → Exactly (rule_holds t n earlier 3 ≡ true) (Rule3 t n o)
  pub rule_4 : (t : List ℤ) (n : ℕ) (earlier : List Derived) (o : ℕ) → word t n 0 ≡ pos o → o ≤ 23 → n ≤ 256 → Exactly (rule_holds t n earlier 4 ≡ true) (Rule4 t n o)
  pub rule_5 : (t : List ℤ) (n : ℕ) (earlier : List Derived) (o : ℕ) → word t n 0 ≡ pos o → o ≤ 23 → Exactly (rule_holds t n earlier 5 ≡ true) (Rule5 t n o)
  pub rule_6 : (t : List ℤ) (n : ℕ) (earlier : List Derived) (o : ℕ) → word t n 0 ≡ pos o → o ≤ 23
      → Exactly (rule_holds t n earlier 6 ≡ true) (Rule6 t n o (source t n earlier 1).dtype (source t n earlier 2).dtype (source t n earlier 3).dtype)
  pub rule_7 : (t : List ℤ) (n : ℕ) (earlier : List Derived) (o : ℕ) → word t n 0 ≡ pos o → o ≤ 23 → length (source t n earlier 1).extents ≤ 4
      → Exactly (rule_holds t n earlier 7 ≡ true) (Rule7 t n o (params_before t n) (length (source t n earlier 1).extents))
  pub rule_8 : (t : List ℤ) (n : ℕ) (earlier : List Derived) (o : ℕ) (r : List ℕ) (offset : ℕ → ℕ) → word t n 0 ≡ pos o → o ≤ 23 → length (source t n earlier 1).extents ≤ 4
      → ((j k : ℕ) → 1 ≤ get_or (source t n earlier j).extents k 1) → (4 ≤ o → o ≤ 7 → IsRow t n 9 r) → ((o ≡ 6) ⊎ (o ≡ 7) → (k : ℕ) → k < 4 → word t n (13 + k) ≡ pos (offset k))
      → Exactly (rule_holds t n earlier 8 ≡ true)
      (Rule8 t n o (source t n earlier 1).extents (source t n earlier 2).extents (source t n earlier 3).extents r offset × (count (derive_node t n earlier).extents ≤ 1048576))
  pub rule_9 : (t : List ℤ) (n : ℕ) (earlier : List Derived) (o : ℕ) → word t n 0 ≡ pos o → o ≤ 23 → Exactly (rule_holds t n earlier 9 ≡ true) (Rule9 t n earlier o)
  pub rule_10 : (t : List ℤ) (n : ℕ) (earlier : List Derived) (o : ℕ) → word t n 0 ≡ pos o → o ≤ 23 → Exactly (rule_holds t n earlier 10 ≡ true) (Rule10 t n earlier o)
  pub rule_11 : (t : List ℤ) (n : ℕ) (earlier : List Derived) → (derive_node t n earlier).dtype ≤ 3
      → Exactly (rule_holds t n earlier 11 ≡ true) (Rule11 (derive_node t n earlier).dtype (derive_node t n earlier).bounds.low (derive_node t n earlier).bounds.high)
