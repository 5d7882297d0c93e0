-- The operations, the words that each uses, and tables by operation.
use Rattle.std.specs.Prelude.{ℕ, ◌+◌, ◌^◌, Bool, ◌&&◌, ◌||◌, not, cond, List, [], ◌∷◌, ◌++◌, map, ltb, eqb, get_or}
use Rattle.laws.specs.Lists.{all_below, among}

-- "op"
abbrev pub CONST : ℕ
CONST = 0

abbrev pub PARAM : ℕ
PARAM = 1

abbrev pub PERMUTE : ℕ
PERMUTE = 2

abbrev pub FLIP : ℕ
FLIP = 3

abbrev pub RESHAPE : ℕ
RESHAPE = 4

abbrev pub EXPAND : ℕ
EXPAND = 5

abbrev pub PAD : ℕ
PAD = 6

abbrev pub SHRINK : ℕ
SHRINK = 7

abbrev pub CAST : ℕ
CAST = 8

abbrev pub ADD : ℕ
ADD = 9

abbrev pub MUL : ℕ
MUL = 10

abbrev pub MAX : ℕ
MAX = 11

abbrev pub IDIV : ℕ
IDIV = 12

abbrev pub MOD : ℕ
MOD = 13

abbrev pub CMPLT : ℕ
CMPLT = 14

abbrev pub CMPNE : ℕ
CMPNE = 15

abbrev pub AND : ℕ
AND = 16

abbrev pub OR : ℕ
OR = 17

abbrev pub WHERE : ℕ
WHERE = 18

abbrev pub REDUCE : ℕ
REDUCE = 19

abbrev pub LOAD : ℕ
LOAD = 20

abbrev pub FILL : ℕ
FILL = 21

abbrev pub KNOWN : ℕ
KNOWN = 22

abbrev pub STACK : ℕ
STACK = 23

-- "in 01's rule 2 .. the limit is 23"
abbrev pub operation_count : ℕ
operation_count = 24

-- "at least one new operation": those that came with the second edition of the file
abbrev pub new_operations : List ℕ
new_operations = FILL ∷ KNOWN ∷ STACK ∷ []

-- "words used", from operation 0 on. Word 0, the operation itself, is in no row.
abbrev pub used_words : List (List ℕ)
used_words =
    (4 ∷ 5 ∷ [])
    ∷ (4 ∷ 5 ∷ 6 ∷ 7 ∷ 8 ∷ 9 ∷ 10 ∷ 11 ∷ 12 ∷ [])
    ∷ (1 ∷ 9 ∷ 10 ∷ 11 ∷ 12 ∷ [])
    ∷ (1 ∷ 9 ∷ 10 ∷ 11 ∷ 12 ∷ [])
    ∷ (1 ∷ 9 ∷ 10 ∷ 11 ∷ 12 ∷ [])
    ∷ (1 ∷ 9 ∷ 10 ∷ 11 ∷ 12 ∷ [])
    ∷ (1 ∷ 9 ∷ 10 ∷ 11 ∷ 12 ∷ 13 ∷ 14 ∷ 15 ∷ 16 ∷ [])
    ∷ (1 ∷ 9 ∷ 10 ∷ 11 ∷ 12 ∷ 13 ∷ 14 ∷ 15 ∷ 16 ∷ [])
    ∷ (1 ∷ 4 ∷ [])
    ∷ (1 ∷ 2 ∷ [])
    ∷ (1 ∷ 2 ∷ [])
    ∷ (1 ∷ 2 ∷ [])
    ∷ (1 ∷ 2 ∷ [])
    ∷ (1 ∷ 2 ∷ [])
    ∷ (1 ∷ 2 ∷ [])
    ∷ (1 ∷ 2 ∷ [])
    ∷ (1 ∷ 2 ∷ [])
    ∷ (1 ∷ 2 ∷ [])
    ∷ (1 ∷ 2 ∷ 3 ∷ [])
    ∷ (1 ∷ 5 ∷ 9 ∷ 10 ∷ 11 ∷ 12 ∷ [])
    ∷ (1 ∷ 6 ∷ [])
    ∷ (1 ∷ 2 ∷ [])
    ∷ (1 ∷ [])
    ∷ (1 ∷ 2 ∷ 3 ∷ 5 ∷ [])
    ∷ []

-- operation op uses word k
unfoldable pub uses : ℕ → ℕ → Bool
uses op k = among k (get_or used_words op [])

-- one of them
unfoldable pub is_new : ℕ → Bool
is_new op = among op new_operations

-- rule 2's operations
unfoldable pub is_operation : ℕ → Bool
is_operation op = ltb op operation_count

-- rule 24's operations: those of a file of edition 1 or 2. "First edition readers keep refusing .. 24"; "for second edition files, rule 24 the limit is 23"
unfoldable pub in_file : ℕ → ℕ → Bool
in_file edition op = is_operation op && (eqb edition 2 || not (is_new op))

-- "a constant table indexed by its number": the same words as a mask, bit k for word k
unfoldable pub mask_of : List ℕ → ℕ
mask_of [] = 0
mask_of (k ∷ ks) = 2 ^ k + mask_of ks

unfoldable pub masks : List ℕ
masks = map mask_of used_words

-- ---- groups of operations

-- "movement (2–7)"
abbrev pub movements : List ℕ
movements = PERMUTE ∷ FLIP ∷ RESHAPE ∷ EXPAND ∷ PAD ∷ SHRINK ∷ []

-- "nodes 2–7 and 20", which a lookup follows back
abbrev pub followed : List ℕ
followed = movements ++ LOAD ∷ []

-- "9 ADD, 10 MUL, 11 MAX, 12 IDIV, 13 MOD"
abbrev pub arithmetic : List ℕ
arithmetic = ADD ∷ MUL ∷ MAX ∷ IDIV ∷ MOD ∷ []

-- "14 CMPLT (not bool), 15 CMPNE"
abbrev pub comparisons : List ℕ
comparisons = CMPLT ∷ CMPNE ∷ []

-- "16 AND, 17 OR (bool only)"
abbrev pub logical : List ℕ
logical = AND ∷ OR ∷ []

-- "Binary"
abbrev pub binaries : List ℕ
binaries = arithmetic ++ comparisons ++ logical

-- ---- tables by operation

-- a row of a table: the operations that it is for, and what it says of them
pub data Entry (A : Type 0) : Type 0 where
  ◌⇒◌ : List ℕ → A → Entry A

infix 68 ◌⇒◌
-- The row of operation op. Every table has a row for each of 0..23 (`covers_all`, shown in its crate's proofs/Tables.antt);
-- the last argument stands for the numbers that are no operation, which rule 2 refuses.
abbrev pub by_operation : {A : Type 0} → ℕ → List (Entry A) → A → A
by_operation op [] other = other
by_operation op ((ops ⇒ a) ∷ rows) other = cond (among op ops) a (by_operation op rows other)

-- the operations that a table has a row for
abbrev pub operations_of : {A : Type 0} → List (Entry A) → List ℕ
operations_of [] = []
operations_of ((ops ⇒ a) ∷ rows) = ops ++ operations_of rows

abbrev pub covers_all : {A : Type 0} → List (Entry A) → Bool
covers_all rows = all_below operation_count (λ (op : ℕ). not (is_operation op) || among op (operations_of rows))
