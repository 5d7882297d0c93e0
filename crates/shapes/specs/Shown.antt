-- How the code holds the extents of a node: in four words, up to the first zero.
use Rattle.std.specs.Prelude.{ℕ, ◌<◌, ◌≤◌, ◌≡◌, true, cond, List, [], ◌∷◌, leb}
use Rattle.laws.specs.Lists.{among}
use Rattle.laws.specs.Numbering.{count}
use Rattle.plan.specs.declared.Node.{Node}
use Rattle.plan.specs.declared.Row.{Row}
use Rattle.plan.specs.Words.{size_of}
use Rattle.plan.specs.Operations.{PARAM, RESHAPE, EXPAND, PAD, SHRINK, STACK, is_operation}
use Rattle.shapes.specs.declared.Shape.{Shape}
use Rattle.shapes.specs.Rows.{extents_of}
use Rattle.shapes.specs.Rules.{element_limit}

abbrev pub words_in : Shape → List ℕ
words_in s = s.n0 ∷ s.n1 ∷ s.n2 ∷ s.n3 ∷ []

-- the extents that it stands for: those before its first zero, whatever comes after
abbrev pub shown : Shape → List ℕ
shown s = extents_of (words_in s)

-- each word of a row fits 32 bits
pub record Narrow (row : Row) : Type 0 where
  pub word_0 : row.r0 < 4294967296
  pub word_1 : row.r1 < 4294967296
  pub word_2 : row.r2 < 4294967296
  pub word_3 : row.r3 < 4294967296

-- A count, and 1048577 for every count over the limit. No rule can tell: each asks of a count whether it is at most 1048576, or whether it is
-- that of an accepted node, which is at most 1048576.
unfoldable pub capped : ℕ → ℕ
capped n = cond (leb n element_limit) n 1048577

-- the operations whose row A is a shape row
abbrev pub shaped : List ℕ
shaped = PARAM ∷ RESHAPE ∷ EXPAND ∷ PAD ∷ SHRINK ∷ []

-- what has been tested of a node before its shape rule is asked, its first source having extents s
pub record Tested (x : Node) (s : List ℕ) : Type 0 where
  pub operation : is_operation x.op ≡ true
  pub row_a : among x.op shaped ≡ true → Narrow x.rowa
  pub row_b : among x.op (PAD ∷ SHRINK ∷ []) ≡ true → Narrow x.rowb
  pub counted : x.op ≡ RESHAPE → count s ≤ element_limit
  pub stacked : x.op ≡ STACK → (0 < size_of x.number) × (size_of x.number ≤ 3)
