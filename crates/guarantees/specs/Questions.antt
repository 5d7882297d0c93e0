-- Plans written by hand, questions about them, and what the definitions reply.
use Rattle.std.specs.Prelude.{ℕ, ◌-◌, List, ◌∷◌, ◌++◌, map, ℤ, pos, length, replicate}
use Rattle.laws.specs.Lists.{last_or}
use Rattle.plan.specs.Operations.{CONST, PARAM, CAST, WHERE, REDUCE, LOAD, STACK}
use Rattle.plan.specs.Words.{node, element}
use Rattle.plan.specs.Answers.{Outcome, accepted, refused}
use Rattle.codec.specs.Plans.{Unpacked, unpack}
use Rattle.rules.specs.Rules.{Derived, no_source}
use Rattle.verifier.specs.Check.{verdict, check, unpack_check, code_of}
use Rattle.verifier.specs.Listing.{listing}
use Rattle.cells.specs.Cells.{Cell, Field}
use Rattle.runner.specs.Run.{run, no_field}
use Rattle.lookup.specs.declared.Found.{Found}
use Rattle.lookup.specs.declared.Found.TheVariants.{At, Gap}
use Rattle.lookup.specs.Following.{lookup}

-- ---- nodes

abbrev pub u8 : ℕ
u8 = 1

abbrev pub i16 : ℕ
i16 = 2

abbrev pub i32 : ℕ
i32 = 3

abbrev pub zeros : ℕ → List ℤ
zeros n = replicate n (pos 0)

-- the four words of a row
abbrev pub row : List ℕ → List ℤ
row ns = map pos ns ++ zeros (4 - length ns)

-- PARAM number k on a device, of a type, limits and extents
abbrev pub param_on : ℕ → ℕ → ℕ → ℤ → ℤ → List ℕ → List ℤ
param_on device k t low high r = pos PARAM ∷ zeros 3 ++ pos t ∷ pos k ∷ pos device ∷ low ∷ high ∷ row r ++ zeros 4

abbrev pub param : ℕ → ℕ → ℤ → ℤ → List ℕ → List ℤ
param = param_on 1

abbrev pub constant : ℕ → ℤ → List ℤ
constant t v = pos CONST ∷ zeros 3 ++ pos t ∷ v ∷ zeros 11

-- an operation on node a, with rows A and B
abbrev pub movement : ℕ → ℕ → List ℕ → List ℕ → List ℤ
movement op a rowA rowB = pos op ∷ pos a ∷ zeros 7 ++ row rowA ++ row rowB

-- an operation on two earlier nodes
abbrev pub binary : ℕ → ℕ → ℕ → List ℤ
binary op a b = pos op ∷ pos a ∷ pos b ∷ zeros 14

abbrev pub choice : ℕ → ℕ → ℕ → List ℤ
choice a b c = pos WHERE ∷ pos a ∷ pos b ∷ pos c ∷ zeros 13

-- REDUCE of node a: number 0 sum, 1 max
abbrev pub reduce : ℕ → ℕ → List ℕ → List ℤ
reduce a number flags = pos REDUCE ∷ pos a ∷ zeros 3 ++ pos number ∷ zeros 3 ++ row flags ++ zeros 4

-- STACK of nodes a, b and c: its number
abbrev pub stack : ℕ → ℕ → ℕ → ℕ → List ℤ
stack a b c number = pos STACK ∷ pos a ∷ pos b ∷ pos c ∷ pos 0 ∷ pos number ∷ zeros 11

abbrev pub cast : ℕ → ℕ → List ℤ
cast a t = pos CAST ∷ pos a ∷ zeros 2 ++ pos t ∷ zeros 12

abbrev pub load : ℕ → ℕ → List ℤ
load a device = pos LOAD ∷ pos a ∷ zeros 4 ++ pos device ∷ zeros 10

-- ---- questions and answers

pub data Question : Type 0 where
  -- the bounds of a plan's output
  bounds_of : List ℤ → Question
  -- whether a check of a plan has room for so many words
  room_of : List ℤ → ℕ → Question
  -- the output's cells, for these values and flags
  cells_of : List ℤ → List ℤ → List ℕ → Question
  -- the output's cells, with room for so many values and flags
  cells_in : List ℤ → List ℤ → List ℕ → ℕ → ℕ → Question
  -- where an element of a node comes from
  origin_of : List ℤ → ℕ → ℕ → Question
  -- the table of packed bytes, with room for so many words
  table_of : List ℕ → ℕ → Question
  -- the C call's number for packed bytes
  number_of : List ℕ → Question
  -- the listing of packed bytes
  text_of : List ℕ → Question

pub data Reply : Type 0 where
  bounds : ℤ → ℤ → Reply
  cells : List Cell → Reply
  origin : ℕ → ℕ → Reply
  no_origin : Reply
  table : List ℤ → Reply
  number : ℕ → Reply
  text : List ℕ → Reply
  fits : Reply
  refusal : ℕ → ℕ → Reply

abbrev pub reply_of : {A : Type 0} → (A → Reply) → Outcome A → Reply
reply_of f (accepted a) = f a
reply_of f (refused r) = refusal r.number r.place

abbrev pub bounds_reply : List Derived → Reply
bounds_reply ds = bounds (last_or no_source ds).bounds.low (last_or no_source ds).bounds.high

abbrev pub cells_reply : List Field → Reply
cells_reply fs = cells (last_or no_field fs).cells

abbrev pub origin_reply : Found → Reply
origin_reply (At p) = origin p.node.0 p.element.0
origin_reply Gap = no_origin

-- what the definitions say
abbrev pub reply : Question → Reply
reply (bounds_of t) = reply_of bounds_reply (verdict t)
reply (room_of t room) = reply_of (λ (ds : List Derived). fits) (check t room)
reply (cells_of t values flags) = reply_of cells_reply (run t values flags 100 100)
reply (cells_in t values flags valueRoom flagRoom) = reply_of cells_reply (run t values flags valueRoom flagRoom)
reply (origin_of t n e) = reply_of origin_reply (lookup t (node n) (element e))
reply (table_of s room) = reply_of (λ (u : Unpacked). table u.words) (unpack s room)
reply (number_of s) = number (code_of (unpack_check s))
reply (text_of s) = text (listing s)

-- a question, and what the paper says
pub record Example : Type 0 where
  pub ask : Question
  pub paper : Reply

abbrev pub ◌says◌ : Question → Reply → Example
q says a = record { ask = q; paper = a }

infix 68 ◌says◌
