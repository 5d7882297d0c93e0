-- What the paper says of a lookup in single cases. One computation shows all of them.
use Prim.Native.Nat.{ℕ}
use mathlib.Core.Path.{◌≡◌, refl}
use mathlib.Core.List.{List, [], ◌∷◌, map}
use lib.IntN.{ℤ, pos}
use Rattle.laws.specs.Lists.{concat}
use Rattle.plan.specs.Operations.{PERMUTE, FLIP, RESHAPE, PAD, SHRINK, ADD, FILL, KNOWN}
use Rattle.plan.specs.Words.{node, element}
use Rattle.verifier.proofs.Facts.{checking, constant, param, on, move, cast, load, stack}
use Rattle.lookup.specs.declared.Reply.{Reply}
use Rattle.lookup.specs.Following.{lookup, reply_of}

-- what a lookup answers, and what the paper says
pub data Fact : Type 0 where
  ◌is◌ : Reply → Reply → Fact

infix 68 ◌is◌
abbrev asked : Fact → Reply
asked (a is b) = a

abbrev said : Fact → Reply
said (a is b) = b

-- where element e of node n of this plan comes from
abbrev origin : List (List ℤ) → ℕ → ℕ → Reply
origin nodes n e = reply_of (lookup (concat nodes) (node n) (element e))

-- a place, a gap and a refusal
abbrev place : ℕ → ℕ → Reply
place n e = record { number = 0; place = 0; found = 1; node = n; element = e }

abbrev gap : Reply
gap = record { number = 0; place = 0; found = 2; node = 0; element = 0 }

abbrev refusal : ℕ → ℕ → Reply
refusal number place = record { number = number; place = place; found = 0; node = 0; element = 0 }

-- PERMUTE (1,0) of 2x3
abbrev turned : List (List ℤ)
turned = param 2 0 1 (pos 0) (pos 9) (2 ∷ 3 ∷ []) ∷ move PERMUTE 0 (1 ∷ 0 ∷ []) [] ∷ []

-- two elements padded to 5 at 1, flipped, on another device, cast, and without the first
abbrev chain : List (List ℤ)
chain =
    param 2 0 1 (pos 0) (pos 9) (2 ∷ [])
    ∷ move PAD 0 (5 ∷ []) (1 ∷ [])
    ∷ move FLIP 1 (1 ∷ []) []
    ∷ load 2 7
    ∷ cast 3 3
    ∷ move SHRINK 4 (4 ∷ []) (1 ∷ [])
    ∷ []

abbrev facts : List Fact
facts =
    -- "PERMUTE (1,0) of 2x3: element 3 is source element 4."
    origin turned 1 3 is place 0 4
    -- a node that is not followed is its own place
    ∷ origin turned 0 4 is place 0 4
    -- "follows nodes 2–7 and 20 back, the source always being an earlier node, to the first other node": gap gap 1 0 gap
    ∷ origin chain 3 2 is place 0 1
    ∷ origin chain 3 3 is place 0 0
    -- "its answer is either a place (node with element) or a gap"
    ∷ origin chain 3 1 is gap
    ∷ origin chain 1 0 is gap
    -- CAST is another node, at a gap too
    ∷ origin chain 4 2 is place 4 2
    ∷ origin chain 5 1 is place 4 2
    ∷ origin chain 5 0 is place 4 1
    -- and so are CONST and ADD
    ∷ origin (constant 2 (pos 5) ∷ on ADD (0 ∷ 0 ∷ []) ∷ move RESHAPE 1 (1 ∷ []) [] ∷ []) 2 0 is place 1 0
    -- "lookups stop at them"
    ∷ origin (constant 2 (pos 5) ∷ on FILL (0 ∷ 0 ∷ []) ∷ move RESHAPE 1 (1 ∷ []) [] ∷ []) 2 0 is place 1 0
    ∷ origin (constant 2 (pos 5) ∷ on KNOWN (0 ∷ []) ∷ move RESHAPE 1 (1 ∷ []) [] ∷ []) 2 0 is place 1 0
    ∷ origin (constant 2 (pos 5) ∷ stack (0 ∷ 0 ∷ []) (pos 2) ∷ move FLIP 1 (1 ∷ []) [] ∷ []) 2 0 is place 1 1
    -- "17: lookup node or element not there; 0"
    ∷ origin turned 2 0 is refusal 17 0
    ∷ origin turned 1 6 is refusal 17 0
    ∷ origin turned 1 5 is place 0 5
    -- "A lookup gives 17 after 12."
    ∷ origin [] 0 0 is refusal 1 0
    ∷ origin (constant 2 (pos 5) ∷ on 24 [] ∷ []) 99 0 is refusal 2 1
    ∷ []

pub facts_hold : map asked facts ≡ map said facts
unfolding checking Rattle.shapes.specs.Sources.permute_source Rattle.shapes.specs.Sources.flip_source Rattle.shapes.specs.Sources.expand_source Rattle.shapes.specs.Sources.in_source Rattle.shapes.specs.Sources.pad_source Rattle.shapes.specs.Sources.shrink_source Rattle.shapes.specs.Sources.source_element Rattle.shapes.specs.Sources.broadcast_source Rattle.shapes.specs.Sources.reduce_source Rattle.shapes.specs.Sources.gathered Rattle.lookup.specs.Following.follow Rattle.lookup.specs.Following.is_there Rattle.lookup.specs.Following.lookup
facts_hold = refl
