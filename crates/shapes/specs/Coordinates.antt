-- Which element of its source an element of a node is, axis by axis. s is the source's extents and r the result's; o is an element of the
-- source and e one of the result. The maps of Sources.antt are these and no others: `source_from`, `from_source_lem`, `source_none`, `none_source`,
-- `broadcast_from`, `broadcast_once` and `gathers` of proofs/Coordinates.antt, `stacked_from` of proofs/Stacking.antt.
use Rattle.std.specs.Prelude.{ℕ, suc, ◌+◌, ◌-◌, ◌<◌, ◌≤◌, ◌≡◌, ◌⊎◌, List, length, get_or}
use Rattle.laws.specs.Numbering.{count, coord}
use Rattle.plan.specs.declared.ElementNumber.{ElementNumber}
use Rattle.plan.specs.Words.{element}
use Rattle.shapes.specs.Rules.{extent, word_of}

-- "PERMUTE: result axis k is source axis A_k."
abbrev pub PermutedFrom : List ℕ → List ℕ → List ℕ → ℕ → ℕ → Type 0
PermutedFrom s r row o e = (k : ℕ) → k < length s → coord s o (word_of row k) ≡ coord r e k

-- "FLIP: flag 1 reverses.": the first coordinate becomes the last
abbrev pub FlippedFrom : List ℕ → List ℕ → List ℕ → ℕ → ℕ → Type 0
FlippedFrom s r flags o e =
    (k : ℕ) → k < length s
    → (word_of flags k ≡ 1 → coord s o k + coord r e k + 1 ≡ extent s k) × ((word_of flags k ≡ 1 → ⊥) → coord s o k ≡ coord r e k)

-- "EXPAND: same rank, s_k is 1 or s'_k." Along an extent of 1 nothing need be said: an element of the source has coordinate 0 there.
abbrev pub ExpandedFrom : List ℕ → List ℕ → ℕ → ℕ → Type 0
ExpandedFrom s r o e = (k : ℕ) → k < length s → (extent s k ≡ 1 → ⊥) → coord s o k ≡ coord r e k

-- "PAD: same rank, offset o_k + s_k ≤ s'_k.": the source's first cell is cell o_k of the result
abbrev pub PaddedFrom : List ℕ → List ℕ → List ℕ → ℕ → ℕ → Type 0
PaddedFrom s r offsets o e = (k : ℕ) → k < length s → coord r e k ≡ word_of offsets k + coord s o k

-- "SHRINK: same rank, o_k + s'_k ≤ s_k.": the result's first cell is cell o_k of the source
abbrev pub ShrunkFrom : List ℕ → List ℕ → List ℕ → ℕ → ℕ → Type 0
ShrunkFrom s r offsets o e = (k : ℕ) → k < length s → coord s o k ≡ word_of offsets k + coord r e k

-- "Binary and WHERE: right-aligned; each axis equal or 1": the last axes are each other's. Along an extent of 1 as for EXPAND.
abbrev pub BroadcastFrom : List ℕ → List ℕ → ℕ → ℕ → Type 0
BroadcastFrom s r o e = (k : ℕ) → k < length s → (extent s k ≡ 1 → ⊥) → coord s o k ≡ coord r e (length r - length s + k)

-- 02 §3, STACK: "joined on a new leading axis": the first coordinate is the source's turn, from 0, and the others are those of its element o
abbrev pub StackedFrom : List ℕ → List ℕ → ℕ → ℕ → ℕ → Type 0
StackedFrom s r turn o e = (coord r e 0 ≡ turn) × ((k : ℕ) → k < length s → coord r e (suc k) ≡ coord s o k)

-- "REDUCE: flagged axes become 1; rank stays.": they agree along the others
abbrev pub AgreesOff : List ℕ → List ℕ → List ℕ → ℕ → ℕ → Type 0
AgreesOff s r flags o e = (k : ℕ) → k < length s → (word_of flags k ≡ 1 → ⊥) → coord s o k ≡ coord r e k

-- ---- by operation

-- "nodes 2–7 and 20"
abbrev pub Followed : ℕ → Type 0
Followed op = ((2 ≤ op) × (op ≤ 7)) ⊎ (op ≡ 20)

-- Element o of the source is element e of a node with operation op and rows a and b ("A is s', B is o"): a row for each of 2–7 and 20.
-- "RESHAPE: equal element counts" and LOAD keep the number. Of no other operation does it hold.
pub record ComesFrom (op : ℕ) (s r a b : List ℕ) (o e : ℕ) : Type 0 where
  pub followed : Followed op
  pub inside : o < count s
  pub permute : op ≡ 2 → PermutedFrom s r a o e
  pub flip : op ≡ 3 → FlippedFrom s r a o e
  pub reshape : op ≡ 4 → o ≡ e
  pub expand : op ≡ 5 → ExpandedFrom s r o e
  pub pad : op ≡ 6 → PaddedFrom s r b o e
  pub shrink : op ≡ 7 → ShrunkFrom s r b o e
  pub load : op ≡ 20 → o ≡ e

-- "PAD's new cells": no element of the source is element e
abbrev pub NewCell : List ℕ → List ℕ → List ℕ → ℕ → Type 0
NewCell s r offsets e = (o : ℕ) → o < count s → PaddedFrom s r offsets o e → ⊥

-- What REDUCE gathers into element e: exactly the elements that agree with it off the flagged axes, each once, and at least one.
pub record Gathers (s r flags : List ℕ) (e : ℕ) (os : List ElementNumber) : Type 0 where
  pub never_empty : 0 < length os
  pub inside : (i : ℕ) → i < length os → (get_or os i (element 0)).0 < count s
  pub agrees : (i : ℕ) → i < length os → AgreesOff s r flags (get_or os i (element 0)).0 e
  pub all : (o : ℕ) → o < count s → AgreesOff s r flags o e → (i : ℕ) × (i < length os) × ((get_or os i (element 0)).0 ≡ o)
  pub once : (i j : ℕ) → i < length os → j < length os → (get_or os i (element 0)).0 ≡ (get_or os j (element 0)).0 → i ≡ j
