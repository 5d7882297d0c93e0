-- The numbers of a verdict: how many nodes there are, which rule is named, and at which place.
use Prim.Native.Nat.{ℕ, ◌%◌, ◌≤◌}
use mathlib.Core.Path.{◌≡◌}
use mathlib.Core.Bool.{Bool, true, false, ◌&&◌}
use mathlib.Core.List.{List, [], ◌∷◌}
use native.Mathlib.Omega.{arith}
use borrow.Author.Tests.{leb-true}
use lib.IntN.{ℤ}
use lib.Dec.{eqb, leb}
use lib.ListN.{length}
use Rattle.laws.proofs.Booleans.{and_true}
use Rattle.plan.specs.Words.{node_count, length_right}
use Rattle.plan.specs.Answers.{Refusal, Rule, rule, FirstFailing, here, later}
use Rattle.verifier.specs.Meets.{Refuses, bad_length, bad_node, too_many}

-- ---- the number of a rule

abbrev numbered : List Rule → Bool
numbered [] = true
numbered (rule number test ∷ rules) = (leb 2 number && leb number 11) && numbered rules

-- 2 to 11: the rules of one node
abbrev pub OfNode : ℕ → Type 0
OfNode number = (2 ≤ number) × (number ≤ 11)

abbrev pub InRange : ℕ → Type 0
InRange number = (1 ≤ number) × (number ≤ 12)

pub number_of : (rules : List Rule) (number : ℕ) → numbered rules ≡ true → FirstFailing rules number → OfNode number
number_of (rule k false ∷ rules) number n here =
    let this = and_true (leb 2 k) (leb k 11) (and_true (leb 2 k && leb k 11) (numbered rules) n).0 in
    (leb-true 2 k this.0, leb-true k 11 this.1)
number_of (rule k true ∷ rules) number n (later f) = number_of rules number (and_true (leb 2 k && leb k 11) (numbered rules) n).1 f
number_of [] number n f = elim f [ ]

-- ---- a plan's nodes, and the place of a refusal

-- "1 to 256 nodes"
abbrev pub Several : ℕ → Type 0
Several n = (1 ≤ n) × (n ≤ 256)

pub few_nodes : (t : List ℤ) → length_right t ≡ true → Several (node_count t)
unfolding length_right
few_nodes t e =
    let b = and_true (leb 1 (node_count t)) (leb (node_count t) 256) (and_true (eqb (length t % 17) 0) _ e).1 in
    (leb-true 1 (node_count t) b.0, leb-true (node_count t) 256 b.1)

-- a refusal names a rule, and a node or 0
pub refusal_numbered : (t : List ℤ) (r : Refusal) → Refuses t r → InRange r.number × (r.place ≤ 256)
refusal_numbered t r (bad_length e) = ((omega arith, omega arith), omega arith)
refusal_numbered t r (bad_node e l m low high smaller fails) = ((omega arith, omega arith), omega (arith, (few_nodes t e).1))
refusal_numbered t r (too_many e m l) = ((omega arith, omega arith), omega arith)
