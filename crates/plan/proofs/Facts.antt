-- What the paper says of this crate's definitions in single cases. One computation shows all of them.
use Prim.Native.Nat.{ℕ, ◌+◌}
use mathlib.Core.Path.{◌≡◌, refl}
use mathlib.Core.Bool.{true, false, cond}
use mathlib.Core.List.{List, [], ◌∷◌, ◌++◌, map}
use lib.Dec.{ltb}
use lib.IntN.{ℤ, pos, negsuc}
use Rattle.laws.specs.Lists.{tab, among, concat}
use Rattle.plan.specs.declared.Interval.{Interval}
use Rattle.plan.specs.declared.Node.{Node}
use Rattle.plan.specs.declared.Answer.{Answer}
use Rattle.plan.specs.Operations.{CONST, PARAM, PAD, WHERE, REDUCE, LOAD, uses}
use Rattle.plan.specs.Types.{between, range_of}
use Rattle.plan.specs.Words.{node, size_of, node_of, words_of, node_at}
use Rattle.plan.specs.Answers.{Outcome, accepted, refuse, need, in_turn, rule, in_order, answer_of, written, buffer_after}

pub data Value : Type 0 where
  numbers : List ℕ → Value
  range : Interval → Value
  size : ℕ → Value
  decoded : Node → Value
  answer : Answer → Value
  outcome : Outcome ℕ → Value

pub data Fact : Type 0 where
  ◌is◌ : Value → Value → Fact

infix 4 ◌is◌
abbrev asked : Fact → Value
asked (a is b) = a

abbrev said : Fact → Value
said (a is b) = b

-- the words that an operation uses
abbrev used : ℕ → Value
used op = numbers (concat (tab 17 (λ (k : ℕ). cond (uses op k) (k ∷ []) [])))

-- two nodes: of the first every word is 99, of the second word k is k
abbrev table : List ℤ
table = tab 17 (λ (k : ℕ). pos 99) ++ tab 17 pos

-- adds its number, and from step 2 on refuses with 4
abbrev step : ℕ → ℕ → Outcome ℕ
step n so_far = need (ltb n 2) 4 n (accepted (so_far + n))

abbrev twice : ℕ → List ℕ
twice n = n ∷ n ∷ []

abbrev facts : List Fact
facts =
    (used CONST is numbers (4 ∷ 5 ∷ []))
    ∷ (used PARAM is numbers (4 ∷ 5 ∷ 6 ∷ 7 ∷ 8 ∷ 9 ∷ 10 ∷ 11 ∷ 12 ∷ []))
    ∷ (used PAD is numbers (1 ∷ 9 ∷ 10 ∷ 11 ∷ 12 ∷ 13 ∷ 14 ∷ 15 ∷ 16 ∷ []))
    ∷ (used WHERE is numbers (1 ∷ 2 ∷ 3 ∷ []))
    ∷ (used REDUCE is numbers (1 ∷ 5 ∷ 9 ∷ 10 ∷ 11 ∷ 12 ∷ []))
    ∷ (used LOAD is numbers (1 ∷ 6 ∷ []))
    ∷ (range (range_of 0) is range (between (pos 0) (pos 1)))
    ∷ (range (range_of 1) is range (between (pos 0) (pos 255)))
    ∷ (range (range_of 2) is range (between (negsuc 32766) (pos 32767)))
    ∷ (range (range_of 3) is range (between (negsuc 2147483647) (pos 2147483647)))
    ∷ (size (size_of (pos 5)) is size 5)
    ∷ (size (size_of (negsuc 0)) is size 18446744073709551615)
    ∷ (decoded (node_at table 1)
    is decoded
    (record {
      op = 0;
      source1 = node 1;
      source2 = node 2;
      source3 = node 3;
      dtype = 4;
      number = pos 5;
      device = 6;
      low = pos 7;
      high = pos 8;
      rowa = record { r0 = 9; r1 = 10; r2 = 11; r3 = 12 };
      rowb = record { r0 = 13; r1 = 14; r2 = 15; r3 = 16 };
    }))
    ∷ (answer (answer_of (λ (n : ℕ). n) (accepted 7)) is answer (record { number = 0; place = 0; count = 7 }))
    ∷ (answer (answer_of (λ (n : ℕ). n) (refuse 5 3)) is answer (record { number = 5; place = 3; count = 0 }))
    ∷ (numbers (buffer_after twice (accepted 7) (1 ∷ 2 ∷ 3 ∷ [])) is numbers (7 ∷ 7 ∷ 3 ∷ []))
    ∷ (numbers (buffer_after twice (refuse 5 3) (1 ∷ 2 ∷ 3 ∷ [])) is numbers (1 ∷ 2 ∷ 3 ∷ []))
    ∷ (outcome (in_turn step 10 2) is outcome (accepted 11))
    ∷ (outcome (in_turn step 10 5) is outcome (refuse 4 2))
    ∷ (outcome (in_order (rule 2 true ∷ rule 3 true ∷ []) 6 (accepted 1)) is outcome (accepted 1))
    ∷ (outcome (in_order (rule 2 true ∷ rule 3 false ∷ []) 6 (accepted 1)) is outcome (refuse 3 6))
    ∷ (outcome (in_order (rule 2 false ∷ rule 3 false ∷ []) 6 (accepted 1)) is outcome (refuse 2 6))
    ∷ []

pub facts_hold : map asked facts ≡ map said facts
unfolding tab among concat uses range_of size_of node_of words_of node_at in_turn written
facts_hold = refl
