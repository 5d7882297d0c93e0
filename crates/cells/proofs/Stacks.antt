-- STACK: element c of the source whose turn it is, from 0, is element turn * n + c of the result, where a source has n elements.
use Prim.Native.Nat.{ℕ, ◌+◌, ◌*◌, ◌%◌, ◌<◌, ◌≤◌}
use mathlib.Core.Path.{◌≡◌, refl}
use mathlib.Core.List.{List}
use native.Mathlib.Omega.{arith}
use borrow.Author.Tests.{lt-ltb, le-ltb}
use lib.Arith.{digits_mod}
use lib.ListN.{get_or}
use Rattle.laws.specs.Lists.{among}
use Rattle.laws.specs.Numbering.{count}
use Rattle.plan.specs.declared.Node.{Node}
use Rattle.plan.specs.Operations.{STACK}
use Rattle.plan.specs.Words.{element}
use Rattle.cells.specs.Cells.{gap}
use Rattle.cells.specs.Nodes.{Operands, stack_cell, eval_cell}

stack_is : (x : Node) (r : List ℕ) (o : Operands) (e : ℕ) → x.op ≡ STACK → eval_cell x r o (element e) ≡ stack_cell o (element e)
unfolding eval_cell among
stack_is x r o e q = rw q refl

module _ (x : Node) (r : List ℕ) (o : Operands) (q : x.op ≡ STACK) {n : ℕ} (as_many : count o.a.extents ≡ n) (c : ℕ) (h : c < n) where
  within : (turn : ℕ) {e : ℕ} → e ≡ turn * n + c → e % n ≡ c
  within turn i = rw i (digits_mod turn h)

  pub first_cell : eval_cell x r o (element c) ≡ get_or o.a.cells c gap
  unfolding stack_cell
  first_cell = rw (stack_is x r o c q, as_many, lt-ltb c n h, within 0 {e = c} (omega arith)) refl

  pub second_cell : eval_cell x r o (element (n + c)) ≡ get_or o.b.cells c gap
  unfolding stack_cell
  second_cell =
      let past : n ≤ n + c = omega arith in
      let under : n + c < n + n = omega arith in
      rw (stack_is x r o (n + c) q, as_many, le-ltb (n + c) n past, lt-ltb (n + c) (n + n) under, within 1 {e = n + c} (omega arith)) refl

  pub third_cell : eval_cell x r o (element (n + n + c)) ≡ get_or o.c.cells c gap
  unfolding stack_cell
  third_cell =
      let past : n ≤ n + n + c = omega arith in
      let over : n + n ≤ n + n + c = omega arith in
      rw (stack_is x r o (n + n + c) q, as_many, le-ltb (n + n + c) n past, le-ltb (n + n + c) (n + n) over, within 2 {e = n + n + c} (omega arith)) refl
