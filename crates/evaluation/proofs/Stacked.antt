-- STACK: one source after another.
use Prim.Native.Nat.{ℕ, ◌+◌, ◌*◌, ◌<◌, ◌≤◌}
use mathlib.Core.Path.{◌≡◌, sym, ap, ◌∙◌}
use mathlib.Core.Bool.{true, false}
use mathlib.Core.List.{List}
use native.Mathlib.Omega.{arith}
use native.Mathlib.Nat.{mul-le-mul_right}
use borrow.Author.Tests.{eqb-true, eqb-false}
use lib.IntN.{ℤ, pos}
use lib.ListN.{length, get_or}
use Rattle.laws.specs.Numbering.{count}
use Rattle.laws.specs.Store.{store}
use Rattle.laws.proofs.Store.{length_store, store_same, store_read, store_after_store}
use Rattle.plan.specs.declared.Node.{Node}
use Rattle.plan.specs.Words.{element, size_of, reads}
use Rattle.plan.proofs.ByOperation.{stack_reads}
use Rattle.cells.specs.Nodes.{Operands, eval_cell}
use Rattle.cells.proofs.Stacks.{first_cell, second_cell, third_cell}
use Rattle.runner.specs.Run.{value_of, flag_of}
use Rattle.evaluation.specs.Standing.{Source, Evaluates, Stacked}

-- written twice, as long as before
pub length_twice : {A : Type 0} (l m k : List A) (a b c d : ℕ) (f g : ℕ → A) → m ≡ store l a b f → k ≡ store m c d g → length k ≡ length l
length_twice l m k a b c d f g e e' = ap length e' ∙ length_store m c d g ∙ ap length e ∙ length_store l a b f

-- ---- two and three parts of n cells, which stand at pa, pb and pc before `start`

module _ {A : Type 0} (d : A) (l : List A) (start n pa pb : ℕ) (f : ℕ → A) {m k : List A}
    (e : m ≡ store l start n (λ (j : ℕ). get_or l (pa + j) d)) (first : (c : ℕ) → c < n → get_or l (pa + c) d ≡ f c)
    (e' : k ≡ store m (start + n) n (λ (j : ℕ). get_or m (pb + j) d)) (b-near : pb + n ≤ start) (second : (c : ℕ) → c < n → get_or l (pb + c) d ≡ f (n + c)) where
  two_laid : k ≡ store l start (n + n) f
  two_laid =
      store_after_store l m k start n n f _ (e ∙ store_same l start n _ f first) e'
      (λ c h. store_read l m start n _ (pb + c) d e (omega arith) ∙ second c h)

  three_laid : (pc : ℕ) {end : List A} → end ≡ store k (start + n + n) n (λ (j : ℕ). get_or k (pc + j) d) → pc + n ≤ start → ((c : ℕ) → c < n → get_or l (pc + c) d ≡ f (n + n + c))
      → end ≡ store l start (n + n + n) f
  three_laid pc {end} e'' c-near third =
      let at : start + n + n ≡ start + (n + n) = omega arith in
      store_after_store l k end start (n + n) n f _ two_laid (rw at at e'')
      (λ c h. store_read l k start (n + n) f (pc + c) d two_laid (omega arith) ∙ third c h)

-- ---- the node

-- as many elements as its sources have together
stack_count : {x : Node} {s t u r : List ℕ} → Stacked x s t u r → count r ≡ size_of x.number * count s
unfolding count
stack_count p = ap count p.result

-- so there is room for them
pub two_fit : {x : Node} {s t u r : List ℕ} {n : ℕ} → Stacked x s t u r → n ≡ count s → n + n ≤ count r
two_fit {x} {s} {n = n} p e = rw (stack_count p, ← e) (omega (arith, mul-le-mul_right n p.number.0))

-- with number 3 it reads its third source, and with 2 it does not
of_three : {x : Node} {s t u r : List ℕ} → Stacked x s t u r → reads x 3 ≡ true → size_of x.number ≡ 3
of_three {x} p e = eqb-true (size_of x.number) 3 (sym (stack_reads x p.operation) ∙ e)

of_two : {x : Node} {s t u r : List ℕ} → Stacked x s t u r → reads x 3 ≡ false → size_of x.number ≡ 2
of_two {x} p e = let other = eqb-false (size_of x.number) 3 (sym (stack_reads x p.operation) ∙ e) in omega (arith, p.number, other)

pub three_fit : {x : Node} {s t u r : List ℕ} {n : ℕ} → Stacked x s t u r → n ≡ count s → reads x 3 ≡ true → n + n + n ≤ count r
three_fit {n = n} p e three = rw (stack_count p, ← e, of_three p three) (omega arith)

module _ {x : Node} {s t u r : List ℕ} (p : Stacked x s t u r) (o : Operands) (vs : List ℤ) (fs : List ℕ) (pa pb : ℕ) {n : ℕ} (as_many : n ≡ count s)
    (a : Source vs fs pa s o.a) (b : Source vs fs pb t o.b) where
  a_count : count o.a.extents ≡ n
  a_count = ap count a.shape ∙ sym as_many

  b_count : count o.b.extents ≡ n
  b_count = ap count (b.shape ∙ p.second) ∙ sym as_many

  value_a : (c : ℕ) → c < n → get_or vs (pa + c) (pos 0) ≡ value_of (eval_cell x r o (element c))
  value_a c h = a.stands.values c (rw a_count h) ∙ ap value_of (sym (first_cell x r o p.operation a_count c h))

  flag_a : (c : ℕ) → c < n → get_or fs (pa + c) 0 ≡ flag_of (eval_cell x r o (element c))
  flag_a c h = a.stands.flags c (rw a_count h) ∙ ap flag_of (sym (first_cell x r o p.operation a_count c h))

  value_b : (c : ℕ) → c < n → get_or vs (pb + c) (pos 0) ≡ value_of (eval_cell x r o (element (n + c)))
  value_b c h = b.stands.values c (rw b_count h) ∙ ap value_of (sym (second_cell x r o p.operation a_count c h))

  flag_b : (c : ℕ) → c < n → get_or fs (pb + c) 0 ≡ flag_of (eval_cell x r o (element (n + c)))
  flag_b c h = b.stands.flags c (rw b_count h) ∙ ap flag_of (sym (second_cell x r o p.operation a_count c h))

  module _ (start : ℕ) (b-near : pb + n ≤ start) {vs₁ vs₂ : List ℤ} {fs₁ fs₂ : List ℕ}
      (ev₁ : vs₁ ≡ store vs start n (λ (j : ℕ). get_or vs (pa + j) (pos 0))) (ef₁ : fs₁ ≡ store fs start n (λ (j : ℕ). get_or fs (pa + j) 0))
      (ev₂ : vs₂ ≡ store vs₁ (start + n) n (λ (j : ℕ). get_or vs₁ (pb + j) (pos 0))) (ef₂ : fs₂ ≡ store fs₁ (start + n) n (λ (j : ℕ). get_or fs₁ (pb + j) 0)) where
    pub two_evaluates : reads x 3 ≡ false → Evaluates x r o vs fs start vs₂ fs₂
    two_evaluates two =
        let all : count r ≡ n + n = stack_count p ∙ rw (of_two p two, ← as_many) (omega arith) in
        record {
          values = rw all (two_laid (pos 0) vs start n pa pb (λ (e : ℕ). value_of (eval_cell x r o (element e))) ev₁ value_a ev₂ b-near value_b);
          flags = rw all (two_laid 0 fs start n pa pb (λ (e : ℕ). flag_of (eval_cell x r o (element e))) ef₁ flag_a ef₂ b-near flag_b);
        }

    pub three_evaluates : reads x 3 ≡ true → (pc : ℕ) → Source vs fs pc u o.c → pc + n ≤ start → {vs₃ : List ℤ} {fs₃ : List ℕ}
        → vs₃ ≡ store vs₂ (start + n + n) n (λ (j : ℕ). get_or vs₂ (pc + j) (pos 0)) → fs₃ ≡ store fs₂ (start + n + n) n (λ (j : ℕ). get_or fs₂ (pc + j) 0)
        → Evaluates x r o vs fs start vs₃ fs₃
    three_evaluates three pc c c-near ev₃ ef₃ =
        let all : count r ≡ n + n + n = stack_count p ∙ rw (of_three p three, ← as_many) (omega arith) in
        let c-count : count o.c.extents ≡ n = ap count (c.shape ∙ p.third three) ∙ sym as_many in
        record {
          values =
              rw all
              (three_laid (pos 0) vs start n pa pb (λ (e : ℕ). value_of (eval_cell x r o (element e))) ev₁ value_a ev₂ b-near value_b pc ev₃ c-near
              (λ k h. c.stands.values k (rw c-count h) ∙ ap value_of (sym (third_cell x r o p.operation a_count k h))));
          flags =
              rw all
              (three_laid 0 fs start n pa pb (λ (e : ℕ). flag_of (eval_cell x r o (element e))) ef₁ flag_a ef₂ b-near flag_b pc ef₃ c-near
              (λ k h. c.stands.flags k (rw c-count h) ∙ ap flag_of (sym (third_cell x r o p.operation a_count k h))));
        }
