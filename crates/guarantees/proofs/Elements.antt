-- What each node holds and reads.
use Prim.Native.Nat.{ℕ, ◌<◌, ◌+◌, ◌*◌, ◌%◌, ◌≤◌}
use mathlib.Core.Path.{◌≡◌, refl, ◌∙◌}
use mathlib.Core.Bool.{true, cond}
use mathlib.Core.List.{List, ◌∷◌}
use native.Mathlib.Omega.{arith}
use native.Mathlib.Nat.{mod-lt}
use borrow.Author.Tests.{eqb-true, eqb-false, ltb-false}
use lib.Dec.{eqb, ltb}
use lib.IntN.{ℤ}
use lib.ListN.{length, get_or, take}
use Rattle.laws.specs.Lists.{among}
use Rattle.laws.specs.Numbering.{count}
use Rattle.plan.specs.declared.ElementNumber.{ElementNumber}
use Rattle.plan.specs.Operations.{WHERE, REDUCE, FILL, STACK, binaries}
use Rattle.plan.specs.Words.{node_at, list_of, size_of, reads}
use Rattle.plan.specs.Answers.{accepted}
use Rattle.shapes.specs.Rules.{reduced, result_extents}
use Rattle.shapes.proofs.Broadcast.{Spreads, spread_below, binary_spreads, where_spreads, fill_spreads}
use Rattle.shapes.proofs.Sources.{gathered_some, gathered_below}
use Rattle.shapes.proofs.Coordinates.{source_below}
use Rattle.rules.specs.Rules.{Derived, no_source}
use Rattle.laws.proofs.Booleans.{bool_cases, cond_both, or_true}
use Rattle.plan.proofs.ByOperation.{stack_reads}
use Rattle.shapes.proofs.Extents.{some_element}
use Rattle.shapes.proofs.Stacking.{stack_second, stack_third, stack_extents}
use Rattle.rules.proofs.RowRule.{stack_rule}
use Rattle.verifier.specs.Check.{first, second, third, count_of, verdict}
use Rattle.verifier.proofs.Nodes.{permutation_row, rows_right_lem, shapes_agree_lem, extents_derived}
use Rattle.cells.specs.Cells.{Cell}
use Rattle.runner.proofs.Fields.{field_count, field_cell}
use Rattle.guarantees.proofs.Nodes.{rules, source_extents}
use Rattle.guarantees.specs.Elements.{ReadsInside, StacksInside, EveryElement}

module _ (t : List ℤ) (ds : List Derived) (input : List Cell) (n : ℕ) (v : verdict t ≡ accepted ds) (h : n < length ds) where
  abbrev a : Derived
  a = first (node_at t n) (take n ds)

  abbrev b : Derived
  b = second (node_at t n) (take n ds)

  abbrev c : Derived
  c = third (node_at t n) (take n ds)

  abbrev d : Derived
  d = get_or ds n no_source

  shape : (get_or ds n no_source).extents ≡ result_extents (node_at t n) (first (node_at t n) (take n ds)).extents (second (node_at t n) (take n ds)).extents (third (node_at t n) (take n ds)).extents
  shape = extents_derived t n (take n ds) (get_or ds n no_source) (rules t ds v n h)

  module _ (e : ElementNumber) (l : e.0 < count_of (get_or ds n no_source)) where
    inside : (s : Derived) → Spreads s.extents (result_extents (node_at t n) a.extents b.extents c.extents) → ReadsInside s (get_or ds n no_source) e
    inside s f = spread_below (rw shape f) e l

    two : among (node_at t n).op (FILL ∷ binaries) ≡ true → ReadsInside (first (node_at t n) (take n ds)) (get_or ds n no_source) e × ReadsInside (second (node_at t n) (take n ds)) (get_or ds n no_source) e
    unfolding among
    two q =
        let p = (source_extents t ds v n h 1 (node_at t n).source1).positive in
        let r = (source_extents t ds v n h 2 (node_at t n).source2).positive in
        let agree = shapes_agree_lem t n (take n ds) d (rules t ds v n h) in
        let f : Spreads a.extents (result_extents (node_at t n) a.extents b.extents c.extents) × Spreads b.extents (result_extents (node_at t n) a.extents b.extents c.extents) =
        or_true (eqb (node_at t n).op FILL) (among (node_at t n).op binaries) q
        (λ k. fill_spreads (node_at t n) a.extents b.extents c.extents p r agree (eqb-true _ _ k))
        (λ k. binary_spreads (node_at t n) a.extents b.extents c.extents p r agree k) in
        (inside a f.0, inside b f.1)

    three : (node_at t n).op ≡ WHERE → ReadsInside (first (node_at t n) (take n ds)) (get_or ds n no_source) e × ReadsInside (second (node_at t n) (take n ds)) (get_or ds n no_source) e
        × ReadsInside (third (node_at t n) (take n ds)) (get_or ds n no_source) e
    three q =
        let f = where_spreads (node_at t n) a.extents b.extents c.extents (source_extents t ds v n h 1 (node_at t n).source1).positive (source_extents t ds v n h 2 (node_at t n).source2).positive (shapes_agree_lem t n (take n ds) d (rules t ds v n h))
        (source_extents t ds v n h 3 (node_at t n).source3).positive q in
        (inside a f.0, inside b f.1, inside c f.2)

    reduces : (node_at t n).op ≡ REDUCE → e.0 < count (reduced (first (node_at t n) (take n ds)).extents (list_of (node_at t n).rowa))
    unfolding result_extents among
    reduces q =
        let z : d.extents ≡ reduced a.extents (list_of (node_at t n).rowa) = shape ∙ rw q refl in
        rw z at l

    -- a STACK has as many elements as its sources
    module _ (q : (node_at t n).op ≡ STACK) where
      some : 0 < count (first (node_at t n) (take n ds)).extents
      some = some_element _ (source_extents t ds v n h 1 (node_at t n).source1).positive

      all : e.0 < size_of (node_at t n).number * count (first (node_at t n) (take n ds)).extents
      unfolding count
      all =
          let z : (get_or ds n no_source).extents ≡ size_of (node_at t n).number ∷ a.extents = shape ∙ stack_extents (node_at t n) a.extents b.extents c.extents q in
          rw z at l

      two_or_three : (size_of (node_at t n).number ≡ 3 → ⊥) → size_of (node_at t n).number ≡ 2
      two_or_three other = let r = stack_rule (node_at t n) _ _ (rows_right_lem t n (take n ds) d (rules t ds v n h)) q in omega (arith, r.0, r.1, other)

      third_read : count a.extents + count a.extents ≤ e.0 → reads (node_at t n) 3 ≡ true
      third_read past =
          bool_cases (eqb (size_of (node_at t n).number) 3)
          (λ k. stack_reads (node_at t n) q ∙ k)
          (λ k. let two : size_of (node_at t n).number ≡ 2 = two_or_three (eqb-false _ _ k) in absurd (omega (arith, past, rw two at all)))

      stacked : StacksInside (node_at t n) (first (node_at t n) (take n ds)) (second (node_at t n) (take n ds)) (third (node_at t n) (take n ds)) e
      stacked =
          let agree = shapes_agree_lem t n (take n ds) d (rules t ds v n h) in
          let small : e.0 % count_of a < count_of a = mod-lt e.0 some in
          let second-same : b.extents ≡ a.extents = stack_second (node_at t n) a.extents b.extents c.extents q agree in
          record {
            inside =
                cond_both (λ (s : Derived). e.0 % count_of a < count_of s) (ltb e.0 (count_of a)) a (cond (ltb e.0 (count_of a + count_of a)) b c)
                (λ k. small)
                (λ k.
                cond_both (λ (s : Derived). e.0 % count_of a < count_of s) (ltb e.0 (count_of a + count_of a)) b c
                (λ k. rw second-same small)
                (λ k.
                let third-same : c.extents ≡ a.extents = stack_third (node_at t n) a.extents b.extents c.extents q agree (third_read (ltb-false _ _ k)) in
                rw third-same small));
            third = third_read;
          }

pub every_element : EveryElement
every_element t ds input n v h =
    record {
      as_many = field_count t ds input (length ds) n h;
      cells = field_cell t ds input (length ds) n h;
      moves = λ f e l.
          source_below (node_at t n) _ _ _ (get_or ds n no_source).extents e (shapes_agree_lem t n (take n ds) _ (rules t ds v n h)) (shape t ds input n v h)
          (permutation_row t n (take n ds) _ (rules t ds v n h)) l f;
      broadcasts = λ q e l. two t ds input n v h e l q;
      chooses = λ q e l. three t ds input n v h e l q;
      gathers = λ q e l. (
        gathered_some _ (list_of (node_at t n).rowa) e (source_extents t ds v n h 1 (node_at t n).source1).positive,
        λ i g. gathered_below _ (list_of (node_at t n).rowa) e i (reduces t ds input n v h e l q) g,
      );
      stacks = λ q e l. stacked t ds input n v h e l q;
    }
