-- What the check has found of a node, for each group of operations.
use Prim.Native.Nat.{ℕ, ◌≤◌, ◌<◌}
use mathlib.Core.Path.{◌≡◌, refl, sym, ap, ◌∙◌}
use mathlib.Core.Bool.{true, false, ◌&&◌, ◌||◌, false≢true}
use mathlib.Core.List.{List, [], ◌∷◌}
use native.Mathlib.Omega.{arith}
use borrow.Author.Tests.{eqb-true, eqb-false, le-ltb}
use lib.Dec.{eqb, ltb}
use lib.ListN.{length}
use Rattle.laws.specs.Lists.{all_below, among}
use Rattle.laws.specs.Numbering.{count}
use Rattle.laws.proofs.Booleans.{bool_cases, and_true, all_below_lem}
use Rattle.plan.specs.declared.Node.{Node}
use Rattle.plan.specs.Operations.{CONST, PERMUTE, FLIP, RESHAPE, EXPAND, PAD, SHRINK, CAST, WHERE, REDUCE, LOAD, FILL, KNOWN, STACK, new_operations, followed, binaries, uses, is_new, by_operation}
use Rattle.plan.specs.Words.{list_of, reads}
use Rattle.plan.proofs.ByOperation.{◌then◌, for_group, reads_low, reads_plain}
use Rattle.shapes.specs.Rows.{extents_of}
use Rattle.shapes.specs.Rules.{shape_rules, shapes_agree, result_rules, result_extents}
use Rattle.shapes.proofs.Broadcast.{Spreads, binary_spreads, where_spreads, fill_spreads}
use Rattle.shapes.proofs.Extents.{positive_none, some_element}
use Rattle.shapes.proofs.Stacking.{stack_extents, stack_second, stack_third}
use Rattle.rules.proofs.RowRule.{stack_rule}
use Rattle.walking.specs.Movements.{viewed, Viewed}
use Rattle.evaluation.specs.Standing.{copied, moves, Padded, Reduced, Stacked}
use Rattle.evaluation.specs.Ready.{Proper, Right}

-- ---- the groups by number

-- the binary operations
between : all_below 18 (λ (op : ℕ). ltb op 9 || among op binaries) ≡ true
unfolding all_below among
between = refl

pub range_binaries : (op : ℕ) → 9 ≤ op → op < 19 → (op ≡ WHERE → ⊥) → among op binaries ≡ true
range_binaries op low high n = rw (le-ltb op 9 low) at (all_below_lem 18 (λ (op : ℕ). ltb op 9 || among op binaries) between op (omega arith))

-- the sources that a group uses
moves_use : (op : ℕ) → among op moves ≡ true → uses op 1 ≡ true
unfolding uses among
moves_use op h = for_group (λ (op : ℕ). uses op 1 ≡ true) op moves (refl then refl then refl then refl then refl then refl then refl then refl then tt) h

mixed_using : all_below 19 (λ (op : ℕ). ltb op 9 || (uses op 1 && uses op 2)) ≡ true
unfolding all_below uses among
mixed_using = refl

mixed_uses : (op : ℕ) → 9 ≤ op → op < 19 → (uses op 1 ≡ true) × (uses op 2 ≡ true)
mixed_uses op low high =
    and_true (uses op 1) (uses op 2) (rw (le-ltb op 9 low) at (all_below_lem 19 (λ (op : ℕ). ltb op 9 || (uses op 1 && uses op 2)) mixed_using op high))

where_uses : (op : ℕ) → op ≡ WHERE → uses op 3 ≡ true
unfolding uses among
where_uses op q = rw q refl

reduce_uses : (op : ℕ) → op ≡ REDUCE → uses op 1 ≡ true
unfolding uses among
reduce_uses op q = rw q refl

new_uses : (op : ℕ) → is_new op ≡ true → uses op 1 ≡ true
unfolding uses is_new among
new_uses op h = for_group (λ (op : ℕ). uses op 1 ≡ true) op new_operations (refl then refl then refl then tt) h

two_use : (op : ℕ) → among op (FILL ∷ STACK ∷ []) ≡ true → uses op 2 ≡ true
unfolding uses among
two_use op h = for_group (λ (op : ℕ). uses op 2 ≡ true) op (FILL ∷ STACK ∷ []) (refl then refl then tt) h

-- and so reads: only a STACK may have a word that it uses and does not read, its third source
module _ (x : Node) where
  first_read : uses x.op 1 ≡ true → reads x 1 ≡ true
  first_read u = rw (reads_low x 1 (λ q. omega arith)) u

  second_read : uses x.op 2 ≡ true → reads x 2 ≡ true
  second_read u = rw (reads_low x 2 (λ q. omega arith)) u

  pub moves_read : among x.op moves ≡ true → reads x 1 ≡ true
  moves_read h = first_read (moves_use x.op h)

  pub mixed_reads : 9 ≤ x.op → x.op < 19 → (reads x 1 ≡ true) × (reads x 2 ≡ true)
  mixed_reads low high = let u = mixed_uses x.op low high in (first_read u.0, second_read u.1)

  pub where_reads : x.op ≡ WHERE → reads x 3 ≡ true
  where_reads q = rw (reads_plain x 3 (λ w. omega arith)) (where_uses x.op q)

  pub reduce_reads : x.op ≡ REDUCE → reads x 1 ≡ true
  reduce_reads q = first_read (reduce_uses x.op q)

  pub new_reads : is_new x.op ≡ true → reads x 1 ≡ true
  new_reads h = first_read (new_uses x.op h)

  pub fill_reads : x.op ≡ FILL → reads x 2 ≡ true
  unfolding among
  fill_reads q = second_read (two_use x.op (rw q refl))

  pub stack_two : x.op ≡ STACK → reads x 2 ≡ true
  unfolding among
  stack_two q = second_read (two_use x.op (rw q refl))

-- what is left of the operations that a lookup follows back
pub followed_viewed : (op : ℕ) → among op followed ≡ true → (op ≡ 6 → ⊥) → (eqb op 4 || eqb op 20) ≡ false → among op viewed ≡ true
unfolding among
followed_viewed op h =
    for_group (λ (op : ℕ). (op ≡ 6 → ⊥) → (eqb op 4 || eqb op 20) ≡ false → among op viewed ≡ true) op followed
    ((λ a b. refl) then (λ a b. refl) then (λ a b. absurd (false≢true (sym b))) then (λ a b. refl) then (λ a b. absurd (a refl)) then (λ a b. refl) then (λ a b. absurd (false≢true (sym b))) then tt) h

-- a source that there is not
pub proper_none : Proper []
unfolding count
proper_none = record { positive = positive_none; ranked = omega arith; few = omega arith }

module _ (x : Node) (s t u r : List ℕ) (right : Right x s t u r) where
  pub viewed_right : among x.op viewed ≡ true → Viewed x s
  unfolding shapes_agree among
  viewed_right h =
      record {
        params = right.params;
        operation = h;
        rows = right.rows;
        shapes =
            for_group (λ (op : ℕ). x.op ≡ op → shapes_agree x s [] [] ≡ true) x.op viewed
            ((λ q. rw q (rw q at right.shapes)) then (λ q. rw q (rw q at right.shapes)) then (λ q. rw q (rw q at right.shapes)) then (λ q. rw q (rw q at right.shapes)) then tt) h refl;
        positive = right.first.positive;
        few = right.first.few;
      }

  pub viewed_result : among x.op viewed ≡ true → r ≡ result_extents x s [] []
  unfolding result_extents among
  viewed_result h =
      for_group (λ (op : ℕ). x.op ≡ op → r ≡ result_extents x s [] []) x.op viewed
      ((λ q. rw q (rw q at right.result)) then (λ q. rw q (rw q at right.result)) then (λ q. rw q (rw q at right.result)) then (λ q. rw q (rw q at right.result)) then tt) h refl

  pub copied_count : among x.op copied ≡ true → count s ≡ count r
  unfolding result_extents shapes_agree among
  copied_count h =
      for_group (λ (op : ℕ). x.op ≡ op → count s ≡ count r) x.op copied
      ((λ q. rw (rw q at right.result) (eqb-true (count s) (count (extents_of (list_of x.rowa))) (rw q at right.shapes))) then (λ q. ap count (sym (rw q at right.result))) then (λ q. ap count (sym (rw q at right.result))) then tt) h refl

  pub padded_right : x.op ≡ PAD → Padded x s r
  unfolding result_extents shapes_agree among
  padded_right q =
      record {
        operation = q;
        shapes = rw q (rw q at right.shapes);
        result = rw q at right.result;
        positive = right.first.positive;
        ranked = right.first.ranked;
        few = (right.first.few, right.whole.few);
      }

  pub const_result : x.op ≡ CONST → r ≡ []
  unfolding result_extents among
  const_result q = rw q at right.result

  pub reduced_right : x.op ≡ REDUCE → Reduced x s r
  unfolding result_extents among
  reduced_right q = record { operation = q; result = rw q at right.result; positive = right.first.positive; few = right.first.few }

  -- sources that the operation does not use do not matter
  move_agrees : among x.op moves ≡ true → shapes_agree x s [] [] ≡ true
  unfolding shapes_agree among
  move_agrees h =
      let by : (op : ℕ) → x.op ≡ op → by_operation op (shape_rules x s t u) false ≡ true = λ op q. ap (λ (k : ℕ). by_operation k (shape_rules x s t u) false) (sym q) ∙ right.shapes in
      for_group (λ (op : ℕ). x.op ≡ op → by_operation op (shape_rules x s [] []) false ≡ true) x.op moves
      (by CAST then by PERMUTE then by FLIP then by RESHAPE then by EXPAND then by PAD then by SHRINK then by LOAD then tt) h refl

  move_result : among x.op moves ≡ true → r ≡ result_extents x s [] []
  unfolding result_extents among
  move_result h =
      let by : (op : ℕ) → x.op ≡ op → r ≡ by_operation op (result_rules x s t u) [] = λ op q. rw q at right.result in
      for_group (λ (op : ℕ). x.op ≡ op → r ≡ by_operation op (result_rules x s [] []) []) x.op moves
      (by CAST then by PERMUTE then by FLIP then by RESHAPE then by EXPAND then by PAD then by SHRINK then by LOAD then tt) h refl

  pub first_right : among x.op moves ≡ true → Right x s [] [] r
  first_right h =
      record {
        params = right.params;
        known = right.known;
        rows = right.rows;
        shapes = move_agrees h;
        result = move_result h;
        first = right.first;
        second = proper_none;
        third = proper_none;
        whole = right.whole;
      }

  -- the sources of a binary operation or WHERE are broadcast to the result
  pub mixed_spreads : 9 ≤ x.op → x.op < 19 → Spreads s r × Spreads t r × (x.op ≡ WHERE → Spreads u r)
  mixed_spreads low high =
      rw right.result
      (bool_cases (eqb x.op WHERE)
      (λ is.
      let all = where_spreads x s t u right.first.positive right.second.positive right.shapes right.third.positive (eqb-true x.op WHERE is) in
      (all.0, all.1, λ q. all.2))
      (λ is.
      let n : x.op ≡ WHERE → ⊥ = eqb-false x.op WHERE is in
      let two = binary_spreads x s t u right.first.positive right.second.positive right.shapes (range_binaries x.op low high n) in
      (two.0, two.1, λ q. absurd (n q))))

  -- so are those of a FILL
  pub filled_spreads : x.op ≡ FILL → Spreads s r × Spreads t r
  filled_spreads q = rw right.result (fill_spreads x s t u right.first.positive right.second.positive right.shapes q)

  pub known_result : x.op ≡ KNOWN → r ≡ s
  unfolding result_extents among
  known_result q = rw q at right.result

  pub stacked_right : x.op ≡ STACK → Stacked x s t u r
  stacked_right q =
      record {
        operation = q;
        number = stack_rule x right.params (length s) right.rows q;
        result = right.result ∙ stack_extents x s t u q;
        second = stack_second x s t u q right.shapes;
        third = stack_third x s t u q right.shapes;
        some = some_element s right.first.positive;
        few = right.first.few;
      }
