-- Rules 5 to 11 of a node, from the tests that the code makes in turn.
use Prim.Native.Nat.{ℕ, ◌<◌, ◌≤◌}
use mathlib.Core.Path.{◌≡◌, refl, ◌∙◌}
use mathlib.Core.Bool.{Bool, true, false, not}
use mathlib.Core.List.{List, [], ◌∷◌}
use native.Mathlib.Omega.{arith}
use borrow.Author.Tests.{le-leb, lt-leb, leb-true}
use lib.Dec.{leb}
use lib.ListN.{length}
use Rattle.laws.specs.Lists.{among}
use Rattle.laws.specs.Numbering.{count}
use Rattle.laws.proofs.Booleans.{and_true, off, on}
use Rattle.plan.specs.declared.Interval.{Interval}
use Rattle.plan.specs.declared.Node.{Node}
use Rattle.plan.specs.Operations.{PAD, SHRINK, is_operation, by_operation}
use Rattle.plan.specs.Types.{contains, range_of}
use Rattle.plan.specs.Words.{list_of}
use Rattle.plan.specs.Answers.{AllHold, FirstFailing}
use Rattle.plan.proofs.Outcomes.{fails_here, holds_then}
use Rattle.plan.proofs.ByOperation.{◌then◌, for_group}
use Rattle.shapes.specs.Rows.{is_shape_row}
use Rattle.shapes.specs.Rules.{element_limit, shapes_agree, result_extents}
use Rattle.shapes.specs.Shown.{Narrow, capped, shaped, Tested}
use Rattle.shapes.proofs.RowTests.{shape_narrow, offset_narrow}
use Rattle.bounds.specs.Rules.{result_bounds}
use Rattle.shaping.proofs.Counts.{capped_within, same_limit}
use Rattle.rules.specs.Rules.{Derived, type_named, types_agree, device_named, param_right, row_rules, rows_right, shape_right, devices_agree, divisor_right, result_device, result_type, derived_of, bounds_in_type}
use Rattle.rules.proofs.RowRule.{stack_rule}
use Rattle.rules.specs.Code.{shape_rules_of, value_rules_of}

-- ---- what rule 7 leaves for the shape rules

module _ (x : Node) (params rank : ℕ) (rows : rows_right x params rank ≡ true) where
  narrow_a : among x.op shaped ≡ true → Narrow x.rowa
  unfolding rows_right among
  narrow_a m =
      for_group (λ (k : ℕ). by_operation k (row_rules x params rank) false ≡ true → Narrow x.rowa) x.op shaped
      ((λ e. shape_narrow x.rowa (and_true (device_named x) _ (and_true (param_right x params) _ e).1).1)
      then (λ e. shape_narrow x.rowa e)
      then (λ e. shape_narrow x.rowa e)
      then (λ e. shape_narrow x.rowa (and_true (is_shape_row (list_of x.rowa)) _ e).0)
      then (λ e. shape_narrow x.rowa (and_true (is_shape_row (list_of x.rowa)) _ e).0)
      then tt)
      m rows

  narrow_b : among x.op (PAD ∷ SHRINK ∷ []) ≡ true → Narrow x.rowb
  unfolding rows_right among
  narrow_b m =
      for_group (λ (k : ℕ). by_operation k (row_rules x params rank) false ≡ true → Narrow x.rowb) x.op (PAD ∷ SHRINK ∷ [])
      ((λ e. offset_narrow x.rowb rank (and_true (is_shape_row (list_of x.rowa)) _ e).1)
      then (λ e. offset_narrow x.rowb rank (and_true (is_shape_row (list_of x.rowa)) _ e).1)
      then tt)
      m rows

  pub rows_tested : (s : List ℕ) → is_operation x.op ≡ true → count s ≤ element_limit → Tested x s
  rows_tested s h l =
      record {
        operation = h;
        row_a = narrow_a;
        row_b = narrow_b;
        counted = λ q. l;
        stacked = λ q. let n = stack_rule x params rank rows q in (omega (arith, n.0), n.1);
      }

-- ---- rules 5 to 8

module _ (x : Node) (params : ℕ) (a b c : Derived) where
  module _ (r5 : Bool) (e5 : r5 ≡ type_named x) where
    pub breaks_5 : not r5 ≡ true → FirstFailing (shape_rules_of x params a b c) 5
    breaks_5 f = fails_here (type_named x) (off r5 e5 f)

    module _ (n5 : not r5 ≡ false) (r6 : Bool) (e6 : r6 ≡ types_agree x a.dtype b.dtype c.dtype) where
      pub breaks_6 : not r6 ≡ true → FirstFailing (shape_rules_of x params a b c) 6
      breaks_6 f = holds_then (type_named x) (on r5 e5 n5) (fails_here _ (off r6 e6 f))

      module _ (n6 : not r6 ≡ false) (r7 : Bool) (e7 : r7 ≡ rows_right x params (length a.extents)) where
        pub breaks_7 : not r7 ≡ true → FirstFailing (shape_rules_of x params a b c) 7
        breaks_7 f = holds_then (type_named x) (on r5 e5 n5) (holds_then _ (on r6 e6 n6) (fails_here _ (off r7 e7 f)))

        module _ (n7 : not r7 ≡ false) where
          pub rows_held : rows_right x params (length a.extents) ≡ true
          rows_held = on r7 e7 n7

          breaks_8 : shape_right x a.extents b.extents c.extents ≡ false → FirstFailing (shape_rules_of x params a b c) 8
          breaks_8 f =
              holds_then (type_named x) (on r5 e5 n5) (holds_then _ (on r6 e6 n6) (holds_then _ (on r7 e7 n7) (fails_here _ f)))

          module _ (r8 : Bool) (e8 : r8 ≡ shapes_agree x a.extents b.extents c.extents) where
            pub breaks_8_shapes : not r8 ≡ true → FirstFailing (shape_rules_of x params a b c) 8
            unfolding shape_right
            breaks_8_shapes f = breaks_8 (rw (off r8 e8 f) refl)

            module _ (n8 : not r8 ≡ false) (e : List ℕ) (n : ℕ) (se : e ≡ result_extents x a.extents b.extents c.extents) (cn : n ≡ capped (count e)) where
              limit : leb (count (result_extents x a.extents b.extents c.extents)) element_limit ≡ leb n element_limit
              limit = rw (cn, same_limit (count e), se) refl

              pub breaks_8_count : 1048576 < n → FirstFailing (shape_rules_of x params a b c) 8
              unfolding shape_right
              breaks_8_count h = breaks_8 (rw (on r8 e8 n8, limit, lt-leb n element_limit h) refl)

              pub fits_all : n ≤ 1048576 → AllHold (shape_rules_of x params a b c)
              unfolding shape_right
              fits_all h = (on r5 e5 n5, (on r6 e6 n6, (on r7 e7 n7, (rw (on r8 e8 n8, limit, le-leb n element_limit h) refl, tt))))

              pub fits_count : n ≤ 1048576 → n ≡ count e
              fits_count h =
                  let within : count e ≤ element_limit = leb-true _ _ (rw (se, limit) (le-leb n element_limit h)) in
                  cn ∙ capped_within within

-- ---- rules 9 to 11

module _ (x : Node) (a b c : Derived) where
  module _ (r9 : Bool) (e9 : r9 ≡ devices_agree a.device b.device c.device) where
    pub breaks_9 : not r9 ≡ true → FirstFailing (value_rules_of x a b c) 9
    breaks_9 f = fails_here _ (off r9 e9 f)

    module _ (n9 : not r9 ≡ false) (r10 : Bool) (e10 : r10 ≡ divisor_right x.op b.bounds) where
      pub breaks_10 : not r10 ≡ true → FirstFailing (value_rules_of x a b c) 10
      breaks_10 f = holds_then _ (on r9 e9 n9) (fails_here _ (off r10 e10 f))

      module _ (n10 : not r10 ≡ false) (t : ℕ) (i : Interval) (et : t ≡ result_type x a.dtype b.dtype) (ei : i ≡ result_bounds x a.extents a.bounds b.bounds c.bounds)
          (r11 : Bool) (e11 : r11 ≡ contains (range_of t) i) where
        in_derived : r11 ≡ bounds_in_type (derived_of x a b c)
        unfolding bounds_in_type derived_of
        in_derived = e11 ∙ rw (et, ei) refl

        pub breaks_11 : not r11 ≡ true → FirstFailing (value_rules_of x a b c) 11
        breaks_11 f = holds_then _ (on r9 e9 n9) (holds_then _ (on r10 e10 n10) (fails_here _ (off r11 in_derived f)))

        pub values_hold : not r11 ≡ false → AllHold (value_rules_of x a b c)
        values_hold n11 = (on r9 e9 n9, (on r10 e10 n10, (on r11 in_derived n11, tt)))

        pub range_held : not r11 ≡ false → contains (range_of t) i ≡ true
        range_held n11 = on r11 e11 n11

-- the record that is derived, from its parts
pub derived_parts : (x : Node) (a b c : Derived) {t d : ℕ} {i : Interval} {e : List ℕ} → t ≡ result_type x a.dtype b.dtype → d ≡ result_device x a.device b.device c.device
    → i ≡ result_bounds x a.extents a.bounds b.bounds c.bounds → e ≡ result_extents x a.extents b.extents c.extents
    → record { dtype = t; device = d; bounds = i; extents = e } ≡ derived_of x a b c
unfolding derived_of
derived_parts x a b c p q r s = rw (p, q, r, s) refl

-- the bounds of a result, from its sources' bounds as they were computed
pub bounds_of : (x : Node) (s : List ℕ) {i j k a b c r : Interval} → r ≡ result_bounds x s i j k → i ≡ a → j ≡ b → k ≡ c → r ≡ result_bounds x s a b c
bounds_of x s e p q t = e ∙ rw (p, q, t) refl
