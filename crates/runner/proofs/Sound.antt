-- Every known element lies in its node's bounds, at every prefix of a plan that is accepted so far.
use Prim.Native.Nat.{ℕ, ◌+◌, ◌<◌, ◌≤◌}
use mathlib.Core.Path.{◌≡◌, refl, subst}
use mathlib.Core.Bool.{true, false, not, false≢true}
use mathlib.Core.List.{List, [], ◌∷◌}
use native.Mathlib.Omega.{arith}
use borrow.Author.Tests.{ltb-true, ltb-false}
use lib.IntN.{ℤ, pos}
use lib.Dec.{ltb}
use lib.ListN.{length, get_or, take, length-take, get_or-eq_default}
use lib.Seq.{get_or-take, get_or-drop}
use Rattle.laws.specs.Lists.{among}
use Rattle.laws.proofs.Booleans.{bool_cases}
use Rattle.laws.proofs.Induction.{each_below}
use Rattle.plan.specs.declared.Interval.{Interval}
use Rattle.plan.specs.declared.NodeNumber.{NodeNumber}
use Rattle.plan.specs.declared.ElementNumber.{ElementNumber}
use Rattle.plan.specs.Operations.{PARAM, IDIV, MOD}
use Rattle.plan.specs.Types.{holds, range_of}
use Rattle.plan.specs.declared.Node.{Node}
use Rattle.plan.specs.Words.{node_at, reads}
use Rattle.plan.proofs.ByOperation.{divides_reads}
use Rattle.bounds.proofs.Sound.{In, holding, wider}
use Rattle.rules.specs.Rules.{Derived, no_source, source_of, divisor_right}
use Rattle.verifier.specs.Check.{first, second, third, count_of}
use Rattle.verifier.specs.Meets.{NodesMeet}
use Rattle.verifier.proofs.Nodes.{op_known, divisor_right_lem, bounds_derived, in_type, source2_before, source_is}
use Rattle.cells.specs.Cells.{Cell, known, gap, Field, cell_at}
use Rattle.cells.proofs.Sound.{Bounded, Sound, NoZero, Supplied, node_sound}
use Rattle.runner.specs.Inputs.{input_start, declared}
use Rattle.runner.specs.Run.{no_field, field_of, operands_of, node_field, fields_to}
use Rattle.runner.proofs.Fields.{fields_length, field_at, field_stays, field_extents}

-- the cells of each PARAM of the first n nodes lie in its declared limits
abbrev pub Fed : List ℤ → List Derived → ℕ → List Cell → Type 0
Fed t ds n input =
    (i e : ℕ) → i < n → (node_at t i).op ≡ PARAM → e < count_of (get_or ds i no_source) → Bounded (declared t i) (get_or input (input_start t ds i + e) gap)

-- a source as the rules see it, and as the run does
record Matches (d : Derived) (f : Field) : Type 0 where
  sound : Sound d.bounds f
  extents : f.extents ≡ d.extents

unused : Matches no_source no_field
unused = record { sound = λ e. tt; extents = refl }

-- rule 10
divisor_rule : (op : ℕ) (b : Interval) → divisor_right op b ≡ true → NoZero op b
unfolding divisor_right
divisor_rule op b e m = rw m at e

module _ (t : List ℤ) (n : ℕ) (ds : List Derived) (m : NodesMeet t n ds) (input : List Cell) (fed : Fed t ds n input) where
  abbrev field : ℕ → Field
  field i = get_or (fields_to t ds input n) i no_field

  module _ (i : ℕ) (h : i < n) (before : (j : ℕ) → j < i → Sound (get_or ds j no_source).bounds (get_or (fields_to t ds input n) j no_field)) where
    matches : (x : Node) (k : ℕ) (s : NodeNumber) → Matches (source_of (take i ds) x k s) (field_of (fields_to t ds input i) x k s)
    unfolding source_of field_of
    matches x k s = bool_cases (reads x k) (λ u. rw u here) (λ u. rw u unused)
      where
        there : s.0 < i → Matches (get_or (take i ds) s.0 no_source) (get_or (fields_to t ds input i) s.0 no_field)
        there l =
            rw (get_or-take i ds s.0 no_source l, field_stays t ds input i n s.0 l (omega arith))
            (record { sound = before s.0 l; extents = field_extents t ds input n s.0 (omega arith) })

        past : i ≤ s.0 → Matches (get_or (take i ds) s.0 no_source) (get_or (fields_to t ds input i) s.0 no_field)
        past l =
            let a : length (take i ds) ≤ s.0 = rw length-take (omega arith) in
            let b : length (fields_to t ds input i) ≤ s.0 = rw fields_length l in
            rw (get_or-eq_default (take i ds) no_source a, get_or-eq_default (fields_to t ds input i) no_field b) unused

        here : Matches (get_or (take i ds) s.0 no_source) (get_or (fields_to t ds input i) s.0 no_field)
        here = bool_cases (ltb s.0 i) (λ l. there (ltb-true _ _ l)) (λ l. past (ltb-false _ _ l))

    no_cells : (x : Node) (k : ℕ) (s : NodeNumber) → reads x k ≡ false → (e : ElementNumber) → cell_at (field_of (fields_to t ds input i) x k s) e ≡ gap
    unfolding field_of
    no_cells x k s u e = rw u refl

    supplied : Supplied (node_at t i) (get_or ds i no_source).extents (operands_of t ds input i (fields_to t ds input i)) (first (node_at t i) (take i ds)).bounds (second (node_at t i) (take i ds)).bounds
        (third (node_at t i) (take i ds)).bounds
    unfolding operands_of
    supplied =
        record {
          input = λ q e l. rw get_or-drop (fed i e h q l);
          first = (matches (node_at t i) 1 (node_at t i).source1).sound;
          second = (matches (node_at t i) 2 (node_at t i).source2).sound;
          third = (matches (node_at t i) 3 (node_at t i).source3).sound;
          unread = λ u e. no_cells (node_at t i) 3 (node_at t i).source3 u e;
        }

    one_sound : Sound (get_or ds i no_source).bounds (get_or (fields_to t ds input n) i no_field)
    unfolding node_field operands_of
    one_sound e =
        let rules = m.each i h in
        let same = (matches (node_at t i) 1 (node_at t i).source1).extents in
        rw (field_at t ds input n i h, bounds_derived t i (take i ds) (get_or ds i no_source) rules, ← same)
        (node_sound (node_at t i) (get_or ds i no_source).extents (operands_of t ds input i (fields_to t ds input i)) _ _ _
        (op_known t i (take i ds) (get_or ds i no_source) rules) (divisor_rule (node_at t i).op _ (divisor_right_lem t i (take i ds) (get_or ds i no_source) rules)) supplied e)

  -- every cell of every node
  pub all_sound : (i : ℕ) → i < n → Sound (get_or ds i no_source).bounds (get_or (fields_to t ds input n) i no_field)
  all_sound = each_below (λ (i : ℕ). Sound (get_or ds i no_source).bounds (get_or (fields_to t ds input n) i no_field)) n one_sound

  -- the same of a known number: "every known element lies in that node's derived bounds", "no known result leaves its type"
  module _ (i : ℕ) (h : i < n) (e : ElementNumber) (z : ℤ) (k : cell_at (get_or (fields_to t ds input n) i no_field) e ≡ known z) where
    pub in_bounds : In z (get_or ds i no_source).bounds
    in_bounds = subst (λ (c : Cell). Bounded (get_or ds i no_source).bounds c) k (all_sound i h e)

    pub in_range : In z (range_of (get_or ds i no_source).dtype)
    in_range = wider (range_of (get_or ds i no_source).dtype) (get_or ds i no_source).bounds z (in_type t i (take i ds) (get_or ds i no_source) (m.each i h)) in_bounds

  -- "no known divisor is zero"
  pub no_zero_divisor : (i : ℕ) → i < n → among (node_at t i).op (IDIV ∷ MOD ∷ []) ≡ true → (e : ElementNumber)
      → cell_at (get_or (fields_to t ds input n) (node_at t i).source2.0 no_field) e ≡ known (pos 0) → ⊥
  no_zero_divisor i h q e k =
      let rules = m.each i h in
      let u : reads (node_at t i) 2 ≡ true = divides_reads (node_at t i) q in
      let s : (node_at t i).source2.0 < i = source2_before t i (take i ds) (get_or ds i no_source) rules u in
      let b : second (node_at t i) (take i ds) ≡ get_or ds (node_at t i).source2.0 no_source = source_is ds i (node_at t i) 2 (node_at t i).source2 u s in
      let z : not (holds (get_or ds (node_at t i).source2.0 no_source).bounds (pos 0)) ≡ true = rw b at (divisor_rule (node_at t i).op (second (node_at t i) (take i ds)).bounds (divisor_right_lem t i (take i ds) (get_or ds i no_source) rules) q) in
      let inside : In (pos 0) (get_or ds (node_at t i).source2.0 no_source).bounds = in_bounds (node_at t i).source2.0 (omega arith) e (pos 0) k in
      false≢true (rw (holding _ (pos 0) inside) at z)
