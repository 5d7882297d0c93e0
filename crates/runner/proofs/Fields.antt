-- The fields of a run, node by node, at every prefix of a plan.
use Prim.Native.Nat.{ℕ, zero, suc, ◌<◌, ◌≤◌}
use mathlib.Core.Path.{◌≡◌, refl, ap, sym, ◌∙◌}
use mathlib.Core.Bool.{true}
use mathlib.Core.Logic.{⊎_elim}
use mathlib.Core.List.{List, [], ◌∷◌, ◌++◌}
use native.Mathlib.Omega.{arith}
use native.Mathlib.Nat.{eq-or-lt_of_le, not-suc-le-zero, le_of_suc-le-suc}
use lib.IntN.{ℤ}
use lib.ListN.{length, get_or, get_or-append}
use lib.Seq.{get_or-append_seam}
use Rattle.laws.proofs.Lists.{length_snoc}
use Rattle.plan.specs.declared.NodeNumber.{NodeNumber}
use Rattle.plan.specs.declared.ElementNumber.{ElementNumber}
use Rattle.plan.specs.declared.Node.{Node}
use Rattle.plan.specs.Words.{node_at, reads}
use Rattle.rules.specs.Rules.{Derived, no_source}
use Rattle.verifier.specs.Check.{count_of}
use Rattle.cells.specs.Cells.{Cell, Field, cell_at}
use Rattle.cells.specs.Nodes.{eval_cell}
use Rattle.cells.proofs.Nodes.{node_count_lem, node_cell}
use Rattle.runner.specs.Run.{no_field, field_of, operands_of, node_field, fields_to}

module _ (t : List ℤ) (ds : List Derived) (input : List Cell) where
  pub fields_length : (n : ℕ) → length (fields_to t ds input n) ≡ n
  unfolding fields_to
  fields_length zero = refl
  fields_length (suc n) = length_snoc (fields_to t ds input n) (node_field t ds input n (fields_to t ds input n)) ∙ ap suc (fields_length n)

  -- field i, made after the fields before it
  pub field_at : (n i : ℕ) → i < n → get_or (fields_to t ds input n) i no_field ≡ node_field t ds input i (fields_to t ds input i)
  unfolding fields_to
  field_at zero i h = absurd (not-suc-le-zero h)
  field_at (suc n) i h =
      ⊎_elim
      (λ (q : i ≡ n). rw q (last n))
      (λ (q : i < n). get_or-append (fields_to t ds input n) _ no_field i (rw fields_length q) ∙ field_at n i q)
      (eq-or-lt_of_le (le_of_suc-le-suc h))
    where
      last : (n : ℕ) → get_or (fields_to t ds input n ++ node_field t ds input n (fields_to t ds input n) ∷ []) n no_field ≡ node_field t ds input n (fields_to t ds input n)
      last n =
          ap (λ (k : ℕ). get_or (fields_to t ds input n ++ node_field t ds input n (fields_to t ds input n) ∷ []) k no_field) (sym (fields_length n))
          ∙ get_or-append_seam (fields_to t ds input n) (node_field t ds input n (fields_to t ds input n)) [] no_field

  -- a later prefix has the same field
  pub field_stays : (n m i : ℕ) → i < n → i < m → get_or (fields_to t ds input n) i no_field ≡ get_or (fields_to t ds input m) i no_field
  field_stays n m i h k = field_at n i h ∙ sym (field_at m i k)

  module _ (n i : ℕ) (h : i < n) where
    pub field_extents : (get_or (fields_to t ds input n) i no_field).extents ≡ (get_or ds i no_source).extents
    unfolding node_field
    field_extents = ap (λ (f : Field). f.extents) (field_at n i h)

    -- "each node's field has exactly its count of cells"
    pub field_count : length (get_or (fields_to t ds input n) i no_field).cells ≡ count_of (get_or ds i no_source)
    unfolding node_field
    field_count =
        ap (λ (f : Field). length f.cells) (field_at n i h)
        ∙ node_count_lem (node_at t i) (get_or ds i no_source).extents (operands_of t ds input i (fields_to t ds input i))

    -- each by the rule of its node
    pub field_cell : (e : ElementNumber) → e.0 < count_of (get_or ds i no_source)
        → cell_at (get_or (fields_to t ds input n) i no_field) e ≡ eval_cell (node_at t i) (get_or ds i no_source).extents (operands_of t ds input i (fields_to t ds input i)) e
    unfolding node_field
    field_cell e q =
        ap (λ (f : Field). cell_at f e) (field_at n i h)
        ∙ node_cell (node_at t i) (get_or ds i no_source).extents (operands_of t ds input i (fields_to t ds input i)) e q

  -- a source that is read is its node's field
  pub source_field : (n i : ℕ) (x : Node) (k : ℕ) (s : NodeNumber) → i ≤ n → reads x k ≡ true → s.0 < i → field_of (fields_to t ds input i) x k s ≡ get_or (fields_to t ds input n) s.0 no_field
  unfolding field_of
  source_field n i x k s h u q = rw u (field_stays i n s.0 q (omega arith))
