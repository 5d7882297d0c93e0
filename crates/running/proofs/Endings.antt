-- The ways in which a run ends: its outcome, its answer and its buffers.
use Prim.Native.Nat.{ℕ, ◌+◌, ◌-◌, ◌<◌, ◌≤◌}
use mathlib.Core.Path.{◌≡◌, refl, ap, sym, ◌∙◌}
use mathlib.Core.List.{List}
use Rattle.std.specs.Prelude.{Ok, Err}
use native.Mathlib.Omega.{arith}
use borrow.Author.Tests.{eq-eqb, ne_eqb, le-leb, lt-leb}
use lib.IntN.{ℤ}
use lib.ListN.{length, get_or, take}
use lib.Seq.{length-take-le}
use Rattle.laws.specs.Lists.{last_or}
use Rattle.laws.proofs.Lists.{last_is, take_whole}
use Rattle.plan.specs.declared.faults.Refusal.{Refusal as Refused}
use Rattle.plan.specs.Answers.{Outcome, Refusal, accepted, refused, refuse}
use Rattle.plan.specs.Coded.{refusal_of}
use Rattle.rules.specs.declared.Record.{Record}
use Rattle.verifier.specs.declared.Derivation.{Derivation}
use Rattle.rules.specs.Rules.{Derived, no_source}
use Rattle.verifier.specs.Check.{count_of, total_of, verdict}
use Rattle.verifier.specs.Verdicts.{Accepts}
use Rattle.cells.specs.Cells.{Cell, Field}
use Rattle.runner.specs.Inputs.{input_limits, input_cells, test_inputs}
use Rattle.runner.specs.Run.{no_field, node_field, fields_to, fields_of, run_accepted, run, value_of, flag_of, gap_count}
use Rattle.runner.proofs.Fields.{fields_length, field_at}
use Rattle.inputs.specs.Scanning.{gaps_from}
use Rattle.running.specs.Running.{laid_to, Checked, Runs}
use Rattle.running.proofs.EndToEnd.{total_whole, cells_at, cells_count, laid_length, laid_read, laid_all}
use Rattle.running.proofs.Gaps.{gaps_counted}

-- a refusal writes nothing
pub refusal_ends : {o : Outcome (List Field)} {e : Refused} (vs : List ℤ) (fs : List ℕ) → o ≡ refused (refusal_of e) → Runs o (Err e) vs fs vs fs
refusal_ends vs fs e = record { answer = rw e refl; values = rw e refl; flags = rw e refl }

-- 1 to 12
module _ (t : List ℤ) where
  pub check_accepts : {d : Derivation} {nodes : List Record} → Accepts (verdict t) 256 d → nodes ≡ take d.count d.records → Checked t nodes
  check_accepts {d} a e = rw e (record { few = omega (arith, a.few, length-take-le d.count d.records (omega (arith, a.few, a.long))); accepts = a.is_check })

pub breaks : (t values : List ℤ) (flags : List ℕ) (valueRoom flagRoom : ℕ) {r : Refusal} → verdict t ≡ refused r → run t values flags valueRoom flagRoom ≡ refused r
unfolding run
breaks t values flags valueRoom flagRoom v = rw v refl

module _ (t : List ℤ) (ds : List Derived) (values : List ℤ) (flags : List ℕ) (valueRoom flagRoom : ℕ) (v : verdict t ≡ accepted ds) where
  -- 13
  pub wrong_values : {size : ℕ} → size ≡ length (input_limits t ds) → (length values ≡ size → ⊥) → run t values flags valueRoom flagRoom ≡ refuse 13 0
  unfolding run run_accepted
  wrong_values s z = rw (v, ne_eqb (length values) (length (input_limits t ds)) (rw s at z)) refl

  pub wrong_flags : {size : ℕ} → size ≡ length (input_limits t ds) → length values ≡ size → (length flags ≡ size → ⊥) → run t values flags valueRoom flagRoom ≡ refuse 13 0
  unfolding run run_accepted
  wrong_flags s l z = rw (v, eq-eqb (length values) (length (input_limits t ds)) (l ∙ s), ne_eqb (length flags) (length (input_limits t ds)) (rw s at z)) refl

  module _ (l : length values ≡ length (input_limits t ds)) (m : length flags ≡ length (input_limits t ds)) where
    -- 14
    pub short_values : valueRoom < total_of ds → run t values flags valueRoom flagRoom ≡ refuse 14 0
    unfolding run run_accepted
    short_values h = rw (v, eq-eqb _ _ l, eq-eqb _ _ m, lt-leb (total_of ds) valueRoom h) refl

    pub short_flags : total_of ds ≤ valueRoom → flagRoom < total_of ds → run t values flags valueRoom flagRoom ≡ refuse 14 0
    unfolding run run_accepted
    short_flags p h = rw (v, eq-eqb _ _ l, eq-eqb _ _ m, le-leb (total_of ds) valueRoom p, lt-leb (total_of ds) flagRoom h) refl

    -- 15 and 16
    pub bad_input : total_of ds ≤ valueRoom → total_of ds ≤ flagRoom → {r : Refusal} → test_inputs (input_limits t ds) values flags ≡ refused r → run t values flags valueRoom flagRoom ≡ refused r
    unfolding run run_accepted
    bad_input p q e = rw (v, eq-eqb _ _ l, eq-eqb _ _ m, le-leb _ _ p, le-leb _ _ q, e) refl

-- ---- a run that completes

module _ (t : List ℤ) (ds : List Derived) (values : List ℤ) (flags : List ℕ) (n : ℕ) (as_many : n ≡ length ds) (some : 0 < n) (vs : List ℤ) (fs : List ℕ) (value_room : total_of ds ≤ length vs) (flag_room : total_of ds ≤ length fs) where
  abbrev input : List Cell
  input = input_cells values flags

  -- the output node is the last
  output : fields_of t ds values flags ≡ fields_to t ds (input_cells values flags) n
  output = ap (fields_to t ds input) (sym as_many)

  output_cells : last_or no_field (fields_to t ds (input_cells values flags) n) ≡ node_field t ds (input_cells values flags) (n - 1) (fields_to t ds (input_cells values flags) (n - 1))
  output_cells =
      last_is no_field (fields_to t ds input n) (rw fields_length some)
      ∙ rw fields_length (field_at t ds input n (n - 1) (omega arith))

  module _ {vs' : List ℤ} {fs' : List ℕ} (values-laid : vs' ≡ laid_to value_of t ds (input_cells values flags) n vs) (flags-laid : fs' ≡ laid_to flag_of t ds (input_cells values flags) n fs) where
    output_gaps : gaps_from fs' (total_of (take (n - 1) ds)) (count_of (get_or ds (n - 1) no_source)) ≡ gap_count (cells_at t ds (input_cells values flags) (n - 1))
    output_gaps =
        gaps_counted fs' (total_of (take (n - 1) ds)) (count_of (get_or ds (n - 1) no_source)) (cells_at t ds input (n - 1)) (cells_count t ds input (n - 1))
        (λ e h. laid_read t ds input flag_of fs fs' 0 n (n - 1) e flags-laid (omega arith) (rw (take_whole n ds (omega arith)) flag_room) (omega arith) h)

    -- its flags are there
    pub output_room : {start : ℕ} → start ≡ total_of (take (n - 1) ds) → start + count_of (get_or ds (n - 1) no_source) ≤ length fs'
    output_room s = rw (s, laid_length t ds input flag_of fs n flags-laid) (omega (arith, total_whole ds (n - 1) (omega arith)))

    pub completes : {o : Outcome (List Field)} {gaps start : ℕ} → o ≡ accepted (fields_of t ds values flags) → start ≡ total_of (take (n - 1) ds)
        → gaps ≡ gaps_from fs' start (count_of (get_or ds (n - 1) no_source)) → Runs o (Ok gaps) vs fs vs' fs'
    completes {gaps = gaps} e s g =
        let counted : gaps ≡ gap_count (cells_at t ds input (n - 1)) = rw (g, s) output_gaps in
        record {
          answer = rw (e, output, output_cells, counted) refl;
          values = laid_all t ds input value_of vs n as_many value_room values-laid ∙ rw e refl;
          flags = laid_all t ds input flag_of fs n as_many flag_room flags-laid ∙ rw e refl;
        }
