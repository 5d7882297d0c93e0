use Prim.Native.Nat.{◌-◌, ◌≤◌, ◌<◌}
use mathlib.Core.Path.{◌≡◌, sym, ◌∙◌}
use native.Mathlib.Omega.{arith}
use lib.ListN.{length}
use Rattle.std.proofs.lemmas.Result.{err_from_is_err_and}
use Rattle.verifier.specs.Check.{total_of}
use Rattle.runner.specs.Inputs.{input_limits}
use Rattle.runner.proofs.Completes.{run_completes}
use Rattle.inputs.specs.Nodes.{nodes_of}
use Rattle.running.specs.Running.{Fed}
use Rattle.running.proofs.Plans.{as_many, some_node, table_long, limited}
use Rattle.running.proofs.Endings.{refusal_ends, wrong_values, wrong_flags, short_values, short_flags, bad_input, output_room, completes}
use Rattle.running.proofs.run_accepted.Goals as goal

pub input_total-size-requires : goal.input_total-size-requires
input_total-size-requires c =
    let a = c.args in
    let checked = c.requires.0 in
    (checked.few, table_long a.table.now a.records.now checked, limited a.table.now a.records.now checked)

pub returns-then-given-size : goal.returns-then-given-size
returns-then-given-size c =
    let a = c.args in
    let t = a.table.now in
    let ds = nodes_of a.records.now in
    let given = a.given.now in
    let known = a.known.now in
    let vs = a.values.now in
    let fs = a.flags.now in
    let checked = c.requires.0 in
    rw c.at.ensures (refusal_ends vs fs (wrong_values t ds given known (length vs) (length fs) checked.accepts c.input_total-size.ensures.0 c.if-given-size.true))

pub returns-then-known-size : goal.returns-then-known-size
returns-then-known-size c =
    let a = c.args in
    let t = a.table.now in
    let ds = nodes_of a.records.now in
    let given = a.given.now in
    let known = a.known.now in
    let vs = a.values.now in
    let fs = a.flags.now in
    let checked = c.requires.0 in
    rw c.at-then-known-size.ensures (refusal_ends vs fs (wrong_flags t ds given known (length vs) (length fs) checked.accepts c.input_total-size.ensures.0 c.if-given-size.false c.if-known-size.true))

pub returns-then-values-total : goal.returns-then-values-total
returns-then-values-total c =
    let a = c.args in
    let t = a.table.now in
    let ds = nodes_of a.records.now in
    let given = a.given.now in
    let known = a.known.now in
    let vs = a.values.now in
    let fs = a.flags.now in
    let checked = c.requires.0 in
    let size = c.input_total-size.ensures.0 in
    let l : length given ≡ length (input_limits t ds) = c.if-given-size.false ∙ size in
    let m : length known ≡ length (input_limits t ds) = c.if-known-size.false ∙ size in
    rw c.at-then-values-total.ensures (refusal_ends vs fs (short_values t ds given known (length vs) (length fs) checked.accepts l m (omega (arith, c.requires.1, c.if-values-total.true))))

pub returns-then-flags-total : goal.returns-then-flags-total
returns-then-flags-total c =
    let a = c.args in
    let t = a.table.now in
    let ds = nodes_of a.records.now in
    let given = a.given.now in
    let known = a.known.now in
    let vs = a.values.now in
    let fs = a.flags.now in
    let checked = c.requires.0 in
    let size = c.input_total-size.ensures.0 in
    let l : length given ≡ length (input_limits t ds) = c.if-given-size.false ∙ size in
    let m : length known ≡ length (input_limits t ds) = c.if-known-size.false ∙ size in
    rw c.at-then-flags-total.ensures (refusal_ends vs fs (short_flags t ds given known (length vs) (length fs) checked.accepts l m (omega (arith, c.requires.1, c.if-values-total.false)) (omega (arith, c.requires.1, c.if-flags-total.true))))

pub scan-requires : goal.scan-requires
scan-requires c =
    let a = c.args in
    let t = a.table.now in
    let ds = nodes_of a.records.now in
    let given = a.given.now in
    let known = a.known.now in
    let checked = c.requires.0 in
    let size = c.input_total-size.ensures.0 in
    let l : length given ≡ length (input_limits t ds) = omega (arith, size) in
    let m : length known ≡ length (input_limits t ds) = omega (arith, size) in
    (checked.few, table_long t a.records.now checked, limited t a.records.now checked, l, m)

pub returns-in_err-scan : goal.returns-in_err-scan
returns-in_err-scan c =
    let a = c.args in
    let t = a.table.now in
    let ds = nodes_of a.records.now in
    let given = a.given.now in
    let known = a.known.now in
    let vs = a.values.now in
    let fs = a.flags.now in
    let checked = c.requires.0 in
    let size = c.input_total-size.ensures.0 in
    let l : length given ≡ length (input_limits t ds) = omega (arith, size) in
    let m : length known ≡ length (input_limits t ds) = omega (arith, size) in
    let p : total_of ds ≤ length vs = omega (arith, c.requires.1) in
    let q : total_of ds ≤ length fs = omega (arith, c.requires.1) in
    let exit = err_from_is_err_and c.from_residual.result c.from_residual.ensures.1 in
    rw (exit.1, exit.2) (refusal_ends vs fs (bad_input t ds given known (length vs) (length fs) checked.accepts l m p q c.in_err-scan.ensures.is_test))

pub starts-starts-requires : goal.starts-starts-requires
starts-starts-requires c =
    let a = c.args in
    (c.requires.0.few, limited a.table.now a.records.now c.requires.0)

pub run_nodes-requires : goal.run_nodes-requires
run_nodes-requires c =
    let a = c.args in
    let t = a.table.now in
    let ds = nodes_of a.records.now in
    let given = a.given.now in
    let known = a.known.now in
    let vs = a.values.now in
    let fs = a.flags.now in
    let checked = c.requires.0 in
    let size = c.input_total-size.ensures.0 in
    let l : length given ≡ length (input_limits t ds) = omega (arith, size) in
    let m : length known ≡ length (input_limits t ds) = omega (arith, size) in
    let p : total_of ds ≤ length vs = omega (arith, c.requires.1) in
    let q : total_of ds ≤ length fs = omega (arith, c.requires.1) in
    let placed = c.starts-starts.ensures in
    let fed : Fed t ds given known = record { all_values = l; all_flags = m; passed = c.in_ok-scan.ensures.is_test } in
    (checked, fed, record { begin = λ j h. placed.1 j (omega (arith, as_many t a.records.now checked)); value_room = p; flag_room = q })

pub output_gaps-gaps-requires : goal.output_gaps-gaps-requires
output_gaps-gaps-requires c =
    let a = c.args in
    let t = a.table.now in
    let ds = nodes_of a.records.now in
    let given = a.given.now in
    let known = a.known.now in
    let vs = a.values.now in
    let fs = a.flags.now in
    let checked = c.requires.0 in
    let p : total_of ds ≤ length vs = omega (arith, c.requires.1) in
    let q : total_of ds ≤ length fs = omega (arith, c.requires.1) in
    let some = some_node t a.records.now checked in
    let last : length a.records.now - 1 < length a.records.now = omega arith in
    let begins = c.starts-starts.ensures.1 (length a.records.now - 1) last in
    let many = sym (as_many t a.records.now checked) in
    let ran = c.run_nodes.ensures in
    (some, checked.few, limited t a.records.now checked (length a.records.now - 1) last, output_room t ds given known (length a.records.now) many some vs fs p q ran.0 ran.1 begins)

pub returns : goal.returns
returns c =
    let a = c.args in
    let t = a.table.now in
    let ds = nodes_of a.records.now in
    let given = a.given.now in
    let known = a.known.now in
    let vs = a.values.now in
    let fs = a.flags.now in
    let checked = c.requires.0 in
    let size = c.input_total-size.ensures.0 in
    let l : length given ≡ length (input_limits t ds) = omega (arith, size) in
    let m : length known ≡ length (input_limits t ds) = omega (arith, size) in
    let p : total_of ds ≤ length vs = omega (arith, c.requires.1) in
    let q : total_of ds ≤ length fs = omega (arith, c.requires.1) in
    let some = some_node t a.records.now checked in
    let last : length a.records.now - 1 < length a.records.now = omega arith in
    let begins = c.starts-starts.ensures.1 (length a.records.now - 1) last in
    let many = sym (as_many t a.records.now checked) in
    let ran = c.run_nodes.ensures in
    let passed = c.in_ok-scan.ensures.is_test in
    completes t ds given known (length a.records.now) many some vs fs p q ran.0 ran.1 (run_completes t ds given known (length vs) (length fs) checked.accepts l m p q passed) begins c.output_gaps-gaps.ensures
