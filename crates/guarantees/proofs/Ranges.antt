-- A type's range in numbers, and what follows for a known number of the input.
use Prim.Native.Nat.{ℕ, ◌<◌}
use mathlib.Core.Path.{◌≡◌, refl, ap, ◌∙◌}
use mathlib.Core.Bool.{true}
use mathlib.Core.List.{List}
use native.Mathlib.Omega.{arith}
use lib.IntN.{ℤ, pos, negsuc}
use lib.ListN.{length, get_or, take}
use Rattle.laws.specs.Lists.{among}
use Rattle.laws.proofs.Parts.{arithℤ}
use Rattle.plan.specs.Operations.{PARAM}
use Rattle.plan.specs.Types.{between, contains, range_of}
use Rattle.plan.specs.Words.{node_at, size_of}
use Rattle.plan.specs.Answers.{accepted, refused}
use Rattle.bounds.specs.Rules.{result_bounds}
use Rattle.bounds.proofs.Sound.{wider}
use Rattle.rules.specs.Rules.{Derived, no_source, derived_of, result_type}
use Rattle.verifier.specs.Check.{verdict, first, second}
use Rattle.verifier.proofs.Nodes.{in_type, bounds_derived}
use Rattle.runner.specs.Inputs.{input_total}
use Rattle.runner.proofs.Inputs.{start_more}
use Rattle.guarantees.specs.Demand3.{Lent, ran, word}
use Rattle.guarantees.specs.Rules.{InType}
use Rattle.guarantees.specs.Runs.{Belongs, WithinLimits, Good, RightLengths, Room, bad_number}
use Rattle.guarantees.specs.Witnesses.{division, division_records, lend}
use Rattle.guarantees.specs.Ranges.{RangesSay}
use Rattle.guarantees.proofs.Words.{op_of, dtype_size, low_word, high_word}
use Rattle.guarantees.proofs.Nodes.{rules}
use Rattle.guarantees.proofs.Rules.{in_range, type_range}
use Rattle.guarantees.proofs.Demands.{demand_3}
use Rattle.guarantees.proofs.Runs.{runs_exactly}
use Rattle.guarantees.proofs.Everything.{everything}

-- a PARAM of an accepted plan
module _ (t : List ℤ) (ds : List Derived) (v : verdict t ≡ accepted ds) (n : ℕ) (h : n < length ds) (q : word t n 0 ≡ pos PARAM) (d : ℕ) (w : word t n 4 ≡ pos d) where
  op : (node_at t n).op ≡ PARAM
  op = op_of t n PARAM q

  dtype : (get_or ds n no_source).dtype ≡ d
  unfolding derived_of result_type among size_of
  dtype =
      let named : result_type (node_at t n) (first (node_at t n) (take n ds)).dtype (second (node_at t n) (take n ds)).dtype ≡ (node_at t n).dtype = rw op refl in
      ap (λ (r : Derived). r.dtype) (rules t ds v n h).derived ∙ named ∙ dtype_size t n ∙ ap size_of w

  bounds : (get_or ds n no_source).bounds ≡ between (word t n 7) (word t n 8)
  unfolding result_bounds among
  bounds = bounds_derived t n (take n ds) (get_or ds n no_source) (rules t ds v n h) ∙ rw (op, low_word t n, high_word t n) refl

  limits_in : contains (range_of d) (between (word t n 7) (word t n 8)) ≡ true
  limits_in = rw (dtype, bounds) at (in_type t n (take n ds) (get_or ds n no_source) (rules t ds v n h))

-- position p of the input is an element of a PARAM
module _ (t : List ℤ) (ds : List Derived) (x : Lent) (v : verdict t ≡ accepted ds) (p n e : ℕ) (b : Belongs t ds x p n e) where
  inside : p < input_total t ds
  inside = let more = start_more t ds n (length ds) b.there (op_of t n PARAM b.param) in omega (arith, more, b.inside, b.place)

  within : (d : ℕ) → word t n 4 ≡ pos d → WithinLimits t ds x p → InType d (get_or x.values p (pos 0))
  within d w l =
      let limited = l n e b in
      let z = wider (range_of d) (between (word t n 7) (word t n 8)) (get_or x.values p (pos 0)) (limits_in t ds v n b.there b.param d w) (record { low = limited.0; high = limited.1 }) in
      in_range d (get_or x.values p (pos 0)) (z.low, z.high)

  refused_at_lem : RightLengths t ds x → Room t ds x → (d : ℕ) → word t n 4 ≡ pos d → ((q : ℕ) → q < p → Good t ds x q) → get_or x.flags p 0 ≡ 1 → (InType d (get_or x.values p (pos 0)) → ⊥)
      → ran t x ≡ refused (record { number = 16; place = p })
  refused_at_lem lengths room d w before f o =
      (runs_exactly.refused_when t ds x (record { number = 16; place = p }) v).1 (bad_number lengths room inside before f (λ l. o (within d w l)))

no_reading : InType 2 (negsuc 32767) → ⊥
no_reading w = absurd (omega (arithℤ, (w.i16 refl).0))

example : ran division (lend (negsuc 32767) (pos 1) 1 1) ≡ refused (record { number = 16; place = 0 })
unfolding everything
example =
    let x = lend (negsuc 32767) (pos 1) 1 1 in
    let b : Belongs division division_records x 0 0 0 = record { there = omega arith; param = refl; inside = omega arith; place = refl } in
    refused_at_lem division division_records x refl 0 0 0 b (refl, refl) (omega arith, omega arith) 2 refl (λ q l. absurd (omega arith)) refl no_reading

pub ranges_say : RangesSay
ranges_say =
    record {
      range = type_range;
      results = λ t ds x g n e z h k. in_range (get_or ds n no_source).dtype z ((demand_3.safe t ds x g n h).in_type e z k);
      outside = λ t ds x v lengths room p n e d b. refused_at_lem t ds x v p n e b lengths room d;
      no_reading = no_reading;
      example = example;
    }
