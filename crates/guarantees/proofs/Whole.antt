-- From packed bytes to the field: what the statements of the single calls give together.
use Prim.Native.Nat.{ℕ, ◌*◌, ◌/◌, ◌≤◌}
use mathlib.Core.Path.{◌≡◌, refl, ap, sym, ◌∙◌}
use mathlib.Core.Bool.{◌&&◌}
use mathlib.Core.List.{List, []}
use native.Mathlib.Omega.{arith}
use borrow.Author.Tests.{le-leb}
use lib.IntN.{ℤ}
use lib.Dec.{eqb, leb}
use lib.ListN.{length, take, drop}
use lib.Seq.{take-append_seam}
use Rattle.plan.specs.Answers.{Outcome, accepted, refused, in_turn, written}
use Rattle.plan.proofs.Outcomes.{accepted_same, need_accepted, then_accepted}
use Rattle.codec.specs.Numbers.{Read, number_at}
use Rattle.codec.specs.Plans.{Unpacked, header_of, edition_at, edition_of, add_node, unpack, unpack_answer, table_after}
use Rattle.codec.specs.Steps.{nodes_at, all_nodes}
use Rattle.codec.proofs.Bounds.{nodes_long}
use Rattle.verifier.specs.Check.{verdict, check, Checked, unpack_check, code_of}
use Rattle.guarantees.specs.Acceptance.{Accepts}
use Rattle.guarantees.specs.Whole.{Whole, FromBytes}
use Rattle.guarantees.proofs.Acceptance.{acceptance}
use Rattle.guarantees.proofs.Checks.{checks_exactly}
use Rattle.guarantees.proofs.Demands.{demand_3}
use Rattle.guarantees.proofs.Packed.{told_apart}

-- what was unpacked: 17 words for each node of the count
words_long : (edition : ℕ) (s : List ℕ) (count : Read) (u : Unpacked) → all_nodes edition count.value s count.next ≡ accepted u → length u.words ≡ 17 * count.value
unfolding all_nodes nodes_at
words_long edition s count u e =
    let a = then_accepted (in_turn (add_node edition s) (record { words = []; next = count.next }) count.value) _ e in
    let b = need_accepted (leb (length s) a.0.next) 22 a.0.next _ a.2 in
    let c = need_accepted (eqb edition (edition_of a.0.words)) 26 0 (accepted a.0) b.1 in
    ap (λ (u : Unpacked). length u.words) (sym (accepted_same c.1)) ∙ nodes_long edition s count.next count.value a.1

-- room that suffices does not change it
other_room : (s : List ℕ) (room other : ℕ) (u : Unpacked) → unpack s room ≡ accepted u → length u.words ≤ other → unpack s other ≡ accepted u
unfolding unpack all_nodes nodes_at
other_room s room other u e h =
    let edition = then_accepted (edition_at s) _ e in
    let a = then_accepted (number_at s (length (header_of edition.0))) _ edition.2 in
    let c = a.0.value in
    let b = need_accepted (leb 1 c && leb c 256) 23 0 _ a.2 in
    let d = need_accepted (leb (17 * c) room) 14 0 _ b.1 in
    let z : 17 * c ≤ other = omega (arith, h, words_long edition.0 s a.0 u d.1) in
    rw (edition.1, a.1, b.0, le-leb (17 * c) other z) d.1

written_front : (words before t : List ℤ) (n : ℕ) → words ≡ t → n ≡ length t → take n (written words before) ≡ t
unfolding written
written_front words before t n e l = rw (l, ← e) (take-append_seam words (drop (length words) before))

-- the steps of the call that unpacks and checks
steps : (s : List ℕ) (p : Checked) → unpack_check s ≡ accepted p → (u : Unpacked) × (unpack s 4352 ≡ accepted u) × (u.words ≡ p.table) × (verdict p.table ≡ accepted p.records)
unfolding unpack_check
steps s p e =
    let a = then_accepted (unpack s 4352) _ e in
    let b = then_accepted (verdict a.0.words) _ a.2 in
    let q : record { table = a.0.words; records = b.0 } ≡ p = accepted_same b.2 in
    (a.0, a.1, ap (λ (c : Checked). c.table) q, sym (ap (λ (c : Checked). verdict c.table) q) ∙ b.1 ∙ ap (λ (c : Checked). accepted c.records) q)

module _ (s : List ℕ) (table derived : List ℤ) (p : Checked) (e : unpack_check s ≡ accepted p) (room : 17 * code_of (unpack_check s) ≤ length table) (place : 8 * code_of (unpack_check s) ≤ length derived) where
  count_is : code_of (unpack_check s) ≡ length p.records
  count_is = rw e refl

  accepts : verdict p.table ≡ accepted p.records
  accepts = (steps s p e).3

  meets : Accepts p.table p.records
  meets = (acceptance.accepted_when p.table p.records).0 accepts

  table_long : length p.table ≡ 17 * code_of (unpack_check s)
  table_long = rw count_is meets.nodes.words

  unpacks : (u : Unpacked) × (unpack s (length table) ≡ accepted u) × (u.words ≡ p.table)
  unpacks =
      let w = steps s p e in
      (w.0, other_room s 4352 (length table) w.0 w.1 (omega (arith, ap length w.2, table_long, room)), w.2)

  accepted_check : check p.table (length derived) ≡ accepted p.records
  accepted_check = (checks_exactly.accepted_when p.table p.records (length derived)).1 (accepts, omega (arith, count_is, place))

  answered : unpack_answer (unpack s (length table)) ≡ record { number = 0; place = 0; count = code_of (unpack_check s) }
  answered =
      let w = unpacks in
      let z : length w.0.words / 17 ≡ code_of (unpack_check s) = omega (arith, ap length w.2, table_long) in
      rw (w.1, z) refl

  front : take (17 * code_of (unpack_check s)) (table_after (unpack s (length table)) table) ≡ p.table
  front =
      let w = unpacks in
      rw w.1 (written_front w.0.words table p.table (17 * code_of (unpack_check s)) w.2 (sym table_long))

  whole : Whole s table derived
  whole =
      record {
        plan = p.table;
        records = p.records;
        meets = meets;
        counted = sym count_is;
        unpacked = answered;
        table_is = front;
        checked = checks_exactly.answers p.table derived p.records accepted_check;
        derived_are = checks_exactly.writes p.table derived p.records accepted_check;
        runs = λ x h. (demand_3.completes p.table p.records x h, demand_3.safe p.table p.records x h);
        same = demand_3.blind p.table p.records;
      }

pub from_bytes : FromBytes
from_bytes s table derived few room place = by (unpack_check s) refl
  where
    by : (o : Outcome Checked) → unpack_check s ≡ o → Whole s table derived
    by (accepted p) e = whole s table derived p e room place
    by (refused r) e = let w = told_apart.of_refused s r e in absurd (omega (arith, few, w.1, w.2))
