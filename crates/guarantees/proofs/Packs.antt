-- The writer: which tables it takes, with which bytes, its refusals, and that reading and writing undo each other.
use Prim.Native.Nat.{ℕ, zero, suc, ◌+◌, ◌*◌, ◌/◌, ◌<◌, ◌≤◌}
use mathlib.Core.Path.{◌≡◌, refl, sym, ap, subst, ◌∙◌}
use mathlib.Core.Bool.{Bool, true, false, not, cond, false≢true}
use mathlib.Core.Logic.{⊎_elim}
use mathlib.Core.List.{List, [], ◌∷◌, ◌++◌}
use native.Mathlib.Nat.{add-zero, zero-add, le_refl}
use native.Mathlib.Omega.{arith}
use borrow.Author.Tests.{leb-false}
use lib.IntN.{ℤ, pos}
use lib.Dec.{leb}
use lib.ListN.{length, get_or, take, drop}
use lib.Seq.{take_at, take-append_seam}
use Rattle.laws.specs.Lists.{among}
use Rattle.laws.proofs.Booleans.{bool_cases, or_true, all_below_lem, all_below_of}
use Rattle.plan.specs.Operations.{uses, is_operation}
use Rattle.plan.specs.Types.{holds}
use Rattle.plan.specs.Words.{word_at, size_at, words_of, node_of, node_at, node_count, length_right, unused_zero}
use Rattle.plan.specs.Answers.{Refusal, Outcome, accepted, refused, refuse, need, and_then, in_turn, rule, AllHold, FirstFailing, written}
use Rattle.plan.proofs.Outcomes.{never_both, refused_same, turn_more, turn_stays, turn_refused, order_refused, order_fails, some_rule, fails_cases, fails_here, holds_then}
use Rattle.plan.proofs.ByOperation.{operation_small}
use Rattle.plan.proofs.Decoding.{word_at_lem}
use Rattle.bounds.proofs.Sound.{held, holding}
use Rattle.codec.specs.Plans.{Unpacked, unpack, unpack_answer, table_after}
use Rattle.codec.proofs.Bounds.{Holds}
use Rattle.codec.proofs.Prefix.{PlacedTo, Whole, plan_limit, place_limit, plan_ends}
use Rattle.packing.specs.Bytes.{bytes_of}
use Rattle.packing.specs.Packing.{word_range, used_in_range, node_bytes, opening_bytes, pack_rules, pack_node, pack, pack_answer, bytes_after}
use Rattle.packing.proofs.NumbersBack.{Here}
use Rattle.packing.proofs.NumbersBack as numbers
use Rattle.packing.proofs.Standing.{here_self}
use Rattle.packing.proofs.NodesBack.{zero_unused}
use Rattle.packing.proofs.PlansBack.{read_of_written, written_of_read, one_file}
use Rattle.packing.proofs.Taken as taken
use Rattle.packing.proofs.Bytewise.{pack_bytes}
use Rattle.verifier.specs.Meets.{rule_holds}
use Rattle.guarantees.specs.Questions.{i16, constant, zeros}
use Rattle.guarantees.specs.Demand3.{word}
use Rattle.guarantees.specs.Acceptance.{Nodes}
use Rattle.guarantees.specs.Rules.{Exactly, Rule2, Rule3}
use Rattle.guarantees.specs.Unpacks.{Opens, New}
use Rattle.guarantees.specs.Packs.{Rule25, Packable, Before, Takes, AreBytes, File, PackRefuses, bad_length, bad_operation, unused_word, outside, PacksExactly, OneForm, RoundTrips}
use Rattle.guarantees.specs.Packs as packs
use Rattle.guarantees.proofs.Everything.{everything}
use Rattle.guarantees.proofs.Words.{op_size, op_of, op_word}
use Rattle.guarantees.proofs.RowWords.{from_size}
use Rattle.guarantees.proofs.Users.{same_users}
use Rattle.guarantees.proofs.Editions.{first_of, second_of}
use Rattle.guarantees.proofs.Rules.{rules_say}
use Rattle.guarantees.proofs.Acceptance.{whole, counted, right}
use Rattle.guarantees.proofs.Unpacks.{begins_opens, first_old, unpacks_exactly}
use Rattle.guarantees.proofs.Packed.{plans_are_short}

-- ---- a node

module _ (t : List ℤ) (n : ℕ) where
  -- the writer's tests of a node are those of the check
  test_2 : rule_holds t n [] 2 ≡ is_operation (size_at (words_of t n) 0)
  unfolding rule_holds node_at node_of among
  test_2 = refl

  test_3 : rule_holds t n [] 3 ≡ unused_zero (size_at (words_of t n) 0) (words_of t n)
  unfolding rule_holds node_at node_of among
  test_3 = refl

  op_is : (node_at t n).op ≡ size_at (words_of t n) 0
  unfolding node_at node_of
  op_is = refl

  says_2 : Exactly (is_operation (size_at (words_of t n) 0) ≡ true) (Rule2 t n)
  says_2 = let w = rules_say.rule_2 t n [] in (λ e. w.0 (test_2 ∙ e), λ h. sym test_2 ∙ w.1 h)

  module _ (o : ℕ) (q : word t n 0 ≡ pos o) where
    pub size_is : size_at (words_of t n) 0 ≡ o
    size_is = sym op_is ∙ op_of t n o q

    pub known : Rule2 t n → o ≤ 23
    known h = omega (arith, from_size (word t n 0) 23 h, op_size t n, op_of t n o q)

    module _ (h : o ≤ 23) where
      says_3 : Exactly (unused_zero (size_at (words_of t n) 0) (words_of t n) ≡ true) (Rule3 t n o)
      says_3 = let w = rules_say.rule_3 t n [] o q h in (λ e. w.0 (test_3 ∙ e), λ r. sym test_3 ∙ w.1 r)

      range_of_lem : used_in_range o (words_of t n) ≡ true → Rule25 t n o
      unfolding used_in_range
      range_of_lem e k a b u =
          or_true (not (uses o k)) _ (all_below_lem 17 _ e k (omega arith))
          (λ z. absurd (false≢true (rw (same_users o k h a b ∙ u) at z)))
          (λ z. let i = held word_range (word t n k) (ap (holds word_range) (sym (word_at_lem t n k (omega arith))) ∙ z) in (i.low, i.high))

      inside : Rule25 t n o → (k : ℕ) → k < 17 → uses o k ≡ true → holds word_range (word_at (words_of t n) k) ≡ true
      inside r zero l u = absurd (false≢true (rw u at (zero_unused o (omega arith))))
      inside r (suc k) l u =
          let i = r (suc k) (omega arith) (omega arith) (sym (same_users o (suc k) h (omega arith) (omega arith)) ∙ u) in
          ap (holds word_range) (word_at_lem t n (suc k) l) ∙ holding word_range (word t n (suc k)) (record { low = i.0; high = i.1 })

      of_range : Rule25 t n o → used_in_range o (words_of t n) ≡ true
      unfolding used_in_range
      of_range r = all_below_of 17 _ (λ k l. bool_cases (uses o k) (λ u. rw u (inside r k l u)) (λ u. rw u refl))

      says_25 : Exactly (used_in_range (size_at (words_of t n) 0) (words_of t n) ≡ true) (Rule25 t n o)
      says_25 = (λ e. range_of_lem (rw size_is at e), λ r. rw size_is (of_range r))

  packable_of : AllHold (pack_rules (words_of t n)) → Packable t n
  packable_of h =
      let o : ℕ = size_at (words_of t n) 0 in
      let small : o < 24 = operation_small o h.0 in
      let q : word t n 0 ≡ pos o = op_word t n o op_is (omega arith) in
      let low : o ≤ 23 = omega arith in
      record { operation = o; is_operation = q; rule_2 = says_2.0 h.0; rule_3 = (says_3 o q low).0 h.1.0; rule_25 = (says_25 o q low).0 h.1.1.0 }

  of_packable : Packable t n → AllHold (pack_rules (words_of t n))
  of_packable p =
      let low = known p.operation p.is_operation p.rule_2 in
      (says_2.1 p.rule_2, ((says_3 p.operation p.is_operation low).1 p.rule_3, ((says_25 p.operation p.is_operation low).1 p.rule_25, tt)))

-- ---- a table and its file

module _ (t : List ℤ) where
  takes_of : taken.Packable t → Takes t
  takes_of p = record { count = node_count t; nodes = whole t p.length_right; each = λ n l. packable_of t n (p.nodes n l) }

  of_takes : Takes t → taken.Packable t
  of_takes k =
      record { length_right = right t k.count k.nodes; nodes = λ n l. of_packable t n (k.each n (omega (arith, counted t k.count k.nodes, l))) }

  module _ (b : List ℕ) where
    file_of : (room : ℕ) → pack t room ≡ accepted b → File t b
    file_of room e =
        let p = (taken.takes).only t room b e in
        let m = whole t p.0.length_right in
        let u = (unpacks_exactly.accepted_when b (length t) (record { words = t; next = length b })).0 (read_of_written t room b e (length t) (le_refl (length t))) in
        record {
          count = u.count;
          nodes = record { words = u.long; some = omega (arith, m.words, m.some, u.long); few = omega (arith, m.words, m.few, u.long) };
          are_bytes = pack_bytes t room b e;
          edition = u.edition;
          all = u.all;
          some_new = u.some_new;
        }

    read_of : File t b → unpack b (length t) ≡ accepted (record { words = t; next = length b })
    read_of f = (unpacks_exactly.accepted_when b (length t) _).1 (record { edition = f.edition; count = f.count; long = f.nodes.words; all = f.all; end = refl; some_new = f.some_new })

    of_file : File t b → (room : ℕ) → length b ≤ room → pack t room ≡ accepted b
    of_file f room h = written_of_read b f.are_bytes (length t) _ (read_of f) room h

  file_taken : (b : List ℕ) → File t b → taken.Packable t
  file_taken b f = ((taken.takes).only t (length b) b (of_file b f (length b) (le_refl (length b)))).0

  same_file : (b c : List ℕ) → File t b → File t c → b ≡ c
  same_file b c f g = one_file b c f.are_bytes g.are_bytes (length t) (length t) _ _ (read_of b f) (read_of c g) refl

-- ---- its edition

module _ (t : List ℤ) (b : List ℕ) (m : ℕ) (f : File t b) (w : Nodes t m) where
  as_many : f.count ≡ m
  as_many = omega (arith, f.nodes.words, w.words)

  picks_second : (n : ℕ) → n < m → New t n → Opens b 2 2
  picks_second n l new = second_of (begins_opens b f.edition (length t) f.all).1 (λ one. first_old b f.edition (length t) f.all one (n, omega (arith, as_many, l), new))

  picks_first : ((n : ℕ) → n < m → New t n → ⊥) → Opens b 1 0
  picks_first none = first_of (begins_opens b f.edition (length t) f.all).1 (λ two. let x = f.some_new two in none x.0 (omega (arith, as_many, x.1)) x.2)

-- ---- refusals

module _ (t : List ℤ) (room : ℕ) where
  abbrev start : List ℕ
  start = opening_bytes t

  -- from the tests

  module _ {r : Refusal} where
    told : (k n : ℕ) → r.number ≡ k → r.place ≡ n → PackRefuses t room (record { number = k; place = n }) → PackRefuses t room r
    told k n e p h = subst (PackRefuses t room) (rw (← e, ← p) refl) h

    module _ {m n : ℕ} (w : Nodes t m) (l : n < m) (before : Before t n) (p : r.place ≡ n) where
      -- after 2
      at_words : is_operation (size_at (words_of t n) 0) ≡ true
          → FirstFailing (rule 3 (unused_zero (size_at (words_of t n) 0) (words_of t n)) ∷ rule 25 (used_in_range (size_at (words_of t n) 0) (words_of t n)) ∷ []) r.number → PackRefuses t room r
      at_words e f =
          let o : ℕ = size_at (words_of t n) 0 in
          let low : o ≤ 23 = omega (arith, operation_small o e) in
          let q : word t n 0 ≡ pos o = op_word t n o (op_is t n) (omega arith) in
          ⊎_elim
          (λ z. told 3 n z.1 p (unused_word w l before q ((says_2 t n).0 e) (λ h. false≢true (sym z.0 ∙ (says_3 t n o q low).1 h))))
          (λ z.
          ⊎_elim
          (λ y. told 25 n y.1 p (outside w l before q ((says_2 t n).0 e) ((says_3 t n o q low).0 z.0) (λ h. false≢true (sym y.0 ∙ (says_25 t n o q low).1 h))))
          (λ y. absurd (omega (arith, some_rule [] y.1)))
          (fails_cases 25 _ [] r.number z.1))
          (fails_cases 3 _ _ r.number f)

      at_node : FirstFailing (pack_rules (words_of t n)) r.number → PackRefuses t room r
      at_node f =
          ⊎_elim (λ z. told 2 n z.1 p (bad_operation w l before (λ h. false≢true (sym z.0 ∙ (says_2 t n).1 h)))) (λ z. at_words z.0 z.1) (fails_cases 2 _ _ r.number f)

    node : length_right t ≡ true → in_turn (pack_node t) start (node_count t) ≡ refused r → PackRefuses t room r
    unfolding pack_node
    node e q =
        let w = turn_refused (pack_node t) start (node_count t) q in
        let f = order_refused (pack_rules (words_of t w.0)) w.0 (w.1 ++ node_bytes (words_of t w.0)) w.4 in
        at_node (whole t e) w.2 (λ i l. packable_of t i (taken.turns_hold t start w.0 w.3 i l)) f.1 f.0

  refused_because : (r : Refusal) → pack t room ≡ refused r → PackRefuses t room r
  unfolding pack
  refused_because r e = go (length_right t) refl e
    where
      room_is : (bs : List ℕ) → length_right t ≡ true → in_turn (pack_node t) start (node_count t) ≡ accepted bs → (b : Bool) → leb (length bs) room ≡ b
          → cond b (accepted bs) (refuse 14 0) ≡ refused r → PackRefuses t room r
      room_is bs l q true f e = never_both e
      room_is bs l q false f e =
          let enough : pack t (length bs) ≡ accepted bs = taken.with_room t bs l q (length bs) (le_refl (length bs)) in
          subst (PackRefuses t room) (refused_same e) (packs.no_room (file_of t bs (length bs) enough) (leb-false (length bs) room f))

      after : length_right t ≡ true → (o : Outcome (List ℕ)) → in_turn (pack_node t) start (node_count t) ≡ o
          → and_then o (λ bytes. need (leb (length bytes) room) 14 0 (accepted bytes)) ≡ refused r → PackRefuses t room r
      after l (accepted bs) q e = room_is bs l q (leb (length bs) room) refl e
      after l (refused s) q e = node l (q ∙ ap {B = Outcome (List ℕ)} refused (refused_same e))

      go : (b : Bool) → length_right t ≡ b
          → need b 1 0 (and_then (in_turn (pack_node t) start (node_count t)) (λ bytes. need (leb (length bytes) room) 14 0 (accepted bytes))) ≡ refused r → PackRefuses t room r
      go true l e = after l (in_turn (pack_node t) start (node_count t)) refl e
      go false l e = subst (PackRefuses t room) (refused_same e) (bad_length (λ m w. false≢true (sym l ∙ right t m w)))

  -- and to them

  node_fails : {m n k : ℕ} → Nodes t m → n < m → Before t n → FirstFailing (pack_rules (words_of t n)) k → pack t room ≡ refuse k n
  unfolding pack pack_node
  node_fails {m} {n} {k} w l before f =
      let bs = taken.turns_taken t start n (λ i h. of_packable t i (before i h)) in
      let step : pack_node t n bs.0 ≡ refuse k n = order_fails (pack_rules (words_of t n)) n (accepted (bs.0 ++ node_bytes (words_of t n))) f in
      let at : in_turn (pack_node t) start (suc n) ≡ refuse k n = turn_more (pack_node t) start n bs.1 ∙ step in
      rw (right t m w, turn_stays (pack_node t) start (suc n) (node_count t) (omega (arith, counted t m w, l)) at) refl

  fails : {A : Type 0} (test : Bool) → (test ≡ true → A) → (A → ⊥) → test ≡ false
  fails true h bad = absurd (bad (h refl))
  fails false h bad = refl

  because_refused : (r : Refusal) → PackRefuses t room r → pack t room ≡ refused r
  unfolding pack
  because_refused r (bad_length h) = rw (bool_cases (length_right t) (λ e. absurd (h (node_count t) (whole t e))) (λ e. e)) refl
  because_refused r (bad_operation {m} {n} w l before bad) = node_fails w l before (fails_here _ (fails _ (says_2 t n).0 bad))
  because_refused r (unused_word {m} {n} {o} w l before q two bad) =
      let low = known t n o q two in
      node_fails w l before (holds_then _ ((says_2 t n).1 two) (fails_here _ (fails _ (says_3 t n o q low).0 bad)))
  because_refused r (outside {m} {n} {o} w l before q two three bad) =
      let low = known t n o q two in
      node_fails w l before (holds_then _ ((says_2 t n).1 two) (holds_then _ ((says_3 t n o q low).1 three) (fails_here _ (fails _ (says_25 t n o q low).0 bad))))
  because_refused r (packs.no_room {b} f h) =
      let all = (taken.takes).all t (file_taken t b f) in
      let is : all.0 ≡ b = same_file t all.0 b (file_of t all.0 (length all.0) (all.1 (length all.0) (le_refl (length all.0)))) f in
      all.2 room (rw is h)

-- ---- examples

example_packs : pack (constant i16 (pos 5)) 4 ≡ accepted (1 ∷ 0 ∷ 4 ∷ 10 ∷ [])
unfolding everything
example_packs = refl

second_packs : pack (constant i16 (pos 5) ++ pos 22 ∷ zeros 16) 8 ≡ accepted (0 ∷ 2 ∷ 2 ∷ 0 ∷ 4 ∷ 10 ∷ 22 ∷ 0 ∷ [])
unfolding everything
second_packs = refl

pub packs_exactly : PacksExactly
packs_exactly =
    record {
      takes = λ t. (
        λ k. let b = (taken.takes).all t (of_takes t k) in (b.0, file_of t b.0 (length b.0) (b.1 (length b.0) (le_refl (length b.0)))),
        λ x. takes_of t (file_taken t x.0 x.1),
      );
      one_file = same_file;
      accepted_when = λ t room b. (λ e. (file_of t b room e, ((taken.takes).only t room b e).1), λ x. of_file t b x.0 room x.1);
      refused_when = λ t room r. (refused_because t room r, because_refused t room r);
      example = file_of (constant i16 (pos 5)) (1 ∷ 0 ∷ 4 ∷ 10 ∷ []) 4 example_packs;
      second_example = file_of (constant i16 (pos 5) ++ pos 22 ∷ zeros 16) (0 ∷ 2 ∷ 2 ∷ 0 ∷ 4 ∷ 10 ∷ 22 ∷ 0 ∷ []) 8 second_packs;
      picks_second = λ t b m n f w. picks_second t b m f w n;
      picks_first = picks_first;
      short = λ t b f. plans_are_short b (length t) _ (read_of t b f);
    }

-- ---- numbers

here_each : (s : List ℕ) (at : ℕ) (bs : List ℕ) → Here s at bs → (i : ℕ) → i < length bs → get_or s (at + i) 0 ≡ get_or bs i 0
here_each s at [] h i l = absurd (omega arith)
here_each s at (b ∷ bs) h zero l = rw add-zero h.1
here_each s at (b ∷ bs) h (suc i) l =
    let e : at + 1 + i ≡ at + suc i = omega arith in
    ap (λ (p : ℕ). get_or s p 0) (sym e) ∙ here_each s (at + 1) bs h.2 i (omega arith)

pub one_form : OneForm
one_form =
    record {
      number_read = λ v h.
          (unpacks_exactly.number_accepted (bytes_of v) 0 (record { value = v; next = length (bytes_of v) })).0
          (numbers.number_read v (bytes_of v) 0 h (here_self (bytes_of v)) ∙ rw zero-add refl);
      number_stands = λ s are at v next w.
          let x = numbers.number_written s are at ((unpacks_exactly.number_accepted s at (record { value = v; next = next })).1 w) in
          (x.2, x.1, here_each s at (bytes_of v) x.0);
    }

-- ---- through the calls

-- no refusal has the number 0
pack_numbered : {t : List ℤ} {room : ℕ} {r : Refusal} → PackRefuses t room r → r.number ≡ 0 → ⊥
pack_numbered (bad_length h) e = absurd (omega (arith, e))
pack_numbered (bad_operation w l b n) e = absurd (omega (arith, e))
pack_numbered (unused_word w l b q h n) e = absurd (omega (arith, e))
pack_numbered (outside w l b q h k n) e = absurd (omega (arith, e))
pack_numbered (packs.no_room f h) e = absurd (omega (arith, e))

-- what an answer of 0 comes from
was_packed : (t : List ℤ) (room : ℕ) → (pack_answer (pack t room)).number ≡ 0 → (b : List ℕ) × (pack t room ≡ accepted b)
was_packed t room z = by (pack t room) refl z
  where
    by : (o : Outcome (List ℕ)) → pack t room ≡ o → (pack_answer o).number ≡ 0 → (b : List ℕ) × (pack t room ≡ accepted b)
    by (accepted b) e z = (b, e)
    by (refused r) e z = absurd (pack_numbered (refused_because t room r e) z)

was_unpacked : (s : List ℕ) (room : ℕ) → (unpack_answer (unpack s room)).number ≡ 0 → (u : Unpacked) × (unpack s room ≡ accepted u)
was_unpacked s room z = by (unpack s room) refl z
  where
    by : (o : Outcome Unpacked) → unpack s room ≡ o → (unpack_answer o).number ≡ 0 → (u : Unpacked) × (unpack s room ≡ accepted u)
    by (accepted u) e z = (u, e)
    by (refused r) e z = absurd (omega (arith, (subst (Holds (Whole s plan_limit) (PlacedTo place_limit)) e (plan_ends s room)).0, z))

module _ (t : List ℤ) (buffer : List ℕ) (table : List ℤ) where
  abbrev Back : Outcome (List ℕ) → Type 0
  Back o =
      (m : ℕ) × Nodes t m × (unpack_answer (unpack (take (pack_answer o).count (bytes_after o buffer)) (length table)) ≡ packs.accepts m)
      × (table_after (unpack (take (pack_answer o).count (bytes_after o buffer)) (length table)) table ≡ t ++ drop (length t) table)

  read_back : (pack_answer (pack t (length buffer))).number ≡ 0 → length t ≤ length table → Back (pack t (length buffer))
  unfolding written
  read_back z room =
      let p = was_packed t (length buffer) z in
      let m = (file_of t p.0 (length buffer) p.1).nodes in
      let n = (file_of t p.0 (length buffer) p.1).count in
      let bytes : take (length p.0) (p.0 ++ drop (length p.0) buffer) ≡ p.0 = take-append_seam p.0 (drop (length p.0) buffer) in
      let many : length t / 17 ≡ n = omega (arith, m.words) in
      subst Back (sym p.1) (n, m, rw (bytes, read_of_written t (length buffer) p.0 p.1 (length table) room, many) refl, rw (bytes, read_of_written t (length buffer) p.0 p.1 (length table) room) refl)

module _ (s : List ℕ) (are : AreBytes s) (table : List ℤ) (buffer : List ℕ) where
  abbrev Again : Outcome Unpacked → Type 0
  Again o =
      (pack_answer (pack (take (17 * (unpack_answer o).count) (table_after o table)) (length buffer)) ≡ packs.accepts (length s))
      × (bytes_after (pack (take (17 * (unpack_answer o).count) (table_after o table)) (length buffer)) buffer ≡ s ++ drop (length s) buffer)

  written_back : (unpack_answer (unpack s (length table))).number ≡ 0 → length s ≤ length buffer → Again (unpack s (length table))
  unfolding written
  written_back z room =
      let u = was_unpacked s (length table) z in
      let x = (unpacks_exactly.accepted_when s (length table) u.0).0 u.1 in
      let size : length u.0.words ≡ 17 * (length u.0.words / 17) = omega (arith, x.long) in
      let words : take (17 * (length u.0.words / 17)) (u.0.words ++ drop (length u.0.words) table) ≡ u.0.words = take_at u.0.words (drop (length u.0.words) table) (17 * (length u.0.words / 17)) size in
      let e = written_of_read s are (length table) u.0 u.1 (length buffer) room in
      subst Again (sym u.1) (rw (words, e) refl, rw (words, e) refl)

pub round_trips : RoundTrips
unfolding written
round_trips =
    record {
      fills = λ t buffer b f h. rw (of_file t b f (length buffer) h) (refl, refl);
      read_back = read_back;
      written_back = written_back;
    }
