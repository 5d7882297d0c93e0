-- Unpacking, by where each number begins.
use Prim.Native.Nat.{ℕ, zero, suc, ◌+◌, ◌*◌, ◌-◌, ◌/◌, ◌%◌, ◌^◌, ◌<◌, ◌≤◌}
use mathlib.Core.Path.{◌≡◌, refl, ap, sym, ◌∙◌, subst}
use mathlib.Core.Bool.{Bool, true, false, ◌&&◌, cond, false≢true}
use mathlib.Core.Logic.{◌⊎◌, inl, inr, ⊎_elim}
use mathlib.Core.List.{List, [], ◌∷◌, ◌++◌}
use native.Mathlib.Omega.{arith}
use native.Mathlib.Numerals.{add-one}
use native.Mathlib.Nat.{zero-add, add-zero, add_assoc, pow-succ', le_refl, le_of_suc-le-suc, not-suc-le-zero, eq-or-lt_of_le}
use borrow.Author.Tests.{ltb-true, ltb-false, lt-ltb, eqb-true, eqb-false, eq-eqb, leb-true, leb-false, le-leb, lt-leb}
use lib.IntN.{ℤ, pos, negsuc, neg_ℤ, ◌-ℤ◌, ◌*ℤ◌, neg_ℤ-neg_ℤ}
use lib.Dec.{eqb, leb, ltb}
use lib.ListN.{length, get_or, length-append, get_or-eq_default, get_or-append}
use lib.Seq.{get_or-append-add, get_or-append_seam, ext_get_or}
use Rattle.laws.proofs.Booleans.{bool_cases, cond_both, and_true, and_true_of}
use Rattle.laws.proofs.Lists.{length_snoc}
use Rattle.laws.proofs.Parts.{arithℤ, diff_parts}
use Rattle.plan.specs.Answers.{Refusal, Outcome, accepted, refused, refuse, need, and_then, in_turn, written}
use Rattle.plan.specs.Operations.{uses, in_file}
use Rattle.plan.proofs.Outcomes.{never_both, accepted_same, refused_same, then_accepted, turn_more, turn_stays}
use Rattle.codec.specs.Numbers.{Read, number_at, word_of}
use Rattle.codec.specs.Plans.{Unpacked, with_word, read_word, header_of, edition_at, edition_of, read_node, add_node, unpack, unpack_answer, table_after}
use Rattle.codec.proofs.Reading.{Reached, reach_first, reach_next, reach_none, reach_end, reach_padded, reach_last}
use Rattle.codec.proofs.Bounds.{Holds, holds_map, holds_then, holds_turns}
use Rattle.verifier.specs.Check.{verdict, Checked, unpack_check, code_of}
use Rattle.guarantees.specs.Demand3.{word}
use Rattle.guarantees.specs.Rules.{Exactly, uses_word}
use Rattle.guarantees.specs.Unpacks.{grouped, MoreFollow, Number, NumberRefuses, bytes_end, too_long, padded, WrittenAs, Opens, first_edition, second_edition, OperationIn, New, Words, operation, used, unused, Counted, Begins, first, next_node, Due, at_count, at_operation, at_word, UnpackRefuses, bad_opening, bad_number, bad_count, no_room, bad_operation, left_over, none_new, Unpacks, Filled, UnpacksExactly}
use Rattle.guarantees.proofs.Acceptance.{acceptance}
use Rattle.guarantees.proofs.Buffers.{written_at, written_past, written_length}
use Rattle.guarantees.proofs.Users.{same_users}
use Rattle.guarantees.proofs.Editions.{SomeNew, edition_is, header_is, opening_holds, second_of, in_file_lem, known, own_edition}
use Rattle.guarantees.proofs.Runs.{not_true}

-- ---- numbers

abbrev IsNumber : List ℕ → ℕ → Read → Type 0
IsNumber s at r = Number s at r.value r.next

module _ (s : List ℕ) (at : ℕ) where
  byte_there : (p : ℕ) → 128 ≤ get_or s p 0 → p < length s
  byte_there p h = bool_cases (ltb p (length s)) (ltb-true p (length s)) (λ b. absurd (omega (arith, h, get_or-eq_default s 0 (ltb-false p (length s) b))))

  one_more : {m : ℕ} → MoreFollow s at m → 128 ≤ get_or s (at + m) 0 → MoreFollow s at (suc m)
  one_more {m} f h i l = ⊎_elim (λ (e : i ≡ m). rw e h) (λ (q : i < m). f i q) (eq-or-lt_of_le (le_of_suc-le-suc l))

  -- the groups that were read
  reached : (m : ℕ) → m ≤ 5 → MoreFollow s at m → Reached s at (grouped s at m) (128 ^ m) (at + m) (5 - m)
  unfolding grouped
  reached zero h f = rw add-zero (reach_first s at)
  reached (suc m) h f =
      let high : 128 ≤ get_or s (at + m) 0 = f m (omega arith) in
      let scale : 128 ^ suc m ≡ 128 ^ m * 128 = omega (arith, pow-succ' 128 m) in
      let place : at + suc m ≡ at + m + 1 = omega arith in
      let left : 5 - suc m ≡ 5 - m - 1 = omega arith in
      rw (scale, place, left) (reach_next s at (reached m (omega arith) (λ i l. f i (omega arith))) (omega arith) refl (byte_there (at + m) high) high)

  number_read : {v next : ℕ} → Number s at v next → number_at s at ≡ accepted (record { value = v; next = next })
  unfolding grouped
  number_read w =
      let m = w.more in
      let b = get_or s (at + m) 0 in
      let last : Reached s at (grouped s at m) (128 ^ m) (at + m) (5 - m) = reached m (omega (arith, w.few)) w.follow in
      let short : (eqb b 0 && ltb at (at + m)) ≡ false = not_true (λ e. let y = and_true (eqb b 0) (ltb at (at + m)) e in w.shortest (omega (arith, ltb-true at (at + m) y.1)) (eqb-true b 0 y.0)) in
      let group : b % 128 ≡ b = omega (arith, w.last) in
      rw (w.value, w.after, group) (sym (reach_last s at last (omega (arith, w.few)) refl w.there w.last short))

  number_refuses : {r : Refusal} → NumberRefuses s at r → number_at s at ≡ refused r
  number_refuses (bytes_end {m} h f e) = sym (reach_end s at (reached m (omega arith) f) (omega arith) e)
  number_refuses (too_long f) = sym (reach_none s at (reached 5 (omega arith) f) (omega arith))
  number_refuses (padded {m} h l f t z) =
      sym (reach_padded s at (reached m (omega arith) f) (omega arith) refl t z (omega arith))

  -- one of them is the case: m bytes are read, and k more may come
  number_holds : Holds (IsNumber s at) (NumberRefuses s at) (number_at s at)
  number_holds = from 5 0 refl (λ i l. absurd (not-suc-le-zero l))
    where
      refuses : {r : Refusal} → NumberRefuses s at r → Holds (IsNumber s at) (NumberRefuses s at) (number_at s at)
      refuses w = rw (number_refuses w) w

      reads : {r : Read} → IsNumber s at r → Holds (IsNumber s at) (NumberRefuses s at) (number_at s at)
      reads w = rw (number_read w) w

      from : (k m : ℕ) → m + k ≡ 5 → MoreFollow s at m → Holds (IsNumber s at) (NumberRefuses s at) (number_at s at)
      from zero m e f = let five : m ≡ 5 = omega arith in refuses (too_long (subst (MoreFollow s at) five f))
      from (suc k) m e f =
          let b = get_or s (at + m) 0 in
          bool_cases (ltb (at + m) (length s))
          (λ t.
          bool_cases (ltb b 128)
          (λ l.
          bool_cases (eqb b 0 && ltb 0 m)
          (λ z. let y = and_true (eqb b 0) (ltb 0 m) z in refuses (padded (ltb-true 0 m y.1) (omega arith) f (ltb-true _ _ t) (eqb-true b 0 y.0)))
          (λ z.
          let short : 1 ≤ m → b ≡ 0 → ⊥ = λ h q. false≢true (sym z ∙ and_true_of _ _ (eq-eqb b 0 q) (lt-ltb 0 m h)) in
          reads (record { more = m; few = omega arith; follow = f; there = ltb-true _ _ t; last = ltb-true b 128 l; shortest = short; value = refl; after = refl })))
          (λ l. from k (suc m) (omega arith) (one_more f (ltb-false b 128 l))))
          (λ t. refuses (bytes_end (omega arith) f (ltb-false _ _ t)))

-- ---- words

below_zero : (k : ℕ) → (neg_ℤ (pos 2 *ℤ negsuc k) -ℤ pos 1) ≡ pos (2 * k + 1)
below_zero k = rw (neg_ℤ-neg_ℤ (pos (2 * suc k))) (omega (arithℤ, diff_parts (pos (2 * suc k)) (pos 1)))

written_as : (v : ℕ) → WrittenAs (word_of v) v
unfolding word_of
written_as v = by (eqb (v % 2) 0) refl
  where
    by : (b : Bool) → eqb (v % 2) 0 ≡ b → WrittenAs (cond b (pos (v / 2)) (negsuc (v / 2))) v
    by true e = (λ _. ap pos (omega (arith, eqb-true (v % 2) 0 e)), λ h. absurd (omega arithℤ))
    by false e = (λ h. absurd (omega arithℤ), λ _. rw (below_zero (v / 2)) (ap pos (omega (arith, eqb-false (v % 2) 0 e))))

written_is : (z : ℤ) (v : ℕ) → WrittenAs z v → word_of v ≡ z
unfolding word_of
written_is (pos k) v w =
    let e : v ≡ 2 * k = omega (arithℤ, w.0 (omega arithℤ)) in
    let even : v % 2 ≡ 0 = omega arith in
    rw even (ap pos (omega arith))
written_is (negsuc k) v w =
    let e : v ≡ 2 * k + 1 = omega (arithℤ, below_zero k, w.1 (omega arithℤ)) in
    let odd : v % 2 ≡ 1 = omega arith in
    rw odd (ap negsuc (omega arith))

-- ---- words in a table

-- these words stand in table t from place `at` on
record Stands (words t : List ℤ) (at : ℕ) : Type 0 where
  same : (j : ℕ) → j < length words → get_or t (at + j) (pos 0) ≡ get_or words j (pos 0)

stands_itself : (words : List ℤ) → Stands words words 0
stands_itself words = record { same = λ j l. rw zero-add refl }

module _ (a b : List ℤ) {t : List ℤ} {at : ℕ} where
  stands_front : Stands (a ++ b) t at → Stands a t at
  stands_front h = record { same = λ j l. h.same j (omega (arith, length-append a b)) ∙ get_or-append a b (pos 0) j l }

  stands_back : Stands (a ++ b) t at → Stands b t (at + length a)
  stands_back h = record { same = λ j l. rw add_assoc (h.same (length a + j) (omega (arith, length-append a b)) ∙ get_or-append-add a b j (pos 0)) }

  stands_both : Stands a t at → Stands b t (at + length a) → Stands (a ++ b) t at
  stands_both h k =
      record {
        same = λ j l.
            bool_cases (ltb j (length a))
            (λ e. let inside : j < length a = ltb-true j (length a) e in h.same j inside ∙ sym (get_or-append a b (pos 0) j inside))
            (λ e.
            let past : length a ≤ j = ltb-false j (length a) e in
            let here : j ≡ length a + (j - length a) = omega arith in
            rw (here, ← add_assoc) (k.same (j - length a) (omega (arith, length-append a b)) ∙ sym (get_or-append-add a b (j - length a) (pos 0))));
      }

-- ---- what is read

uses_is : {o k : ℕ} → o ≤ 23 → k < 16 → uses o (k + 1) ≡ uses_word o (suc k)
uses_is {o} {k} h l = rw add-one (same_users o (suc k) h (omega arith) (omega arith))

-- a number where one is due
due_holds : (s : List ℕ) (room : ℕ) {p : ℕ} → Due s room p → Holds (IsNumber s p) (UnpackRefuses s room) (number_at s p)
due_holds s room {p} d = holds_map _ _ (NumberRefuses s p) (UnpackRefuses s room) (number_at s p) (λ r x. x) (λ r x. bad_number d x) (number_holds s p)

module _ (s : List ℕ) (edition room count : ℕ) where
  abbrev Refused : Refusal → Type 0
  Refused = UnpackRefuses s room

  -- the nodes before n; the words 0 to k of a node n that begins at place p
  record NodesRead (n : ℕ) (u : Unpacked) : Type 0 where
    long : length u.words ≡ 17 * n
    begins : (t : List ℤ) → Stands u.words t 0 → Begins s edition room count t n u.next

  record WordsRead (n p o k : ℕ) (m : Unpacked) : Type 0 where
    long : length m.words ≡ suc k
    reads : (t : List ℤ) → Stands m.words t (17 * n) → Words s edition t n p o k m.next

  module _ (n : ℕ) (h : n < count) (u : Unpacked) (w : NodesRead n u) where
    word_more : {o k q : ℕ} {m : Unpacked} (z : ℤ) → WordsRead n u.next o k m
        → ((t : List ℤ) → Words s edition t n u.next o k m.next → word t n (suc k) ≡ z → Words s edition t n u.next o (suc k) q) → WordsRead n u.next o (suc k) (with_word m z q)
    word_more {k = k} {m = m} z r f =
        record {
          long = length_snoc m.words z ∙ ap suc r.long;
          reads = λ t st.
              f t (r.reads t (stands_front m.words (z ∷ []) st))
              (rw (← r.long) (st.same (length m.words) (omega (arith, length_snoc m.words z)) ∙ get_or-append_seam m.words z [] (pos 0)));
        }

    word_holds : {o : ℕ} → o ≤ 23 → (k : ℕ) (m : Unpacked) → k < 16 → WordsRead n u.next o k m → Holds (WordsRead n u.next o (suc k)) Refused (read_word o s k m)
    unfolding read_word
    word_holds {o} small k m l r =
        cond_both (Holds (WordsRead n u.next o (suc k)) Refused) (uses o (k + 1)) _ _
        (λ e.
        let is-used : uses_word o (suc k) ≡ true = sym (uses_is small l) ∙ e in
        let t = u.words ++ m.words in
        let st = stands_itself t in
        let b = w.begins t (stands_front u.words m.words st) in
        let c = r.reads t (rw (zero-add, w.long) at (stands_back u.words m.words st)) in
        holds_then (IsNumber s m.next) (WordsRead n u.next o (suc k)) Refused (number_at s m.next) _ (due_holds s room (at_word b h c l is-used))
        (λ x y. word_more (word_of x.value) r (λ t c z. used c l is-used y (rw z (written_as x.value)))))
        (λ e. word_more (pos 0) r (λ t c z. unused c l (sym (uses_is small l) ∙ e) z))

    module _ {at : ℕ} (opens : Opens s edition at) where
      -- node n, which begins where the others end
      node_holds : Holds (λ (m : Unpacked). (o : ℕ) × WordsRead n u.next o 16 m) Refused (read_node edition s u.next)
      unfolding read_node
      node_holds =
          let P : Unpacked → Type 0 = λ m. (o : ℕ) × WordsRead n u.next o 16 m in
          let b = w.begins u.words (stands_itself u.words) in
          holds_then (IsNumber s u.next) P Refused (number_at s u.next) _ (due_holds s room (at_operation b h))
          (λ op x.
          let start : Unpacked = record { words = pos op.value ∷ []; next = op.next } in
          cond_both (Holds P Refused) (in_file edition op.value) (in_turn (read_word op.value s) start 16) _
          (λ e.
          let within : OperationIn edition op.value = (in_file_lem opens op.value).0 e in
          holds_map (WordsRead n u.next op.value 16) P Refused Refused (in_turn (read_word op.value s) start 16) (λ m y. (op.value, y)) (λ r y. y)
          (holds_turns (WordsRead n u.next op.value) Refused (read_word op.value s) start
          (record { long = refl; reads = λ t st. operation x within (st.same 0 (omega arith)) }) 16 (word_holds (known opens within))))
          (λ e. bad_operation b h x (λ within. false≢true (sym e ∙ (in_file_lem opens op.value).1 within))))

      add_holds : Holds (NodesRead (suc n)) Refused (add_node edition s n u)
      unfolding add_node
      add_holds =
          holds_then (λ (m : Unpacked). (o : ℕ) × WordsRead n u.next o 16 m) (NodesRead (suc n)) Refused (read_node edition s u.next) _ node_holds
          (λ m x.
          record {
            long = omega (arith, length-append u.words m.words, w.long, x.1.long);
            begins = λ t st. next_node (w.begins t (stands_front u.words m.words st)) h (x.1.reads t (rw (zero-add, w.long) at (stands_back u.words m.words st)));
          })

  nodes_hold : {p : ℕ} → Counted s edition room count p → Holds (NodesRead count) Refused (in_turn (add_node edition s) (record { words = []; next = p }) count)
  nodes_hold {p} c =
      holds_turns NodesRead Refused (add_node edition s) (record { words = []; next = p }) (record { long = refl; begins = λ t st. first c }) count
      (λ n u h w. add_holds n h u w c.opens)

-- ---- the whole

module _ (s : List ℕ) (edition room : ℕ) where
  number_inside : {at v next : ℕ} → Number s at v next → next ≤ length s
  number_inside w = omega (arith, w.there, w.after)

  words_inside : {t : List ℤ} {n p o k q : ℕ} → Words s edition t n p o k q → q ≤ length s
  words_inside (operation x within e) = number_inside x
  words_inside (used w l u x z) = number_inside x
  words_inside (unused w l u z) = words_inside w

  begins_inside : {count n p : ℕ} {t : List ℤ} → Begins s edition room count t n p → p ≤ length s
  begins_inside (first c) = number_inside c.number
  begins_inside (next_node b h w) = words_inside w

  pub begins_opens : {count : ℕ} {t : List ℤ} {n p : ℕ} → Begins s edition room count t n p → (at : ℕ) × Opens s edition at
  begins_opens (first c) = (c.place, c.opens)
  begins_opens (next_node b h w) = begins_opens b

  -- the operation of a node of a file
  operation_in : {t : List ℤ} {n p o k q : ℕ} → Words s edition t n p o k q → OperationIn edition o × (word t n 0 ≡ pos o)
  operation_in (operation x within e) = (within, e)
  operation_in (used w l u x z) = operation_in w
  operation_in (unused w l u z) = operation_in w

  -- a first edition file holds no new one
  pub first_old : {count : ℕ} {t : List ℤ} {n p : ℕ} → Begins s edition room count t n p → edition ≡ 1 → SomeNew t n → ⊥
  first_old (first c) one w = absurd (not-suc-le-zero w.1)
  first_old {t = t} (next_node {n} b h x) one w =
      ⊎_elim
      (λ (e : w.0 ≡ n).
      let op = operation_in x in
      let new : New t n = rw e at w.2 in
      absurd (omega (arithℤ, op.1, op.0.0 one, new.0)))
      (λ (l : w.0 < n). first_old b one (w.0, l, w.2)) (eq-or-lt_of_le (le_of_suc-le-suc w.1))

module _ (s : List ℕ) (room : ℕ) where
  -- what is accepted, in any table that begins with its words
  record PlanRead (u : Unpacked) : Type 0 where
    edition : ℕ
    count : ℕ
    long : length u.words ≡ 17 * count
    begins : (t : List ℤ) → Stands u.words t 0 → Begins s edition room count t count (length s)
    end : u.next ≡ length s
    some_new : edition ≡ 2 → SomeNew u.words count

  -- all nodes are read, and no byte is left over
  module _ {edition at count : ℕ} (opens : Opens s edition at) (u : Unpacked) (w : NodesRead s edition room count count u) (end : u.next ≡ length s) where
    whole : Begins s edition room count u.words count (length s)
    whole = rw (← end) (w.begins u.words (stands_itself u.words))

    due_26 : Exactly (eqb edition (edition_of u.words) ≡ true) (edition ≡ 2 → SomeNew u.words count)
    due_26 = own_edition opens u.words count w.long (first_old s edition room whole)

    edition_holds : Holds PlanRead (UnpackRefuses s room) (need (eqb edition (edition_of u.words)) 26 0 (accepted u))
    edition_holds =
        cond_both (Holds PlanRead (UnpackRefuses s room)) (eqb edition (edition_of u.words)) (accepted u) (refuse 26 0)
        (λ e. record { edition = edition; count = count; long = w.long; begins = λ t st. rw (← end) (w.begins t st); end = end; some_new = due_26.0 e })
        (λ e. by opens whole (λ x. false≢true (sym e ∙ due_26.1 x)))
      where
        by : {edition at : ℕ} → Opens s edition at → Begins s edition room count u.words count (length s) → ((edition ≡ 2 → SomeNew u.words count) → ⊥)
            → UnpackRefuses s room (record { number = 26; place = 0 })
        by (first_edition h) b bad = absurd (bad (λ q. absurd (omega (arith, q))))
        by (second_edition l x y) b bad = none_new b (λ n h z. bad (λ _. (n, h, z)))

  plan_holds : Holds PlanRead (UnpackRefuses s room) (unpack s room)
  unfolding unpack
  plan_holds =
      let R = UnpackRefuses s room in
      holds_then (λ (edition : ℕ). Opens s edition (length (header_of edition))) PlanRead R (edition_at s) _ (opening_holds s room)
      (λ edition opens.
      let at : ℕ = length (header_of edition) in
      holds_then (IsNumber s at) PlanRead R (number_at s at) _ (due_holds s room (at_count opens))
      (λ c x.
      cond_both (Holds PlanRead R) (leb 1 c.value && leb c.value 256) _ _
      (λ e.
      let y = and_true (leb 1 c.value) (leb c.value 256) e in
      let some : 1 ≤ c.value = leb-true 1 c.value y.0 in
      let few : c.value ≤ 256 = leb-true c.value 256 y.1 in
      cond_both (Holds PlanRead R) (leb (17 * c.value) room) _ _
      (λ f.
      holds_then (NodesRead s edition room c.value c.value) PlanRead R (in_turn (add_node edition s) (record { words = []; next = c.next }) c.value) _
      (nodes_hold s edition room c.value (record { place = at; opens = opens; number = x; some = some; few = few; fits = leb-true (17 * c.value) room f }))
      (λ u w.
      let b = w.begins u.words (stands_itself u.words) in
      cond_both (Holds PlanRead R) (leb (length s) u.next) (need (eqb edition (edition_of u.words)) 26 0 (accepted u)) (refuse 22 u.next)
      (λ g. edition_holds opens u w (omega (arith, begins_inside s edition room b, leb-true (length s) u.next g)))
      (λ g. left_over b (leb-false (length s) u.next g))))
      (λ f. no_room opens x some few (leb-false (17 * c.value) room f)))
      (λ e. bad_count opens x (λ a b. false≢true (sym e ∙ and_true_of _ _ (le-leb 1 c.value a) (le-leb c.value 256 b))))))

  plan_read : {u : Unpacked} → unpack s room ≡ accepted u → PlanRead u
  plan_read e = subst (Holds PlanRead (UnpackRefuses s room)) e plan_holds

  unpacked : {u : Unpacked} → unpack s room ≡ accepted u → Unpacks s room u
  unpacked {u} e =
      let w = plan_read e in
      record { edition = w.edition; count = w.count; long = w.long; all = w.begins u.words (stands_itself u.words); end = w.end; some_new = w.some_new }

  because : {r : Refusal} → unpack s room ≡ refused r → UnpackRefuses s room r
  because e = subst (Holds PlanRead (UnpackRefuses s room)) e plan_holds

-- ---- the way back: what unpacking has read where a node or a word begins

module _ (s : List ℕ) (edition room count : ℕ) (t : List ℤ) where
  record WordsAre (n p o k q : ℕ) : Type 0 where
    small : o ≤ 23
    start : ℕ
    node : read_node edition s p ≡ in_turn (read_word o s) (record { words = pos o ∷ []; next = start }) 16
    words : List ℤ
    read : in_turn (read_word o s) (record { words = pos o ∷ []; next = start }) k ≡ accepted (record { words = words; next = q })
    long : length words ≡ suc k
    stands : Stands words t (17 * n)

  stands_one : (z : ℤ) (at : ℕ) → get_or t at (pos 0) ≡ z → Stands (z ∷ []) t at
  stands_one z at e = record { same = λ j l. let none : j ≡ 0 = omega arith in rw (none, add-zero) e }

  word_is : {n p o k q next : ℕ} {z : ℤ} (f : WordsAre n p o k q) → word t n (suc k) ≡ z
      → read_word o s k (record { words = f.words; next = q }) ≡ accepted (record { words = f.words ++ z ∷ []; next = next }) → WordsAre n p o (suc k) next
  word_is {n} {o = o} {k = k} {z = z} f e r =
      record {
        small = f.small;
        start = f.start;
        node = f.node;
        words = f.words ++ z ∷ [];
        read = turn_more (read_word o s) _ k f.read ∙ r;
        long = length_snoc f.words z ∙ ap suc f.long;
        stands = stands_both f.words (z ∷ []) f.stands (stands_one z (17 * n + length f.words) (rw f.long e));
      }

  words_are : {at n p o k q : ℕ} → Opens s edition at → Words s edition t n p o k q → WordsAre n p o k q
  unfolding in_turn read_node read_word
  words_are {n = n} {p = p} {o = o} opens (operation {q} x within e) =
      record {
        small = known opens within;
        start = q;
        node = rw (number_read s p x, (in_file_lem opens o).1 within) refl;
        words = pos o ∷ [];
        read = refl;
        long = refl;
        stands = stands_one (pos o) (17 * n) (rw add-zero at e);
      }
  words_are opens (used {q = q} {v = v} w l u x z) = let f = words_are opens w in word_is f (sym (written_is _ v z)) (rw (uses_is f.small l, u, number_read s q x) refl)
  words_are opens (unused w l u z) = let f = words_are opens w in word_is f z (rw (uses_is f.small l, u) refl)

  record NodesAre (from n p : ℕ) : Type 0 where
    words : List ℤ
    read : in_turn (add_node edition s) (record { words = []; next = from }) n ≡ accepted (record { words = words; next = p })
    long : length words ≡ 17 * n
    stands : Stands words t 0

  nodes_are : {n p : ℕ} → Begins s edition room count t n p → (from : ℕ) × Counted s edition room count from × NodesAre from n p
  unfolding in_turn add_node
  nodes_are (first {p} c) = (p, c, record { words = []; read = refl; long = refl; stands = record { same = λ j l. absurd (not-suc-le-zero l) } })
  nodes_are (next_node {n} b h w) =
      let f = nodes_are b in
      let g = words_are f.1.opens w in (
        f.0,
        f.1,
        record {
          words = f.2.words ++ g.words;
          read = turn_more (add_node edition s) _ n f.2.read ∙ rw (g.node, g.read) refl;
          long = omega (arith, length-append f.2.words g.words, f.2.long, g.long);
          stands = stands_both f.2.words g.words f.2.stands (rw (zero-add, f.2.long) g.stands);
        },
      )

  module _ {from : ℕ} (c : Counted s edition room count from) where
    rest : unpack s room
        ≡ and_then (in_turn (add_node edition s) (record { words = []; next = from }) count)
        (λ u. need (leb (length s) u.next) 22 u.next (need (eqb edition (edition_of u.words)) 26 0 (accepted u)))
    unfolding unpack
    rest =
        rw (
          edition_is c.opens,
          header_is c.opens,
          number_read s c.place c.number,
          le-leb 1 count c.some,
          le-leb count 256 c.few,
          le-leb (17 * count) room c.fits,
        ) refl

  node_refuses : {n p : ℕ} {r : Refusal} → Begins s edition room count t n p → n < count → read_node edition s p ≡ refused r → unpack s room ≡ refused r
  unfolding add_node
  node_refuses {n} {r = r} b h e =
      let f = nodes_are b in
      rest f.1 ∙ rw (turn_stays (add_node edition s) _ {r = r} (suc n) count h (turn_more (add_node edition s) _ n f.2.read ∙ rw e refl)) refl

refuses : (s : List ℕ) (room : ℕ) {r : Refusal} → UnpackRefuses s room r → unpack s room ≡ refused r
unfolding unpack edition_at read_node read_word
refuses s room (bad_opening l z h) =
    let out : (ltb 1 (length s) && eqb (get_or s 1 0) 2) ≡ false = not_true (λ e. let y = and_true (ltb 1 (length s)) (eqb (get_or s 1 0) 2) e in h (ltb-true 1 (length s) y.0) (eqb-true (get_or s 1 0) 2 y.1)) in
    rw (lt-ltb 0 (length s) l, z, out) refl
refuses s room (bad_number {p} (at_count opens) x) = rw (edition_is opens, header_is opens, number_refuses s p x) refl
refuses s room (bad_number {p} (at_operation {edition} {count} {t = t} b h) x) = node_refuses s edition room count t b h (rw (number_refuses s p x) refl)
refuses s room (bad_number {p = q} (at_word {edition} {count} {k = k} {o = o} {t = t} b h w l u) x) =
    let f = words_are s edition room count t (begins_opens s edition room b).1 w in
    node_refuses s edition room count t b h
    (f.node ∙ turn_stays (read_word o s) _ (suc k) 16 l (turn_more (read_word o s) _ k f.read ∙ rw (uses_is f.small l, u, number_refuses s q x) refl))
refuses s room (bad_count {at = at} {count = count} opens x h) =
    let out : (leb 1 count && leb count 256) ≡ false = not_true (λ e. let y = and_true (leb 1 count) (leb count 256) e in h (leb-true 1 count y.0) (leb-true count 256 y.1)) in
    rw (edition_is opens, header_is opens, number_read s at x, out) refl
refuses s room (no_room {at = at} {count = count} opens x some few l) =
    rw (edition_is opens, header_is opens, number_read s at x, le-leb 1 count some, le-leb count 256 few, lt-leb (17 * count) room l) refl
refuses s room (bad_operation {edition} {count} {o = o} {p = p} {t = t} b h x bad) =
    let out : in_file edition o ≡ false = not_true (λ e. bad ((in_file_lem (begins_opens s edition room b).1 o).0 e)) in
    node_refuses s edition room count t b h (rw (number_read s p x, out) refl)
refuses s room (left_over {edition} {count} {p} {t} b l) =
    let f = nodes_are s edition room count t b in
    rest s edition room count t f.1 ∙ rw (f.2.read, lt-leb (length s) p l) refl
refuses s room (none_new {count} {t} b h) =
    let f = nodes_are s 2 room count t b in
    let words = f.2.words in
    let in_table : SomeNew words count → ⊥ = λ w.
    let same : word t w.0 0 ≡ word words w.0 0 = rw zero-add at (f.2.stands.same (17 * w.0 + 0) (omega (arith, f.2.long, w.1))) in
    h w.0 w.1 (rw same w.2) in
    let out : eqb 2 (edition_of words) ≡ false = not_true (λ e. in_table ((own_edition f.1.opens words count f.2.long (λ q. absurd (omega (arith, q)))).0 e refl)) in
    rest s 2 room count t f.1 ∙ rw (f.2.read, le-leb (length s) (length s) (le_refl (length s)), out) refl

accepts : (s : List ℕ) (room : ℕ) (u : Unpacked) → Unpacks s room u → unpack s room ≡ accepted u
accepts s room u w =
    let f = nodes_are s w.edition room w.count u.words w.all in
    let same : f.2.words ≡ u.words = ext_get_or (pos 0) f.2.words u.words (f.2.long ∙ sym w.long) (λ i l. rw zero-add at (sym (f.2.stands.same i l))) in
    let own : eqb w.edition (edition_of u.words) ≡ true = (own_edition f.1.opens u.words w.count w.long (first_old s w.edition room w.all)).1 w.some_new in
    rest s w.edition room w.count u.words f.1 ∙ rw (f.2.read, le-leb (length s) (length s) (le_refl (length s)), same, own, ← w.end) refl

-- ---- the table

module _ (s : List ℕ) (edition room count : ℕ) (t : List ℤ) where
  each_word : {n p o k q : ℕ} → Words s edition t n p o k q → (j : ℕ) → j ≤ k → (q : ℕ) × Words s edition t n p o j q
  each_word (operation {q} x within e) j h = let none : j ≡ 0 = omega arith in rw none (q, operation x within e)
  each_word (used {next = q} w l u x z) j h = ⊎_elim (λ e. rw e (q, used w l u x z)) (λ (e : j < _). each_word w j (le_of_suc-le-suc e)) (eq-or-lt_of_le h)
  each_word (unused {q = q} w l u z) j h = ⊎_elim (λ e. rw e (q, unused w l u z)) (λ (e : j < _). each_word w j (le_of_suc-le-suc e)) (eq-or-lt_of_le h)

  each_node : {n p : ℕ} → Begins s edition room count t n p → (m k : ℕ) → m < n → k ≤ 16 → (p o q : ℕ) × Begins s edition room count t m p × Words s edition t m p o k q
  each_node (first c) m k h l = absurd (not-suc-le-zero h)
  each_node (next_node {n} {p} {o = o} b a w) m k h l =
      ⊎_elim (λ (e : m ≡ n). let x = each_word w k l in rw e (p, o, x.0, b, x.1)) (λ (e : m < n). each_node b m k e l) (eq-or-lt_of_le (le_of_suc-le-suc h))

filled : (s : List ℕ) (table : List ℤ) (u : Unpacked) → unpack s (length table) ≡ accepted u
    → Filled s table (table_after (unpack s (length table)) table) (unpack_answer (unpack s (length table)))
filled s table u e =
    let w = plan_read s (length table) e in
    let counted : length u.words / 17 ≡ w.count = omega (arith, w.long) in
    let after = written u.words table in
    let all = w.begins after (record { same = λ j l. rw zero-add (written_at u.words table j (pos 0) l) }) in
    let fits = (nodes_are s w.edition (length table) w.count after all).1.fits in
    rw (e, counted)
    (record {
      number = refl;
      place = refl;
      edition = w.edition;
      all = all;
      each = each_node s w.edition (length table) w.count after all;
      past = written_past u.words table (17 * w.count) w.long;
      long = written_length u.words table (omega (arith, w.long, fits));
    })

-- ---- the C call

called : (s : List ℕ) (c : Checked) → unpack_check s ≡ accepted c → Unpacks s 4352 (record { words = c.table; next = length s }) × (verdict c.table ≡ accepted c.records)
unfolding unpack_check
called s c e =
    let a = then_accepted (unpack s 4352) _ e in
    let b = then_accepted (verdict a.0.words) (λ ds. accepted (record { table = a.0.words; records = ds })) a.2 in
    let w = unpacked s 4352 a.1 in
    let same = accepted_same b.2 in
    subst (λ (c : Checked). Unpacks s 4352 (record { words = c.table; next = length s }) × (verdict c.table ≡ accepted c.records)) same
    (record { edition = w.edition; count = w.count; long = w.long; all = w.all; end = refl; some_new = w.some_new }, b.1)

then_refused : {A B : Type 0} {r : Refusal} (o : Outcome A) (next : A → Outcome B) → and_then o next ≡ refused r → (o ≡ refused r) ⊎ ((a : A) × (o ≡ accepted a) × (next a ≡ refused r))
then_refused (accepted a) next e = inr (a, refl, e)
then_refused {A} (refused x) next e = inl (ap {B = Outcome A} refused (refused_same e))

call_stops : (s : List ℕ) (r : Refusal) → unpack_check s ≡ refused r → UnpackRefuses s 4352 r ⊎ ((u : Unpacked) × Unpacks s 4352 u × (verdict u.words ≡ refused r))
unfolding unpack_check
call_stops s r e =
    ⊎_elim (λ x. inl (because s 4352 x))
    (λ x. ⊎_elim (λ y. inr (x.0, unpacked s 4352 x.1, y)) (λ y. never_both y.2) (then_refused (verdict x.0.words) _ x.2)) (then_refused (unpack s 4352) _ e)

call_is : (s : List ℕ) {u : Unpacked} → Unpacks s 4352 u → unpack_check s ≡ and_then (verdict u.words) (λ ds. accepted (record { table = u.words; records = ds }))
unfolding unpack_check
call_is s {u} w = rw (accepts s 4352 u w) refl

call_refused : (s : List ℕ) {r : Refusal} → UnpackRefuses s 4352 r → unpack_check s ≡ refused r
unfolding unpack_check
call_refused s w = rw (refuses s 4352 w) refl

call_answers : (s : List ℕ) (c : Checked) → unpack_check s ≡ accepted c → (edition at p : ℕ) × Opens s edition at × Number s at (code_of (unpack_check s)) p
call_answers s c e =
    let a = called s c e in
    let nodes = ((acceptance.accepted_when c.table c.records).0 a.1).nodes.words in
    let begun = nodes_are s a.0.edition 4352 a.0.count c.table a.0.all in
    let as_many : length c.records ≡ a.0.count = omega (arith, nodes, a.0.long) in
    rw (e, as_many) (a.0.edition, begun.1.place, begun.0, begun.1.opens, begun.1.number)

-- ---- 26

number_numbered : {s : List ℕ} {at : ℕ} {r : Refusal} → NumberRefuses s at r → r.number ≤ 21
number_numbered (bytes_end a b c) = omega arith
number_numbered (too_long a) = omega arith
number_numbered (padded a b c d f) = omega arith

only_second : {s : List ℕ} {room : ℕ} {r : Refusal} → UnpackRefuses s room r → r.number ≡ 26 → Opens s 2 2
only_second (bad_opening l z h) e = absurd (omega (arith, e))
only_second (bad_number d x) e = absurd (omega (arith, number_numbered x, e))
only_second (bad_count o x h) e = absurd (omega (arith, e))
only_second (no_room o x a b h) e = absurd (omega (arith, e))
only_second (bad_operation b h x bad) e = absurd (omega (arith, e))
only_second (left_over b l) e = absurd (omega (arith, e))
only_second {s} {room} (none_new b h) e = second_of (begins_opens s 2 room b).1 (λ q. absurd (omega (arith, q)))

pub unpacks_exactly : UnpacksExactly
unpacks_exactly =
    record {
      number_accepted = λ s at r. (λ e. subst (Holds (IsNumber s at) (NumberRefuses s at)) e (number_holds s at), λ w. number_read s at w);
      number_refused = λ s at r. (λ e. subst (Holds (IsNumber s at) (NumberRefuses s at)) e (number_holds s at), λ w. number_refuses s at w);
      accepted_when = λ s room u. (λ e. unpacked s room e, λ w. accepts s room u w);
      refused_when = λ s room r. (λ e. because s room e, λ w. refuses s room w);
      fills = filled;
      call_accepted = λ s c. (called s c, λ w. call_is s w.0 ∙ rw w.1 refl);
      call_refused = λ s r. (call_stops s r, λ w. ⊎_elim (λ x. call_refused s x) (λ x. call_is s x.1 ∙ rw x.2 refl) w);
      call_answer = call_answers;
      first_never_26 = λ s room r e. only_second (because s room e);
    }
