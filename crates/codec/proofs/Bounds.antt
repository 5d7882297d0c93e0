-- What every outcome of the reader keeps to: values, positions, lengths, refusals.
use Prim.Native.Nat.{ℕ, zero, suc, ◌+◌, ◌*◌, ◌%◌, ◌<◌, ◌≤◌}
use mathlib.Core.Path.{◌≡◌, refl, sym, ap, subst, ◌∙◌}
use mathlib.Core.Bool.{Bool, true, false, ◌&&◌, not, cond}
use mathlib.Core.List.{List, [], ◌∷◌, ◌++◌}
use native.Mathlib.Omega.{arith}
use borrow.Author.Tests.{ltb-true, leb-true}
use lib.Dec.{leb, ltb, eqb}
use lib.ListN.{length, get_or, length-append, get_or-append}
use lib.IntN.{ℤ, pos}
use Rattle.laws.proofs.Lists.{length_snoc}
use Rattle.laws.proofs.Booleans.{cond_both, and_true}
use Rattle.plan.specs.Answers.{Refusal, Outcome, accepted, refused, need, and_then, in_turn}
use Rattle.plan.specs.Operations.{uses, in_file}
use Rattle.plan.specs.Words.{size_of}
use Rattle.codec.specs.Numbers.{Read, groups_at, number_at, word_of}
use Rattle.codec.specs.Plans.{Unpacked, with_word, read_word, header_of, edition_at, edition_of, read_node, add_node}
use Rattle.codec.specs.Steps.{nodes_at, head_at, count_at, Opened, opening_at, all_nodes}

-- P of what was found, Q of a refusal
abbrev pub Holds : {A : Type 0} → (A → Type 0) → (Refusal → Type 0) → Outcome A → Type 0
Holds P Q (accepted a) = P a
Holds P Q (refused r) = Q r

module _ {A : Type 0} where
  pub holds_need : (P : A → Type 0) (Q : Refusal → Type 0) (test : Bool) (number place : ℕ) (next : Outcome A)
      → (test ≡ true → Holds P Q next) → Q (record { number = number; place = place }) → Holds P Q (need test number place next)
  holds_need P Q true number place next h q = h refl
  holds_need P Q false number place next h q = q

  pub holds_map : (P P' : A → Type 0) (Q Q' : Refusal → Type 0) (o : Outcome A) → ((a : A) → P a → P' a) → ((r : Refusal) → Q r → Q' r) → Holds P Q o → Holds P' Q' o
  holds_map P P' Q Q' (accepted a) f g h = f a h
  holds_map P P' Q Q' (refused r) f g h = g r h

  pub holds_then : {B : Type 0} (P : A → Type 0) (P' : B → Type 0) (Q : Refusal → Type 0) (o : Outcome A) (next : A → Outcome B)
      → Holds P Q o → ((a : A) → P a → Holds P' Q (next a)) → Holds P' Q (and_then o next)
  holds_then P P' Q (accepted a) next h f = f a h
  holds_then P P' Q (refused r) next h f = h

  -- m steps in turn, each of which keeps to it
  pub holds_turns : (P : ℕ → A → Type 0) (Q : Refusal → Type 0) (step : ℕ → A → Outcome A) (start : A) → P 0 start
      → (m : ℕ) → ((n : ℕ) (a : A) → n < m → P n a → Holds (P (suc n)) Q (step n a)) → Holds (P m) Q (in_turn step start m)
  unfolding in_turn
  holds_turns P Q step start p zero f = p
  holds_turns P Q step start p (suc m) f =
      holds_then (P m) (P (suc m)) Q (in_turn step start m) (step m) (holds_turns P Q step start p m (λ n a h. f n a (omega arith))) (λ a. f m a (omega arith))

  pub holds_turn : (P : ℕ → A → Type 0) (Q : Refusal → Type 0) (step : ℕ → A → Outcome A) (start : A) → P 0 start
      → ((n : ℕ) (a : A) → P n a → Holds (P (suc n)) Q (step n a)) → (n : ℕ) → Holds (P n) Q (in_turn step start n)
  holds_turn P Q step start p f m = holds_turns P Q step start p m (λ n a h. f n a)

-- a number ends within the bytes; its refusals name its first byte
abbrev pub EndsIn : List ℕ → Read → Type 0
EndsIn s r = r.next ≤ length s

abbrev PlacedAt : ℕ → Refusal → Type 0
PlacedAt from r = (r.number ≤ 26) × (r.place ≡ from)

groups_hold : (k : ℕ) (s : List ℕ) (from at : ℕ) → Holds (EndsIn s) (PlacedAt from) (groups_at k s from at)
unfolding groups_at
groups_hold zero s from at = (omega arith, refl)
groups_hold (suc k) s from at =
    let P : Read → Type 0 = EndsIn s in
    let Q : Refusal → Type 0 = PlacedAt from in
    let byte : ℕ = get_or s at 0 in
    let add : Read → Outcome Read = λ rest. accepted (record { value = byte % 128 + 128 * rest.value; next = rest.next }) in
    let last : Outcome Read = need (not (eqb byte 0 && ltb from at)) 21 from (accepted (record { value = byte; next = at + 1 })) in
    let more : Outcome Read = and_then (groups_at k s from (at + 1)) add in
    holds_need P Q (ltb at (length s)) 20 from (cond (ltb byte 128) last more)
    (λ l.
    cond_both (Holds P Q) (ltb byte 128) last more
    (λ _. holds_need P Q (not (eqb byte 0 && ltb from at)) 21 from (accepted (record { value = byte; next = at + 1 })) (λ _. omega (arith, ltb-true at (length s) l)) (omega arith, refl))
    (λ _. holds_then P P Q (groups_at k s from (at + 1)) add (groups_hold k s from (at + 1)) (λ r h. h)))
    (omega arith, refl)

-- ---- what is read from `at` on, where `from` is where the reading began

-- so many words, whose bytes end within the bytes if they begin there; a refusal's place is there too
abbrev pub WordsIn : List ℕ → ℕ → ℕ → Unpacked → Type 0
WordsIn s from n u = (length u.words ≡ n) × (from ≤ length s → u.next ≤ length s)

abbrev pub PlacedIn : List ℕ → ℕ → Refusal → Type 0
PlacedIn s from r = (r.number ≤ 26) × (from ≤ length s → r.place ≤ length s)

module _ (s : List ℕ) (from : ℕ) where
  number_holds : (at : ℕ) → (from ≤ length s → at ≤ length s) → Holds (EndsIn s) (PlacedIn s from) (number_at s at)
  unfolding number_at
  number_holds at h = holds_map (EndsIn s) (EndsIn s) (PlacedAt at) (PlacedIn s from) (groups_at 5 s at at) (λ r q. q) (λ r q. (q.0, λ i. rw q.1 (h i))) (groups_hold 5 s at at)

  -- a word more
  word_holds : (op k n : ℕ) (u : Unpacked) → WordsIn s from n u → Holds (WordsIn s from (suc n)) (PlacedIn s from) (read_word op s k u)
  unfolding read_word
  word_holds op k n u h =
      let add : Read → Outcome Unpacked = λ read. accepted (with_word u (word_of read.value) read.next) in
      let long : (w : ℤ) → length (u.words ++ w ∷ []) ≡ suc n = λ w. length_snoc u.words w ∙ ap suc h.0 in
      cond_both (Holds (WordsIn s from (suc n)) (PlacedIn s from)) (uses op (k + 1)) (and_then (number_at s u.next) add) (accepted (with_word u (pos 0) u.next))
      (λ _. holds_then (EndsIn s) (WordsIn s from (suc n)) (PlacedIn s from) (number_at s u.next) add (number_holds u.next h.1) (λ r q. (long (word_of r.value), λ _. q)))
      (λ _. (long (pos 0), h.1))

  words_hold : (op at k : ℕ) → (from ≤ length s → at ≤ length s)
      → Holds (WordsIn s from (suc k)) (PlacedIn s from) (in_turn (read_word op s) (record { words = pos op ∷ []; next = at }) k)
  words_hold op at k h =
      holds_turn (λ (k : ℕ). WordsIn s from (suc k)) (PlacedIn s from) (read_word op s) (record { words = pos op ∷ []; next = at }) (refl, h)
      (λ k u q. word_holds op k (suc k) u q) k

  node_holds : (edition at : ℕ) → (from ≤ length s → at ≤ length s) → Holds (WordsIn s from 17) (PlacedIn s from) (read_node edition s at)
  unfolding read_node
  node_holds edition at h =
      let rest : Read → Outcome Unpacked = λ op. in_turn (read_word op.value s) (record { words = pos op.value ∷ []; next = op.next }) 16 in
      holds_then (EndsIn s) (WordsIn s from 17) (PlacedIn s from) (number_at s at) (λ op. need (in_file edition op.value) 24 at (rest op)) (number_holds at h)
      (λ op q. holds_need (WordsIn s from 17) (PlacedIn s from) (in_file edition op.value) 24 at (rest op) (λ _. words_hold op.value op.next 16 (λ _. q)) (omega arith, h))

  -- a node more
  add_holds : (edition n : ℕ) (u : Unpacked) → WordsIn s from (17 * n) u → Holds (WordsIn s from (17 * suc n)) (PlacedIn s from) (add_node edition s n u)
  unfolding add_node
  add_holds edition n u h =
      holds_then (WordsIn s from 17) (WordsIn s from (17 * suc n)) (PlacedIn s from) (read_node edition s u.next)
      (λ more. accepted (record { words = u.words ++ more.words; next = more.next })) (node_holds edition u.next h.1)
      (λ more q. (omega (arith, length-append u.words more.words, h.0, q.0), q.1))

nodes_hold : (edition : ℕ) (s : List ℕ) (at n : ℕ) → Holds (WordsIn s at (17 * n)) (PlacedIn s at) (nodes_at edition n s at)
unfolding nodes_at
nodes_hold edition s at n =
    holds_turn (λ (n : ℕ). WordsIn s at (17 * n)) (PlacedIn s at) (add_node edition s) (record { words = []; next = at }) (refl, λ i. i) (λ n u h. add_holds s at edition n u h) n

-- the operation stays in front
abbrev Begins : ℕ → Unpacked → Type 0
Begins op u = (0 < length u.words) × (size_of (get_or u.words 0 (pos 0)) ≡ op)

begins_more : (op : ℕ) (u : Unpacked) (w : ℤ) (next : ℕ) → Begins op u → Begins op (with_word u w next)
begins_more op u w next h = (omega (arith, h.0, length_snoc u.words w), ap size_of (get_or-append u.words (w ∷ []) (pos 0) 0 h.0) ∙ h.1)

word_begins : (op k : ℕ) (s : List ℕ) (u : Unpacked) → Begins op u → Holds (Begins op) (λ r. Unit) (read_word op s k u)
unfolding read_word
word_begins op k s u h =
    let add : Read → Outcome Unpacked = λ read. accepted (with_word u (word_of read.value) read.next) in
    cond_both (Holds (Begins op) (λ r. Unit)) (uses op (k + 1)) (and_then (number_at s u.next) add) (accepted (with_word u (pos 0) u.next))
    (λ _. by (number_at s u.next)) (λ _. begins_more op u (pos 0) u.next h)
  where
    by : (o : Outcome Read) → Holds (Begins op) (λ r. Unit) (and_then o (λ (read : Read). accepted (with_word u (word_of read.value) read.next)))
    by (accepted r) = begins_more op u (word_of r.value) r.next h
    by (refused r) = tt

pub words_first : (op : ℕ) (s : List ℕ) (at k : ℕ) {u : Unpacked} → in_turn (read_word op s) (record { words = pos op ∷ []; next = at }) k ≡ accepted u → size_of (get_or u.words 0 (pos 0)) ≡ op
unfolding size_of
words_first op s at k e =
    (subst (Holds (Begins op) (λ r. Unit)) e
    (holds_turn (λ (k : ℕ). Begins op) (λ r. Unit) (read_word op s) (record { words = pos op ∷ []; next = at }) (omega arith, refl) (λ k u q. word_begins op k s u q) k)).1

-- how many words
pub words_long : (op : ℕ) (s : List ℕ) (at k : ℕ) {u : Unpacked} → in_turn (read_word op s) (record { words = pos op ∷ []; next = at }) k ≡ accepted u → length u.words ≡ suc k
words_long op s at k e = (subst (Holds (WordsIn s at (suc k)) (PlacedIn s at)) e (words_hold s at op at k (λ i. i))).0

pub nodes_long : (edition : ℕ) (s : List ℕ) (at n : ℕ) {u : Unpacked} → nodes_at edition n s at ≡ accepted u → length u.words ≡ 17 * n
nodes_long edition s at n e = (subst (Holds (WordsIn s at (17 * n)) (PlacedIn s at)) e (nodes_hold edition s at n)).0

-- ---- the opening, all nodes

abbrev CountIn : List ℕ → Read → Type 0
CountIn s r = (1 ≤ r.value) × (r.value ≤ 256) × (r.next ≤ length s)

count_holds : (s : List ℕ) (at : ℕ) → at ≤ length s → Holds (CountIn s) (PlacedIn s 0) (count_at s at)
unfolding count_at
count_holds s at l =
    holds_then (EndsIn s) (CountIn s) (PlacedIn s 0) (number_at s at) (λ c. need (leb 1 c.value && leb c.value 256) 23 0 (accepted c)) (number_holds s 0 at (λ _. l))
    (λ c q.
    holds_need (CountIn s) (PlacedIn s 0) (leb 1 c.value && leb c.value 256) 23 0 (accepted c)
    (λ b. let t = and_true (leb 1 c.value) (leb c.value 256) b in (leb-true 1 c.value t.0, leb-true c.value 256 t.1, q))
    (omega arith, λ i. i))

head_holds : (s : List ℕ) → Holds (EndsIn s) (PlacedIn s 0) (head_at s)
unfolding head_at edition_at
head_holds s =
    let next : ℕ → Outcome Read = λ edition. accepted (record { value = edition; next = length (header_of edition) }) in
    let second : Outcome ℕ = need (ltb 1 (length s) && eqb (get_or s 1 0) 2) 23 0 (accepted 2) in
    cond_both (λ (o : Outcome ℕ). Holds (EndsIn s) (PlacedIn s 0) (and_then o next)) (ltb 0 (length s) && eqb (get_or s 0 0) 0) second (accepted 1)
    (λ _. two (ltb 1 (length s) && eqb (get_or s 1 0) 2) (λ b. ltb-true 1 (length s) (and_true (ltb 1 (length s)) (eqb (get_or s 1 0) 2) b).0))
    (λ _. omega arith)
  where
    two : (b : Bool) → (b ≡ true → 1 < length s)
        → Holds (EndsIn s) (PlacedIn s 0) (and_then (need b 23 0 (accepted 2)) (λ (edition : ℕ). accepted (record { value = edition; next = length (header_of edition) })))
    two true h = omega (arith, h refl)
    two false h = (omega arith, λ i. omega arith)

abbrev pub OpenedIn : List ℕ → Opened → Type 0
OpenedIn s o = (1 ≤ o.count) × (o.count ≤ 256) × (o.next ≤ length s)

pub opening_holds : (s : List ℕ) → Holds (OpenedIn s) (PlacedIn s 0) (opening_at s)
unfolding opening_at
opening_holds s =
    holds_then (EndsIn s) (OpenedIn s) (PlacedIn s 0) (head_at s) _ (head_holds s)
    (λ h q. holds_then (CountIn s) (OpenedIn s) (PlacedIn s 0) (count_at s h.next) (λ count. accepted (record { edition = h.value; count = count.value; next = count.next })) (count_holds s h.next q) (λ c w. w))

pub all_hold : (edition : ℕ) (s : List ℕ) (at n : ℕ) → Holds (WordsIn s at (17 * n)) (PlacedIn s at) (all_nodes edition n s at)
unfolding all_nodes
all_hold edition s at n =
    let P : Unpacked → Type 0 = WordsIn s at (17 * n) in
    let Q : Refusal → Type 0 = PlacedIn s at in
    holds_then P P Q (nodes_at edition n s at) (λ u. need (leb (length s) u.next) 22 u.next (need (eqb edition (edition_of u.words)) 26 0 (accepted u))) (nodes_hold edition s at n)
    (λ u q.
    holds_need P Q (leb (length s) u.next) 22 u.next (need (eqb edition (edition_of u.words)) 26 0 (accepted u))
    (λ _. holds_need P Q (eqb edition (edition_of u.words)) 26 0 (accepted u) (λ _. q) (omega arith, λ i. omega arith)) (omega arith, q.1))

pub opening_in : (s : List ℕ) {o : Opened} → accepted o ≡ opening_at s → OpenedIn s o
opening_in s e = subst (Holds (OpenedIn s) (PlacedIn s 0)) (sym e) (opening_holds s)

pub all_long : (edition : ℕ) (s : List ℕ) (at n : ℕ) {u : Unpacked} → all_nodes edition n s at ≡ accepted u → length u.words ≡ 17 * n
all_long edition s at n e = (subst (Holds (WordsIn s at (17 * n)) (PlacedIn s at)) e (all_hold edition s at n)).0
