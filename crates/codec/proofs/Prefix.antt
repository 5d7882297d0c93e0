-- How far unpacking reads: the positions of numbers, words and nodes; and that bytes past them alter nothing.
use Prim.Native.Nat.{ℕ, zero, suc, ◌+◌, ◌*◌, ◌/◌, ◌%◌, ◌^◌, ◌<◌, ◌≤◌}
use mathlib.Core.Path.{◌≡◌, refl, sym, ◌∙◌}
use mathlib.Core.Logic.{⊎_elim}
use mathlib.Core.Bool.{Bool, true, false, ◌&&◌, ◌||◌, not, cond, false≢true}
use mathlib.Core.List.{List, [], ◌∷◌, ◌++◌}
use native.Mathlib.Nat.{pow-succ'}
use native.Mathlib.Omega.{arith}
use borrow.Author.Tests.{leb-true, eqb-true, lt-ltb, lt-leb, eq-eqb}
use lib.Dec.{leb, ltb, eqb}
use lib.ListN.{length, get_or, length-append}
use lib.IntN.{pos}
use Rattle.laws.specs.Lists.{all_below, among}
use Rattle.laws.proofs.Booleans.{bool_cases, cond_both, and_true, all_below_lem}
use Rattle.plan.specs.Answers.{Refusal, Outcome, accepted, refused, need, and_then, in_turn}
use Rattle.plan.specs.Operations.{uses, operation_count, is_new, in_file}
use Rattle.plan.specs.Words.{size_of, node_count}
use Rattle.codec.specs.Numbers.{Read, groups_at, number_at, word_of}
use Rattle.codec.specs.Plans.{Unpacked, with_word, read_word, header_of, edition_at, none_new, edition_of, read_node, add_node, unpack}
use Rattle.codec.specs.Steps.{nodes_at, head_at, count_at, Opened, opening_at, all_nodes}
use Rattle.codec.proofs.Bounds.{Holds, holds_need, holds_map, holds_then, holds_turns, words_long, words_first}
use Rattle.codec.proofs.Editions.{file_known, new_among}
use Rattle.codec.proofs.Unpacking.{parts}

-- a refusal's number is not 0, and its place is at most `end`
abbrev pub PlacedTo : ℕ → Refusal → Type 0
PlacedTo end r = (1 ≤ r.number) × (r.place ≤ end)

-- ---- numbers

-- The groups from `at` on, of a number that began at `from`: at least one byte, at most k, and "shortest form": where their value is below
-- 128^j, at most j.
pub record Ends (from at k : ℕ) (r : Read) : Type 0 where
  pub after : at < r.next
  pub within : r.next ≤ at + k
  pub short : (j : ℕ) → from < at + j → r.value < 128 ^ j → r.next ≤ at + j

last_ends : (from at k b : ℕ) → not (eqb b 0 && ltb from at) ≡ true → Ends from at (suc k) (record { value = b; next = at + 1 })
last_ends from at k b t = record { after = omega arith; within = omega arith; short = by }
  where
    by : (j : ℕ) → from < at + j → b < 128 ^ j → at + 1 ≤ at + j
    by zero f l =
        let z : b ≡ 0 = omega arith in
        let later : from < at = omega arith in
        absurd (false≢true (rw (eq-eqb b 0 z, lt-ltb from at later) at t))
    by (suc j) f l = omega arith

more_ends : (from at k b : ℕ) (r : Read) → from ≤ at → Ends from (at + 1) k r → Ends from at (suc k) (record { value = b % 128 + 128 * r.value; next = r.next })
more_ends from at k b r f h = record { after = omega (arith, h.after); within = omega (arith, h.within); short = by }
  where
    by : (j : ℕ) → from < at + j → b % 128 + 128 * r.value < 128 ^ j → r.next ≤ at + j
    by zero q l =
        let none : r.value < 128 ^ 0 = omega arith in
        absurd (omega (arith, h.after, h.short 0 (omega arith) none))
    by (suc j) q l =
        let less : r.value < 128 ^ j = omega (arith, pow-succ' 128 j) in
        omega (arith, h.short j (omega arith) less)

groups_end : (end k : ℕ) (s : List ℕ) (from at : ℕ) → from ≤ at → from ≤ end → Holds (Ends from at k) (PlacedTo end) (groups_at k s from at)
unfolding groups_at
groups_end end zero s from at f e = (omega arith, e)
groups_end end (suc k) s from at f e =
    let P : Read → Type 0 = Ends from at (suc k) in
    let Q : Refusal → Type 0 = PlacedTo end in
    let byte : ℕ = get_or s at 0 in
    let add : Read → Outcome Read = λ rest. accepted (record { value = byte % 128 + 128 * rest.value; next = rest.next }) in
    let last : Outcome Read = need (not (eqb byte 0 && ltb from at)) 21 from (accepted (record { value = byte; next = at + 1 })) in
    let more : Outcome Read = and_then (groups_at k s from (at + 1)) add in
    holds_need P Q (ltb at (length s)) 20 from (cond (ltb byte 128) last more)
    (λ _.
    cond_both (Holds P Q) (ltb byte 128) last more
    (λ _. holds_need P Q (not (eqb byte 0 && ltb from at)) 21 from (accepted (record { value = byte; next = at + 1 })) (last_ends from at k byte) (omega arith, e))
    (λ _. holds_then (Ends from (at + 1) k) P Q (groups_at k s from (at + 1)) add (groups_end end k s from (at + 1) (omega arith) e) (λ r h. more_ends from at k byte r f h)))
    (omega arith, e)

-- a number that begins at `at`
abbrev NumberAt : ℕ → Read → Type 0
NumberAt at = Ends at at 5

number_ends : (end : ℕ) (s : List ℕ) (at : ℕ) → at ≤ end → Holds (NumberAt at) (PlacedTo end) (number_at s at)
unfolding number_at
number_ends end s at e = groups_end end 5 s at at (omega arith) e

-- an operation takes one byte
op_ends : {at : ℕ} {op : Read} → NumberAt at op → op.value < operation_count → op.next ≤ at + 1
op_ends q h = q.short 1 (omega arith) (omega arith)

-- ---- words

-- how many of the words 1, .., k operation op uses: no operation more than nine
unfoldable pub used : ℕ → ℕ → ℕ
used op zero = 0
used op (suc k) = used op k + cond (uses op (k + 1)) 1 0

table : all_below operation_count (λ (op : ℕ). all_below 17 (λ (k : ℕ). leb (used op k) 9)) ≡ true
unfolding all_below among uses used
table = refl

pub few_used : (op k : ℕ) → op < operation_count → k < 17 → used op k ≤ 9
few_used op k h l =
    leb-true (used op k) 9 (all_below_lem 17 (λ (k : ℕ). leb (used op k) 9) (all_below_lem operation_count (λ (op : ℕ). all_below 17 (λ (k : ℕ). leb (used op k) 9)) table op h) k l)

-- and no new one more than four
new_table : all_below operation_count (λ (op : ℕ). not (is_new op) || leb (used op 16) 4) ≡ true
unfolding all_below among uses used is_new
new_table = refl

few_new : (op : ℕ) → op < operation_count → is_new op ≡ true → used op 16 ≤ 4
few_new op h n = leb-true (used op 16) 4 (rw n at (all_below_lem operation_count (λ (op : ℕ). not (is_new op) || leb (used op 16) 4) new_table op h))

-- the position after what was read is at most `end`
abbrev EndsBy : ℕ → Unpacked → Type 0
EndsBy end u = u.next ≤ end

-- k words after the operation's: where they end, how many there are, and the first
record Words (op at k : ℕ) (u : Unpacked) : Type 0 where
  ends : u.next ≤ at + 5 * used op k
  long : length u.words ≡ suc k
  begins : size_of (get_or u.words 0 (pos 0)) ≡ op

-- a node that was read from `at` on
record NodeBy (at : ℕ) (u : Unpacked) : Type 0 where
  seventeen : length u.words ≡ 17
  short : u.next ≤ at + 46
  new : is_new (size_of (get_or u.words 0 (pos 0))) ≡ true → u.next ≤ at + 21

-- n nodes: a new one among them leaves 25 of the bytes
record NodesBy (at n : ℕ) (u : Unpacked) : Type 0 where
  long : length u.words ≡ 17 * n
  short : u.next ≤ at + 46 * n
  new : none_new u.words n ≡ false → u.next + 25 ≤ at + 46 * n

no_nodes : (at : ℕ) → NodesBy at 0 (record { words = []; next = at })
unfolding none_new all_below
no_nodes at = record { long = refl; short = omega arith; new = λ e. absurd (false≢true (sym e)) }

more_nodes : (at n : ℕ) (u more : Unpacked) → NodesBy at n u → NodeBy u.next more → NodesBy at (suc n) (record { words = u.words ++ more.words; next = more.next })
more_nodes at n u more h q =
    record {
      long = omega (arith, length-append u.words more.words, h.long, q.seventeen);
      short = omega (arith, h.short, q.short);
      new =
          λ e.
          ⊎_elim (λ w. omega (arith, h.new w, q.short)) (λ w. omega (arith, h.short, q.new w)) (new_among n u.words more.words h.long (omega (arith, q.seventeen)) e);
    }

module _ (end : ℕ) (s : List ℕ) where
  word_ends : (op at k : ℕ) (u : Unpacked) → at + 5 * used op k ≤ end → EndsBy (at + 5 * used op k) u
      → Holds (EndsBy (at + 5 * used op (suc k))) (PlacedTo end) (read_word op s k u)
  unfolding read_word used
  word_ends op at k u e h = by (uses op (k + 1))
    where
      add : Read → Outcome Unpacked
      add = λ read. accepted (with_word u (word_of read.value) read.next)

      by : (b : Bool) → Holds (EndsBy (at + 5 * (used op k + cond b 1 0))) (PlacedTo end) (cond b (and_then (number_at s u.next) add) (accepted (with_word u (pos 0) u.next)))
      by true =
          holds_then (NumberAt u.next) (EndsBy (at + 5 * (used op k + 1))) (PlacedTo end) (number_at s u.next) add (number_ends end s u.next (omega arith))
          (λ r q. omega (arith, q.within))
      by false = omega arith

  words_end : (op at : ℕ) → op < operation_count → at + 45 ≤ end → (k : ℕ) → k < 17
      → Holds (EndsBy (at + 5 * used op k)) (PlacedTo end) (in_turn (read_word op s) (record { words = pos op ∷ []; next = at }) k)
  unfolding used
  words_end op at h e k l =
      holds_turns (λ (k : ℕ). EndsBy (at + 5 * used op k)) (PlacedTo end) (read_word op s) (record { words = pos op ∷ []; next = at }) (omega arith) k
      (λ n u q w. word_ends op at n u (omega (arith, few_used op n h (omega arith))) w)

  -- with how many they are, and the operation in front
  all_words : (op at : ℕ) → op < operation_count → at + 45 ≤ end → (k : ℕ) → k < 17
      → Holds (Words op at k) (PlacedTo end) (in_turn (read_word op s) (record { words = pos op ∷ []; next = at }) k)
  all_words op at h e k l = by (in_turn (read_word op s) (record { words = pos op ∷ []; next = at }) k) refl (words_end op at h e k l)
    where
      by : (o : Outcome Unpacked) → in_turn (read_word op s) (record { words = pos op ∷ []; next = at }) k ≡ o → Holds (EndsBy (at + 5 * used op k)) (PlacedTo end) o → Holds (Words op at k) (PlacedTo end) o
      by (accepted u) q w = record { ends = w; long = words_long op s at k q; begins = words_first op s at k q }
      by (refused r) q w = w

  -- a node takes at most 46 bytes: one, and nine words; a new one 21
  node_ends : (edition at : ℕ) → at + 46 ≤ end → Holds (NodeBy at) (PlacedTo end) (read_node edition s at)
  unfolding read_node
  node_ends edition at e =
      let rest : Read → Outcome Unpacked = λ op. in_turn (read_word op.value s) (record { words = pos op.value ∷ []; next = op.next }) 16 in
      holds_then (NumberAt at) (NodeBy at) (PlacedTo end) (number_at s at) (λ op. need (in_file edition op.value) 24 at (rest op)) (number_ends end s at (omega arith))
      (λ op q.
      holds_need (NodeBy at) (PlacedTo end) (in_file edition op.value) 24 at (rest op)
      (λ b.
      let h : op.value < operation_count = file_known edition op.value b in
      let one : op.next ≤ at + 1 = op_ends q h in
      holds_map (Words op.value op.next 16) (NodeBy at) (PlacedTo end) (PlacedTo end) (rest op)
      (λ u w.
      record {
        seventeen = w.long;
        short = omega (arith, w.ends, few_used op.value 16 h (omega arith));
        new = λ n. omega (arith, w.ends, few_new op.value h (rw w.begins at n));
      })
      (λ r w. w) (all_words op.value op.next h (omega arith) 16 (omega arith)))
      (omega arith, omega arith))

  add_ends : (edition at n : ℕ) (u : Unpacked) → at + 46 * suc n ≤ end → NodesBy at n u → Holds (NodesBy at (suc n)) (PlacedTo end) (add_node edition s n u)
  unfolding add_node
  add_ends edition at n u e h =
      holds_then (NodeBy u.next) (NodesBy at (suc n)) (PlacedTo end) (read_node edition s u.next)
      (λ more. accepted (record { words = u.words ++ more.words; next = more.next })) (node_ends edition u.next (omega (arith, h.short))) (λ more q. more_nodes at n u more h q)

  nodes_end : (edition at m : ℕ) → at + 46 * m ≤ end → Holds (NodesBy at m) (PlacedTo end) (nodes_at edition m s at)
  unfolding nodes_at
  nodes_end edition at m e =
      holds_turns (NodesBy at) (PlacedTo end) (add_node edition s) (record { words = []; next = at }) (no_nodes at) m
      (λ n u q h. add_ends edition at n u (omega arith) h)

-- ---- the whole

-- a count of at most 256 takes two bytes
abbrev Counts : ℕ → Read → Type 0
Counts at r = (r.value ≤ 256) × (r.next ≤ at + 2)

count_ends : (end : ℕ) (s : List ℕ) (at : ℕ) → at ≤ end → Holds (Counts at) (PlacedTo end) (count_at s at)
unfolding count_at
count_ends end s at l =
    holds_then (NumberAt at) (Counts at) (PlacedTo end) (number_at s at) (λ c. need (leb 1 c.value && leb c.value 256) 23 0 (accepted c)) (number_ends end s at l)
    (λ c q.
    holds_need (Counts at) (PlacedTo end) (leb 1 c.value && leb c.value 256) 23 0 (accepted c)
    (λ b.
    let few : c.value ≤ 256 = leb-true c.value 256 (and_true (leb 1 c.value) (leb c.value 256) b).1 in
    (few, q.short 2 (omega arith) (omega arith)))
    (omega arith, omega arith))

-- the bytes that name the edition
data Heads : Read → Type 0 where
  old : Heads (record { value = 1; next = 0 })
  newer : Heads (record { value = 2; next = 2 })

head_ends : (end : ℕ) (s : List ℕ) → Holds Heads (PlacedTo end) (head_at s)
unfolding head_at edition_at
head_ends end s =
    let next : ℕ → Outcome Read = λ edition. accepted (record { value = edition; next = length (header_of edition) }) in
    cond_both (λ (o : Outcome ℕ). Holds Heads (PlacedTo end) (and_then o next)) (ltb 0 (length s) && eqb (get_or s 0 0) 0) (need (ltb 1 (length s) && eqb (get_or s 1 0) 2) 23 0 (accepted 2)) (accepted 1)
    (λ _. two (ltb 1 (length s) && eqb (get_or s 1 0) 2)) (λ _. old)
  where
    two : (b : Bool) → Holds Heads (PlacedTo end) (and_then (need b 23 0 (accepted 2)) (λ (edition : ℕ). accepted (record { value = edition; next = length (header_of edition) })))
    two true = newer
    two false = (omega arith, omega arith)

-- two bytes, and two more in a second edition file
record OpensBy (o : Opened) : Type 0 where
  few : o.count ≤ 256
  near : o.next ≤ 4
  first : (o.edition ≡ 2 → ⊥) → o.next ≤ 2

opening_ends : (end : ℕ) (s : List ℕ) → 2 ≤ end → Holds OpensBy (PlacedTo end) (opening_at s)
unfolding opening_at
opening_ends end s e =
    holds_then Heads OpensBy (PlacedTo end) (head_at s) _ (head_ends end s)
    (λ h q.
    holds_then (Counts h.next) OpensBy (PlacedTo end) (count_at s h.next) (λ count. accepted (record { edition = h.value; count = count.value; next = count.next })) (count_ends end s h.next (at_most h q))
    (λ c w. opened h q c w))
  where
    at_most : (h : Read) → Heads h → h.next ≤ end
    at_most _ old = omega arith
    at_most _ newer = omega arith

    opened : (h : Read) → Heads h → (c : Read) → Counts h.next c → OpensBy (record { edition = h.value; count = c.value; next = c.next })
    opened _ old c w = record { few = w.0; near = omega (arith, w.1); first = λ n. omega (arith, w.1) }
    opened _ newer c w = record { few = w.0; near = omega (arith, w.1); first = λ n. absurd (n refl) }

-- they end by `end`, and no byte is left over
abbrev pub Whole : List ℕ → ℕ → Unpacked → Type 0
Whole s end u = (u.next ≤ end) × (length s ≤ u.next)

-- "256 nodes take at most 11778": two bytes, and 46 for each node. A second edition file has two bytes more, and a new node, which takes 25 less.
abbrev pub plan_limit : ℕ
plan_limit = 11778

-- as far as a file is read, also one that is refused
abbrev pub place_limit : ℕ
place_limit = 11780

all_end : (s : List ℕ) (o : Opened) → OpensBy o → Holds (Whole s plan_limit) (PlacedTo place_limit) (all_nodes o.edition o.count s o.next)
unfolding all_nodes edition_of node_count
all_end s o p =
    let P : Unpacked → Type 0 = Whole s plan_limit in
    let Q : Refusal → Type 0 = PlacedTo place_limit in
    let at = o.next in
    let m = o.count in
    holds_then (NodesBy at m) P Q (nodes_at o.edition m s at) (λ u. need (leb (length s) u.next) 22 u.next (need (eqb o.edition (edition_of u.words)) 26 0 (accepted u)))
    (nodes_end place_limit s o.edition at m (omega (arith, p.few, p.near)))
    (λ u q.
    holds_need P Q (leb (length s) u.next) 22 u.next (need (eqb o.edition (edition_of u.words)) 26 0 (accepted u))
    (λ b.
    holds_need P Q (eqb o.edition (edition_of u.words)) 26 0 (accepted u)
    (λ own. (within o p u q (eqb-true o.edition (edition_of u.words) own), leb-true (length s) u.next b))
    (omega arith, omega arith))
    (omega arith, omega (arith, q.short, p.few, p.near)))
  where
    within : (o : Opened) → OpensBy o → (u : Unpacked) → NodesBy o.next o.count u → o.edition ≡ edition_of u.words → u.next ≤ plan_limit
    within o p u q e =
        let nodes : length u.words / 17 ≡ o.count = omega (arith, q.long) in
        let own : o.edition ≡ cond (none_new u.words o.count) 1 2 = rw nodes at e in
        bool_cases (none_new u.words o.count)
        (λ b. let one : o.edition ≡ 1 = rw b at own in omega (arith, q.short, p.few, p.first (λ t. omega arith)))
        (λ b. omega (arith, q.new b, p.few, p.near))

pub plan_ends : (s : List ℕ) (room : ℕ) → Holds (Whole s plan_limit) (PlacedTo place_limit) (unpack s room)
plan_ends s room =
    let next : Opened → Outcome Unpacked = λ o. need (leb (17 * o.count) room) 14 0 (all_nodes o.edition o.count s o.next) in
    rw (parts s room)
    (holds_then OpensBy (Whole s plan_limit) (PlacedTo place_limit) (opening_at s) next (opening_ends place_limit s (omega arith))
    (λ c q.
    holds_need (Whole s plan_limit) (PlacedTo place_limit) (leb (17 * c.count) room) 14 0 (all_nodes c.edition c.count s c.next)
    (λ _. all_end s c q) (omega arith, omega arith)))

-- ---- the same first bytes

-- the same outcome, and then the same wherever P holds of what was found
then_same : {A B : Type 0} (P : A → Type 0) (Q : Refusal → Type 0) (o : Outcome A) {o' : Outcome A} (next next' : A → Outcome B)
    → Holds P Q o → o ≡ o' → ((a : A) → P a → next a ≡ next' a) → and_then o next ≡ and_then o' next'
then_same P Q (accepted a) next next' h e f = rw (← e) (f a h)
then_same P Q (refused r) next next' h e f = rw (← e) refl

need_same : {A : Type 0} {next next' : Outcome A} (test : Bool) (number place : ℕ) → (test ≡ true → next ≡ next') → need test number place next ≡ need test number place next'
need_same true number place f = f refl
need_same false number place f = refl

turns_same : {A : Type 0} (P : ℕ → A → Type 0) (Q : Refusal → Type 0) (step step' : ℕ → A → Outcome A) (start : A) (m : ℕ)
    → ((n : ℕ) → n < m → Holds (P n) Q (in_turn step start n)) → ((n : ℕ) (a : A) → n < m → P n a → step n a ≡ step' n a)
    → in_turn step start m ≡ in_turn step' start m
unfolding in_turn
turns_same P Q step step' start zero h f = refl
turns_same P Q step step' start (suc m) h f =
    then_same (P m) Q (in_turn step start m) (step m) (step' m) (h m (omega arith))
    (turns_same P Q step step' start m (λ n l. h n (omega arith)) (λ n a l. f n a (omega arith))) (λ a. f m a (omega arith))

-- both have `limit` bytes, and the same first ones
pub record SameTo (limit : ℕ) (s t : List ℕ) : Type 0 where
  pub first : limit ≤ length s
  pub second : limit ≤ length t
  pub same : (i : ℕ) → i < limit → get_or s i 0 ≡ get_or t i 0

-- a number that begins by `end` ends within the bytes that are the same
module _ (end : ℕ) {s t : List ℕ} (m : SameTo (end + 5) s t) where
  groups_same : (k from at : ℕ) → at + k ≤ end + 5 → groups_at k s from at ≡ groups_at k t from at
  unfolding groups_at
  groups_same zero from at h = refl
  groups_same (suc k) from at h =
      let here : ltb at (length s) ≡ true = lt-ltb at (length s) (omega (arith, m.first)) in
      let there : ltb at (length t) ≡ true = lt-ltb at (length t) (omega (arith, m.second)) in
      rw (here, there, m.same at (omega arith), groups_same k from (at + 1) (omega arith)) refl

  number_same : (at : ℕ) → at ≤ end → number_at s at ≡ number_at t at
  unfolding number_at
  number_same at h = groups_same 5 at at (omega arith)

  count_same : (at : ℕ) → at ≤ end → count_at s at ≡ count_at t at
  unfolding count_at
  count_same at h = rw (number_same at h) refl

  head_same : head_at s ≡ head_at t
  unfolding head_at edition_at
  head_same =
      let one : ltb 0 (length s) ≡ ltb 0 (length t) = lt-ltb 0 (length s) (omega (arith, m.first)) ∙ sym (lt-ltb 0 (length t) (omega (arith, m.second))) in
      let two : ltb 1 (length s) ≡ ltb 1 (length t) = lt-ltb 1 (length s) (omega (arith, m.first)) ∙ sym (lt-ltb 1 (length t) (omega (arith, m.second))) in
      rw (one, two, m.same 0 (omega arith), m.same 1 (omega arith)) refl

  opening_same : 2 ≤ end → opening_at s ≡ opening_at t
  unfolding opening_at
  opening_same e =
      then_same Heads (PlacedTo end) (head_at s) _ _ (head_ends end s) head_same
      (λ h q. rw (count_same h.next (at_most h q)) refl)
    where
      at_most : (h : Read) → Heads h → h.next ≤ end
      at_most _ old = omega arith
      at_most _ newer = omega arith

  word_same : (op k : ℕ) (u : Unpacked) → EndsBy end u → read_word op s k u ≡ read_word op t k u
  unfolding read_word
  word_same op k u h = rw (number_same u.next h) refl

  words_same : (op at : ℕ) → op < operation_count → at + 45 ≤ end
      → in_turn (read_word op s) (record { words = pos op ∷ []; next = at }) 16 ≡ in_turn (read_word op t) (record { words = pos op ∷ []; next = at }) 16
  words_same op at h e =
      turns_same (λ (k : ℕ). EndsBy (at + 5 * used op k)) (PlacedTo end) (read_word op s) (read_word op t) (record { words = pos op ∷ []; next = at }) 16
      (λ k l. words_end end s op at h e k (omega arith))
      (λ k u l w. word_same op k u (omega (arith, few_used op k h (omega arith))))

  node_same : (edition at : ℕ) → at + 46 ≤ end → read_node edition s at ≡ read_node edition t at
  unfolding read_node
  node_same edition at e =
      then_same (NumberAt at) (PlacedTo end) (number_at s at) _ _ (number_ends end s at (omega arith)) (number_same at (omega arith))
      (λ op q.
      need_same (in_file edition op.value) 24 at
      (λ b.
      let h : op.value < operation_count = file_known edition op.value b in
      let one : op.next ≤ at + 1 = op_ends q h in
      words_same op.value op.next h (omega arith)))

  nodes_same : (edition at n : ℕ) → at + 46 * n ≤ end → nodes_at edition n s at ≡ nodes_at edition n t at
  unfolding nodes_at add_node
  nodes_same edition at n e =
      turns_same (NodesBy at) (PlacedTo end) (add_node edition s) (add_node edition t) (record { words = []; next = at }) n (λ n l. nodes_end end s edition at n (omega arith))
      (λ n u l h. rw (node_same edition u.next (omega (arith, h.short))) refl)

  all_same : (edition at n : ℕ) → at + 46 * n ≤ end → all_nodes edition n s at ≡ all_nodes edition n t at
  unfolding all_nodes
  all_same edition at n e =
      then_same (NodesBy at n) (PlacedTo end) (nodes_at edition n s at) _ _ (nodes_end end s edition at n e) (nodes_same edition at n e)
      (λ u h. rw (lt-leb (length s) u.next (omega (arith, m.first, h.short)), lt-leb (length t) u.next (omega (arith, m.second, h.short))) refl)

-- "so later bytes can't alter the answer"
pub plan_same : {s t : List ℕ} → SameTo (place_limit + 5) s t → (room : ℕ) → unpack s room ≡ unpack t room
plan_same {s} {t} m room =
    rw (parts s room, parts t room)
    (then_same OpensBy (PlacedTo place_limit) (opening_at s) _ _ (opening_ends place_limit s (omega arith)) (opening_same place_limit m (omega arith))
    (λ c q. need_same (leb (17 * c.count) room) 14 0 (λ _. all_same place_limit m c.edition c.next c.count (omega (arith, q.few, q.near)))))
