-- The check of a whole plan.
use Rattle.std.specs.Prelude.{ℕ, ◌+◌, ◌*◌, ◌-◌, List, [], ◌∷◌, ◌++◌, map, ℤ, pos, leb, length, replicate}
use Rattle.laws.specs.Lists.{concat, sum}
use Rattle.laws.specs.Numbering.{count}
use Rattle.plan.specs.declared.Answer.{Answer}
use Rattle.plan.specs.declared.Node.{Node}
use Rattle.plan.specs.Words.{words_per_node, node_limit, words_of, node_at, node_count, length_right, params_before}
use Rattle.plan.specs.Answers.{Outcome, accepted, refused, need, and_then, in_turn, Rule, in_order, answer_of, buffer_after}
use Rattle.codec.specs.Plans.{unpack}
use Rattle.rules.specs.Rules.{Derived, source_of, derived_of, rules_of}

-- source k of a node after the earlier ones
abbrev pub first : Node → List Derived → Derived
first x earlier = source_of earlier x 1 x.source1

abbrev pub second : Node → List Derived → Derived
second x earlier = source_of earlier x 2 x.source2

abbrev pub third : Node → List Derived → Derived
third x earlier = source_of earlier x 3 x.source3

-- what is derived of node n after the earlier ones
unfoldable pub derive_node : List ℤ → ℕ → List Derived → Derived
derive_node t n earlier =
    let x = node_at t n in
    derived_of x (first x earlier) (second x earlier) (third x earlier)

-- the rules of node n after the earlier ones
unfoldable pub node_rules : List ℤ → ℕ → List Derived → List Rule
node_rules t n earlier =
    let x = node_at t n in
    rules_of n (params_before t n) (words_of t n) (first x earlier) (second x earlier) (third x earlier)

unfoldable pub check_node : List ℤ → ℕ → List Derived → Outcome (List Derived)
check_node t n earlier = in_order (node_rules t n earlier) n (accepted (earlier ++ derive_node t n earlier ∷ []))

-- "nodes in turn": the first n
abbrev pub check_to : List ℤ → ℕ → Outcome (List Derived)
check_to t = in_turn (check_node t) []

-- the number of elements of a node, and of several nodes together
abbrev pub count_of : Derived → ℕ
count_of d = count d.extents

unfoldable pub total_of : List Derived → ℕ
total_of ds = sum (map count_of ds)

-- "12: all nodes together over 4194304 elements"
abbrev pub total_limit : ℕ
total_limit = 4194304

-- "Order: 1; nodes in turn, within a node 2 to 11 by number; 12": the records of an accepted plan, or the refusal
unfoldable pub verdict : List ℤ → Outcome (List Derived)
verdict t =
    need (length_right t) 1 0
    (and_then (check_to t (node_count t)) (λ ds. need (leb (total_of ds) total_limit) 12 0 (accepted ds)))

-- ---- the check's answer and buffer

-- "A check writes eight words a node: type, device, low, high, four extents (zeros past the rank)."
unfoldable pub derived_words : Derived → List ℤ
derived_words d =
    pos d.dtype ∷ pos d.device ∷ d.bounds.low ∷ d.bounds.high
    ∷ map pos d.extents ++ replicate (4 - length d.extents) (pos 0)

abbrev pub words_per_record : ℕ
words_per_record = 8

-- "A check skips 13, 15, 16"; "14: a buffer written to is too short", with room for so many words
unfoldable pub check : List ℤ → ℕ → Outcome (List Derived)
check t room = and_then (verdict t) (λ ds. need (leb (words_per_record * length ds) room) 14 0 (accepted ds))

abbrev pub check_answer : Outcome (List Derived) → Answer
check_answer = answer_of (λ (ds : List Derived). 0)

-- the buffer of derived words after a check
abbrev pub derived_after : Outcome (List Derived) → List ℤ → List ℤ
derived_after = buffer_after (λ (ds : List Derived). concat (map derived_words ds))

-- ---- "hands the packed bytes over, for unpack and check in one call"

-- an accepted plan: its table and its nodes' records
pub record Checked : Type 0 where
  pub table : List ℤ
  pub records : List Derived

-- "work on 256 node records at most": room for 256 nodes, so that 14 is never given
unfoldable pub unpack_check : List ℕ → Outcome Checked
unpack_check s =
    and_then (unpack s (words_per_node * node_limit)) (λ u.
    and_then (verdict u.words) (λ ds. accepted (record { table = u.words; records = ds })))

-- "the answer is the node count or, refused, 65536 times the number plus the place"
abbrev pub code_of : Outcome Checked → ℕ
code_of (accepted p) = length p.records
code_of (refused r) = 65536 * r.number + r.place
