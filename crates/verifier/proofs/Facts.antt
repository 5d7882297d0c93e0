-- What the paper says of a check, of the C call and of the listing in single cases. One computation shows all of them.
use Prim.Native.Nat.{ℕ, ◌-◌}
use mathlib.Core.Path.{◌≡◌, refl}
use mathlib.Core.Bool.{Bool, true, false}
use mathlib.Core.List.{List, [], ◌∷◌, ◌++◌, map}
use lib.IntN.{ℤ, pos, negsuc}
use lib.ListN.{length, replicate}
use Rattle.laws.specs.Lists.{last_or, concat}
use Rattle.plan.specs.declared.Answer.{Answer}
use Rattle.plan.specs.Operations.{CONST, PARAM, PAD, CAST, ADD, IDIV, CMPLT, CMPNE, AND, WHERE, REDUCE, LOAD, FILL, KNOWN, STACK}
use Rattle.plan.specs.Types.{between}
use Rattle.plan.specs.Words.{node_of, length_right}
use Rattle.plan.specs.Answers.{Outcome, accepted, refused}
use Rattle.rules.specs.Rules.{Derived, no_source, sources_earlier, types_agree, device_named, param_right, devices_agree}
use Rattle.verifier.specs.Check.{verdict, check, check_answer, derived_after, unpack_check, code_of}
use Rattle.verifier.specs.Listing.{listing}

pub data Value : Type 0 where
  tests : List Bool → Value
  -- a plan is accepted, and this is derived of its output
  output : Derived → Value
  refusal : ℕ → ℕ → Value
  answer : Answer → Value
  buffer : List ℤ → Value
  numbers : List ℕ → Value

pub data Fact : Type 0 where
  ◌is◌ : Value → Value → Fact

infix 68 ◌is◌
abbrev asked : Fact → Value
asked (a is b) = a

abbrev said : Fact → Value
said (a is b) = b

-- `unfolding checking` opens every definition that a check computes by, for the crates above too.
unfoldable pub checking : ℕ
unfolding Rattle.laws.specs.Integers.min_z Rattle.laws.specs.Integers.max_z Rattle.laws.specs.Integers.min4 Rattle.laws.specs.Integers.max4 Rattle.laws.specs.Integers.floor_div Rattle.laws.specs.Lists.tab Rattle.laws.specs.Lists.all_below Rattle.laws.specs.Lists.among Rattle.laws.specs.Lists.occurrences Rattle.laws.specs.Lists.position Rattle.laws.specs.Lists.sum Rattle.laws.specs.Lists.concat Rattle.laws.specs.Lists.last_or Rattle.laws.specs.Numbering.count Rattle.laws.specs.Numbering.ravel Rattle.laws.specs.Numbering.coord Rattle.plan.specs.Answers.in_turn Rattle.plan.specs.Answers.written Rattle.plan.specs.Operations.uses Rattle.plan.specs.Operations.is_operation Rattle.plan.specs.Types.holds Rattle.plan.specs.Types.contains Rattle.plan.specs.Types.range_of Rattle.plan.specs.Words.size_of Rattle.plan.specs.Words.node_of Rattle.plan.specs.Words.words_of Rattle.plan.specs.Words.node_at Rattle.plan.specs.Words.node_count Rattle.plan.specs.Words.over_params Rattle.plan.specs.Words.reads Rattle.codec.specs.Numbers.groups_at Rattle.codec.specs.Numbers.number_at Rattle.codec.specs.Numbers.word_of Rattle.codec.specs.Plans.read_word Rattle.codec.specs.Plans.read_node Rattle.codec.specs.Plans.add_node Rattle.codec.specs.Plans.unpack Rattle.shapes.specs.Rows.extents_of Rattle.shapes.specs.Rows.row_of Rattle.shapes.specs.Rows.is_shape_row Rattle.shapes.specs.Rows.is_flag_row Rattle.shapes.specs.Rows.is_offset_row Rattle.shapes.specs.Rows.is_permutation Rattle.shapes.specs.Rules.same_rank Rattle.shapes.specs.Rules.same_shape Rattle.shapes.specs.Rules.aligned Rattle.shapes.specs.Rules.can_broadcast Rattle.shapes.specs.Rules.broadcast Rattle.shapes.specs.Rules.shapes_agree Rattle.shapes.specs.Rules.permuted Rattle.shapes.specs.Rules.reduced Rattle.shapes.specs.Rules.gathered_extents Rattle.shapes.specs.Rules.result_extents Rattle.bounds.specs.Rules.corners Rattle.bounds.specs.Rules.add_bounds Rattle.bounds.specs.Rules.mul_bounds Rattle.bounds.specs.Rules.max_bounds Rattle.bounds.specs.Rules.idiv_bounds Rattle.bounds.specs.Rules.mod_bounds Rattle.bounds.specs.Rules.min_bounds Rattle.bounds.specs.Rules.where_bounds Rattle.bounds.specs.Rules.stack_bounds Rattle.bounds.specs.Rules.cmplt_bounds Rattle.bounds.specs.Rules.disjoint Rattle.bounds.specs.Rules.all_ends_equal Rattle.bounds.specs.Rules.cmpne_bounds Rattle.bounds.specs.Rules.gathered_count Rattle.bounds.specs.Rules.reduce_bounds Rattle.bounds.specs.Rules.result_bounds Rattle.verifier.specs.Check.derive_node Rattle.verifier.specs.Check.node_rules Rattle.verifier.specs.Check.check_node Rattle.plan.specs.Words.length_right Rattle.verifier.specs.Check.total_of Rattle.verifier.specs.Check.verdict Rattle.verifier.specs.Check.derived_words Rattle.verifier.specs.Check.check Rattle.verifier.specs.Check.unpack_check Rattle.verifier.specs.Listing.digits Rattle.verifier.specs.Listing.decimal Rattle.verifier.specs.Listing.signed Rattle.verifier.specs.Listing.joined Rattle.verifier.specs.Listing.shape_text Rattle.verifier.specs.Listing.node_line Rattle.verifier.specs.Listing.listing Rattle.rules.specs.Rules.source_of Rattle.plan.specs.Words.unused_zero Rattle.rules.specs.Rules.sources_earlier Rattle.rules.specs.Rules.type_named Rattle.rules.specs.Rules.types_agree Rattle.rules.specs.Rules.device_named Rattle.rules.specs.Rules.param_right Rattle.rules.specs.Rules.stack_number Rattle.rules.specs.Rules.rows_right Rattle.rules.specs.Rules.shape_right Rattle.rules.specs.Rules.one_device Rattle.rules.specs.Rules.join_device Rattle.rules.specs.Rules.devices_agree Rattle.rules.specs.Rules.result_device Rattle.rules.specs.Rules.divisor_right Rattle.rules.specs.Rules.result_type Rattle.rules.specs.Rules.derived_of Rattle.rules.specs.Rules.bounds_in_type Rattle.plan.specs.Operations.is_new Rattle.plan.specs.Operations.in_file Rattle.codec.specs.Plans.edition_at Rattle.codec.specs.Plans.none_new Rattle.codec.specs.Plans.edition_of
checking = 0

-- ---- nodes written by hand

-- n words, zeros after those given
abbrev padded : ℕ → List ℤ → List ℤ
padded n w = w ++ replicate (n - length w) (pos 0)

-- an operation; its sources; its type, number, device, low and high; its rows A and B
abbrev pub words : ℕ → List ℕ → List ℤ → List ℕ → List ℕ → List ℤ
words op sources named a b = pos op ∷ padded 3 (map pos sources) ++ padded 5 named ++ padded 4 (map pos a) ++ padded 4 (map pos b)

abbrev pub constant : ℕ → ℤ → List ℤ
constant t v = words CONST [] (pos t ∷ v ∷ []) [] []

-- PARAM of a type, slot, device, limits and extents
abbrev pub param : ℕ → ℕ → ℕ → ℤ → ℤ → List ℕ → List ℤ
param t slot device low high r = words PARAM [] (pos t ∷ pos slot ∷ pos device ∷ low ∷ high ∷ []) r []

-- an operation on these nodes, with no other words; and with rows A and B
abbrev pub on : ℕ → List ℕ → List ℤ
on op sources = words op sources [] [] []

abbrev pub move : ℕ → ℕ → List ℕ → List ℕ → List ℤ
move op source a b = words op (source ∷ []) [] a b

abbrev pub cast : ℕ → ℕ → List ℤ
cast source t = words CAST (source ∷ []) (pos t ∷ []) [] []

abbrev pub load : ℕ → ℕ → List ℤ
load source device = words LOAD (source ∷ []) (pos 0 ∷ pos 0 ∷ pos device ∷ []) [] []

abbrev pub reduce : ℕ → ℕ → List ℕ → List ℤ
reduce source number flags = words REDUCE (source ∷ []) (pos 0 ∷ pos number ∷ []) flags []

-- STACK of these nodes, with this number
abbrev pub stack : List ℕ → ℤ → List ℤ
stack sources number = words STACK sources (pos 0 ∷ number ∷ []) [] []

-- ---- what is asked

abbrev verdict_on : Outcome (List Derived) → Value
verdict_on (accepted ds) = output (last_or no_source ds)
verdict_on (refused r) = refusal r.number r.place

-- the check of these nodes
abbrev plan : List (List ℤ) → Value
plan nodes = verdict_on (verdict (concat nodes))

-- an output's type, device, low, high and extents
abbrev derived : ℕ → ℕ → ℤ → ℤ → List ℕ → Value
derived t device low high r = output (record { dtype = t; device = device; bounds = between low high; extents = r })

-- u8 on device 1, of these extents, and a copy of node 0 in that type
abbrev big : List ℕ → List ℤ
big r = param 1 0 1 (pos 0) (pos 9) r

abbrev copy : List ℤ
copy = cast 0 1

-- i16 [−4,10] on device 3, 2x3
abbrev small : List ℤ
small = param 2 0 3 (negsuc 3) (pos 10) (2 ∷ 3 ∷ [])

abbrev facts : List Fact
facts =
    -- "1: length no multiple of 17, or not 1..256 nodes"
    tests (map (λ (n : ℕ). length_right (replicate n (pos 0))) (0 ∷ 16 ∷ 17 ∷ 4352 ∷ 4369 ∷ [])) is tests (false ∷ false ∷ true ∷ true ∷ false ∷ [])
    ∷ plan [] is refusal 1 0
    -- "2: operation not 0..23; node"; "3: unused word not zero"
    ∷ plan (constant 2 (pos 5) ∷ on 24 [] ∷ []) is refusal 2 1
    ∷ plan (constant 2 (pos 5) ∷ words CONST [] (pos 2 ∷ []) [] (0 ∷ 0 ∷ 0 ∷ 1 ∷ []) ∷ []) is refusal 3 1
    -- "4: source negative or not earlier"; before 5
    ∷ tests (map (λ (sources : List ℕ). sources_earlier (node_of (on WHERE sources)) 1) ((0 ∷ 0 ∷ 0 ∷ []) ∷ (1 ∷ 0 ∷ 0 ∷ []) ∷ (0 ∷ 1 ∷ 0 ∷ []) ∷ (0 ∷ 0 ∷ 1 ∷ []) ∷ []))
    is tests (true ∷ false ∷ false ∷ false ∷ [])
    ∷ tests (sources_earlier (node_of (pos LOAD ∷ negsuc 0 ∷ [])) 1 ∷ []) is tests (false ∷ [])
    ∷ plan (constant 2 (pos 5) ∷ cast 1 4 ∷ []) is refusal 4 1
    -- "5: word 4 used and not 0..3"
    ∷ plan (constant 4 (pos 0) ∷ []) is refusal 5 0
    -- "6: type rule broken (operands differ, bool misplaced, WHERE condition not bool)": all sources bool, all i16, two that differ
    ∷ tests (map (λ (op : ℕ). types_agree (node_of (on op [])) 0 0 0) (ADD ∷ CMPLT ∷ CMPNE ∷ AND ∷ WHERE ∷ REDUCE ∷ []))
    is tests (false ∷ false ∷ true ∷ true ∷ true ∷ false ∷ [])
    ∷ tests (map (λ (op : ℕ). types_agree (node_of (on op [])) 2 2 2) (ADD ∷ CMPLT ∷ CMPNE ∷ AND ∷ WHERE ∷ REDUCE ∷ []))
    is tests (true ∷ true ∷ true ∷ false ∷ false ∷ true ∷ [])
    ∷ tests (types_agree (node_of (on ADD [])) 2 3 0 ∷ types_agree (node_of (on CMPNE [])) 2 3 0 ∷ types_agree (node_of (on WHERE [])) 0 2 3 ∷ []) is tests (false ∷ false ∷ false ∷ [])
    -- 6 before 7
    ∷ plan (constant 0 (pos 1) ∷ reduce 0 2 [] ∷ []) is refusal 6 1
    -- "7: row or number wrong": REDUCE's number; "a device used is 1..255"; "slot (word 5) k ≤ 15 and low ≤ high"
    ∷ plan (constant 2 (pos 5) ∷ reduce 0 2 [] ∷ []) is refusal 7 1
    ∷ tests (map (λ (device : ℕ). device_named (node_of (load 0 device))) (0 ∷ 1 ∷ 255 ∷ 256 ∷ [])) is tests (false ∷ true ∷ true ∷ false ∷ [])
    ∷ tests (param_right (node_of (param 2 15 1 (pos 4) (pos 4) [])) 15 ∷ param_right (node_of (param 2 16 1 (pos 4) (pos 4) [])) 16 ∷ param_right (node_of (param 2 0 1 (pos 4) (pos 3) [])) 0 ∷ [])
    is tests (true ∷ false ∷ false ∷ [])
    -- "8: shapes disagree, or over 1048576 elements": PAD of 3 at 2 to 4
    ∷ plan (small ∷ move PAD 0 (4 ∷ 4 ∷ []) (0 ∷ 2 ∷ []) ∷ []) is refusal 8 1
    ∷ plan (big (17 ∷ 61681 ∷ []) ∷ []) is refusal 8 0
    -- FILL: "same type, broadcast", "bounds least low and greatest high"
    ∷ plan (small ∷ constant 2 (pos 30) ∷ on FILL (0 ∷ 1 ∷ []) ∷ []) is derived 2 3 (negsuc 3) (pos 30) (2 ∷ 3 ∷ [])
    ∷ plan (small ∷ constant 3 (pos 30) ∷ on FILL (0 ∷ 1 ∷ []) ∷ []) is refusal 6 2
    -- KNOWN: "bool", "bounds [0,1]", the device of its source
    ∷ plan (small ∷ on KNOWN (0 ∷ []) ∷ []) is derived 0 3 (pos 0) (pos 1) (2 ∷ 3 ∷ [])
    -- STACK: "joined on a new leading axis", "bounds least and greatest"; of three with a word 3, of two without
    ∷ plan (small ∷ stack (0 ∷ 0 ∷ []) (pos 2) ∷ []) is derived 2 3 (negsuc 3) (pos 10) (2 ∷ 2 ∷ 3 ∷ [])
    ∷ plan (constant 2 (pos 5) ∷ constant 2 (pos 9) ∷ constant 2 (pos 7) ∷ stack (1 ∷ 2 ∷ 0 ∷ []) (pos 3) ∷ []) is derived 2 0 (pos 5) (pos 9) (3 ∷ [])
    -- number 2: word 3 is not node 0, for type, shape, device and bounds
    ∷ plan (small ∷ constant 0 (pos 1) ∷ stack (1 ∷ 1 ∷ []) (pos 2) ∷ []) is derived 0 0 (pos 1) (pos 1) (2 ∷ [])
    -- "STACK's number, or a word 3 not zero with number 2, is 7": after 6 of its first two sources, 4 of word 3 only with number 3
    ∷ plan (constant 2 (pos 5) ∷ stack (0 ∷ 0 ∷ []) (pos 1) ∷ []) is refusal 7 1
    ∷ plan (constant 2 (pos 5) ∷ stack (0 ∷ 0 ∷ []) (pos 4) ∷ []) is refusal 7 1
    ∷ plan (constant 2 (pos 5) ∷ stack (0 ∷ 0 ∷ []) (negsuc 0) ∷ []) is refusal 7 1
    ∷ plan (constant 2 (pos 5) ∷ stack (0 ∷ 0 ∷ 9 ∷ []) (pos 2) ∷ []) is refusal 7 1
    ∷ plan (constant 2 (pos 5) ∷ stack (0 ∷ 0 ∷ 9 ∷ []) (pos 3) ∷ []) is refusal 4 1
    ∷ plan (constant 2 (pos 5) ∷ constant 3 (pos 5) ∷ stack (0 ∷ 1 ∷ []) (pos 1) ∷ []) is refusal 6 2
    -- "its shapes and rank 8"
    ∷ plan (small ∷ constant 2 (pos 5) ∷ stack (0 ∷ 1 ∷ []) (pos 2) ∷ []) is refusal 8 2
    ∷ plan (big (1 ∷ 1 ∷ 1 ∷ []) ∷ stack (0 ∷ 0 ∷ []) (pos 2) ∷ []) is derived 1 1 (pos 0) (pos 9) (2 ∷ 1 ∷ 1 ∷ 1 ∷ [])
    ∷ plan (big (1 ∷ 1 ∷ 1 ∷ 1 ∷ []) ∷ stack (0 ∷ 0 ∷ []) (pos 2) ∷ []) is refusal 8 1
    -- "9: two devices"; "Others take the one non-zero device of their sources"
    ∷ plan (small ∷ load 0 4 ∷ on ADD (0 ∷ 1 ∷ []) ∷ []) is refusal 9 2
    ∷ tests (devices_agree 3 0 3 ∷ devices_agree 3 4 0 ∷ devices_agree 0 3 4 ∷ []) is tests (true ∷ false ∷ false ∷ [])
    ∷ plan (constant 2 (pos 5) ∷ param 2 0 3 (pos 0) (pos 9) (2 ∷ []) ∷ on CMPLT (0 ∷ 1 ∷ []) ∷ []) is derived 0 3 (pos 0) (pos 1) (2 ∷ [])
    -- "18 WHERE; second source"
    ∷ plan (constant 0 (pos 1) ∷ constant 2 (pos 5) ∷ on WHERE (0 ∷ 1 ∷ 1 ∷ []) ∷ []) is derived 2 0 (pos 5) (pos 5) []
    -- "10: divisor bounds contain 0"; before "11: bounds leave the type", for [−2147483648,−2147483648] by [−1,0]
    ∷ plan (constant 3 (negsuc 2147483647) ∷ param 3 0 1 (negsuc 0) (pos 0) [] ∷ on IDIV (0 ∷ 1 ∷ []) ∷ []) is refusal 10 2
    ∷ plan (constant 3 (negsuc 2147483647) ∷ constant 3 (negsuc 0) ∷ on IDIV (0 ∷ 1 ∷ []) ∷ []) is refusal 11 2
    -- "12: all nodes together over 4194304 elements; 0"
    ∷ plan (big (1024 ∷ 1024 ∷ []) ∷ copy ∷ copy ∷ copy ∷ []) is derived 1 1 (pos 0) (pos 9) (1024 ∷ 1024 ∷ [])
    ∷ plan (big (1024 ∷ 1024 ∷ []) ∷ copy ∷ copy ∷ copy ∷ constant 1 (pos 0) ∷ []) is refusal 12 0
    -- "A check writes eight words a node: type, device, low, high, four extents (zeros past the rank)."
    ∷ buffer (derived_after (check small 9) (replicate 9 (pos 7)))
    is buffer (pos 2 ∷ pos 3 ∷ negsuc 3 ∷ pos 10 ∷ pos 2 ∷ pos 3 ∷ pos 0 ∷ pos 0 ∷ pos 7 ∷ [])
    -- "14: a buffer written to is too short"; "0 is accepted, place 0, gap count 0 outside a run"
    ∷ answer (check_answer (check small 7)) is answer (record { number = 14; place = 0; count = 0 })
    ∷ answer (check_answer (check small 8)) is answer (record { number = 0; place = 0; count = 0 })
    -- "the node count or, refused, 65536 times the number plus the place": 01 00 04 0A, and 24 at 1
    ∷ numbers (map (λ (s : List ℕ). code_of (unpack_check s)) ((0x01 ∷ 0x00 ∷ 0x04 ∷ 0x0a ∷ []) ∷ (0x01 ∷ 0x15 ∷ []) ∷ [])) is numbers (1 ∷ 1572865 ∷ [])
    -- "For bytes 01 00 04 0A it writes exactly"; "A refusal writes only `refused N at P`."
    ∷ numbers (listing (0x01 ∷ 0x00 ∷ 0x04 ∷ 0x0a ∷ []))
    is numbers (110 ∷ 111 ∷ 100 ∷ 101 ∷ 32 ∷ 111 ∷ 112 ∷ 32 ∷ 100 ∷ 116 ∷ 121 ∷ 112 ∷ 101 ∷ 32 ∷ 100 ∷ 101 ∷ 118 ∷ 105 ∷ 99 ∷ 101 ∷ 32 ∷ 108 ∷ 111 ∷ 119 ∷ 32 ∷ 104 ∷ 105 ∷ 103 ∷ 104 ∷ 32 ∷ 115 ∷ 104 ∷ 97 ∷ 112 ∷ 101 ∷ 10 ∷ 48 ∷ 32 ∷ 48 ∷ 32 ∷ 50 ∷ 32 ∷ 48 ∷ 32 ∷ 53 ∷ 32 ∷ 53 ∷ 32 ∷ 45 ∷ 10 ∷ 97 ∷ 99 ∷ 99 ∷ 101 ∷ 112 ∷ 116 ∷ 101 ∷ 100 ∷ 32 ∷ 49 ∷ 10 ∷ [])
    ∷ numbers (listing []) is numbers (114 ∷ 101 ∷ 102 ∷ 117 ∷ 115 ∷ 101 ∷ 100 ∷ 32 ∷ 50 ∷ 48 ∷ 32 ∷ 97 ∷ 116 ∷ 32 ∷ 48 ∷ 10 ∷ [])
    ∷ []

pub facts_hold : map asked facts ≡ map said facts
unfolding checking
facts_hold = refl
