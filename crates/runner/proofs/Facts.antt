-- What the paper says of a run in single cases. One computation shows all of them.
use Prim.Native.Nat.{ℕ}
use mathlib.Core.Path.{◌≡◌, refl}
use mathlib.Core.List.{List, [], ◌∷◌, map}
use lib.IntN.{ℤ, pos, negsuc}
use lib.ListN.{replicate}
use Rattle.laws.specs.Lists.{concat}
use Rattle.plan.specs.declared.Answer.{Answer}
use Rattle.plan.specs.Operations.{PAD, ADD}
use Rattle.plan.specs.Answers.{Outcome}
use Rattle.verifier.proofs.Facts.{checking, constant, param, on, move}
use Rattle.cells.specs.Cells.{Field}
use Rattle.runner.specs.Run.{run, run_answer, values_after, flags_after}

-- what a call answers, and the two result buffers after it
pub record Call : Type 0 where
  pub answer : Answer
  pub values : List ℤ
  pub flags : List ℕ

pub data Fact : Type 0 where
  ◌is◌ : Call → Call → Fact

infix 68 ◌is◌
abbrev asked : Fact → Call
asked (a is b) = a

abbrev said : Fact → Call
said (a is b) = b

-- buffers before a call
abbrev nines : ℕ → List ℤ
nines n = replicate n (pos 99)

abbrev marks : ℕ → List ℕ
marks n = replicate n 99

abbrev call_of : Outcome (List Field) → ℕ → ℕ → Call
call_of o n m = record { answer = run_answer o; values = values_after o (nines n); flags = flags_after o (marks m) }

-- the run of these nodes on values and flags, into buffers of n values and m flags
abbrev ran : List (List ℤ) → List ℤ → List ℕ → ℕ → ℕ → Call
ran nodes values flags n m = call_of (run (concat nodes) values flags n m) n m

-- it completes, with so many gaps in its output
abbrev done : ℕ → List ℤ → List ℕ → Call
done gaps values flags = record { answer = record { number = 0; place = 0; count = gaps }; values = values; flags = flags }

-- it refuses, and the buffers of n values and m flags are as they were
abbrev refusal : ℕ → ℕ → ℕ → ℕ → Call
refusal number place n m = record { answer = record { number = number; place = place; count = 0 }; values = nines n; flags = marks m }

-- two numbers of [0,9], padded to 5 at 1
abbrev pad : List (List ℤ)
pad = param 2 0 1 (pos 0) (pos 9) (2 ∷ []) ∷ move PAD 0 (5 ∷ []) (1 ∷ []) ∷ []

-- two numbers of [0,9], then CONST 5
abbrev five : List (List ℤ)
five = param 2 0 1 (pos 0) (pos 9) (2 ∷ []) ∷ constant 2 (pos 5) ∷ []

-- a number of [0,9], CONST 5, two numbers of [−4,−2], and the sum of both PARAMs
abbrev sum : List (List ℤ)
sum =
    param 2 0 1 (pos 0) (pos 9) (1 ∷ [])
    ∷ constant 2 (pos 5)
    ∷ param 2 1 1 (negsuc 3) (negsuc 1) (2 ∷ [])
    ∷ on ADD (0 ∷ 2 ∷ [])
    ∷ []

abbrev facts : List Fact
facts =
    -- "writes all nodes' elements end to end into two result buffers"; "A gap is written as value 0, flag 0."; "Buffer places past what any
    -- call writes stay as they were."; "The answer carries the number of gaps in the output node."
    ran pad (pos 7 ∷ pos 9 ∷ []) (1 ∷ 1 ∷ []) 8 7
    is done 3 (pos 7 ∷ pos 9 ∷ pos 0 ∷ pos 7 ∷ pos 9 ∷ pos 0 ∷ pos 0 ∷ pos 99 ∷ []) (1 ∷ 1 ∷ 0 ∷ 1 ∷ 1 ∷ 0 ∷ 0 ∷ [])
    -- "values and flags (1 known, 0 gap) of all PARAMs": a gap of the input is none of the output CONST
    ∷ ran five (pos 7 ∷ pos 9 ∷ []) (0 ∷ 1 ∷ []) 3 3 is done 0 (pos 0 ∷ pos 9 ∷ pos 5 ∷ []) (0 ∷ 1 ∷ 1 ∷ [])
    -- "of all PARAMs end to end in node order"
    ∷ ran sum (pos 9 ∷ negsuc 3 ∷ negsuc 1 ∷ []) (1 ∷ 1 ∷ 1 ∷ []) 6 6
    is done 0 (pos 9 ∷ pos 5 ∷ negsuc 3 ∷ negsuc 1 ∷ pos 5 ∷ pos 7 ∷ []) (1 ∷ 1 ∷ 1 ∷ 1 ∷ 1 ∷ 1 ∷ [])
    -- "13: either input length is not the PARAM total"
    ∷ ran five (pos 7 ∷ []) (1 ∷ 1 ∷ []) 3 3 is refusal 13 0 3 3
    ∷ ran five (pos 7 ∷ pos 9 ∷ []) (1 ∷ []) 3 3 is refusal 13 0 3 3
    ∷ ran five (pos 7 ∷ pos 9 ∷ pos 9 ∷ []) (1 ∷ 1 ∷ 1 ∷ []) 3 3 is refusal 13 0 3 3
    ∷ ran (constant 2 (pos 5) ∷ []) [] [] 1 1 is done 0 (pos 5 ∷ []) (1 ∷ [])
    -- "14: a buffer written to is too short"; "then 13, 14; then 15 and 16"
    ∷ ran five (pos 7 ∷ pos 9 ∷ []) (1 ∷ 1 ∷ []) 2 3 is refusal 14 0 2 3
    ∷ ran five (pos 7 ∷ pos 9 ∷ []) (1 ∷ 1 ∷ []) 3 2 is refusal 14 0 3 2
    ∷ ran five (pos 7 ∷ []) (1 ∷ []) 2 2 is refusal 13 0 2 2
    ∷ ran five (pos 7 ∷ pos 9 ∷ []) (1 ∷ 2 ∷ []) 2 3 is refusal 14 0 2 3
    -- "15: flag neither 0 nor 1; position"
    ∷ ran five (pos 7 ∷ pos 9 ∷ []) (1 ∷ 2 ∷ []) 3 3 is refusal 15 1 3 3
    -- "16: known number outside limits; position": the limits of its own PARAM
    ∷ ran five (pos 7 ∷ pos 10 ∷ []) (1 ∷ 1 ∷ []) 3 3 is refusal 16 1 3 3
    ∷ ran sum (pos 9 ∷ negsuc 3 ∷ pos 0 ∷ []) (1 ∷ 1 ∷ 1 ∷ []) 6 6 is refusal 16 2 6 6
    -- "15 and 16 at the first bad position, 15 before 16"
    ∷ ran five (negsuc 0 ∷ pos 9 ∷ []) (1 ∷ 2 ∷ []) 3 3 is refusal 16 0 3 3
    ∷ ran five (pos 10 ∷ pos 10 ∷ []) (2 ∷ 1 ∷ []) 3 3 is refusal 15 0 3 3
    -- "the other values lie under gaps": their limits are not tested
    ∷ ran five (pos 10 ∷ pos 9 ∷ []) (0 ∷ 1 ∷ []) 3 3 is done 0 (pos 0 ∷ pos 9 ∷ pos 5 ∷ []) (0 ∷ 1 ∷ 1 ∷ [])
    -- 1 to 12, "the check's" refusals, come before 13 and 14
    ∷ ran (constant 4 (pos 5) ∷ []) (pos 7 ∷ []) [] 0 0 is refusal 5 0 0 0
    ∷ []

pub facts_hold : map asked facts ≡ map said facts
unfolding checking Rattle.shapes.specs.Sources.permute_source Rattle.shapes.specs.Sources.flip_source Rattle.shapes.specs.Sources.expand_source Rattle.shapes.specs.Sources.in_source Rattle.shapes.specs.Sources.pad_source Rattle.shapes.specs.Sources.shrink_source Rattle.shapes.specs.Sources.source_element Rattle.shapes.specs.Sources.broadcast_source Rattle.shapes.specs.Sources.reduce_source Rattle.shapes.specs.Sources.gathered Rattle.cells.specs.Cells.fold_cells Rattle.cells.specs.Cells.binary Rattle.cells.specs.Cells.reduction Rattle.cells.specs.Nodes.eval_cell Rattle.cells.specs.Nodes.eval_node Rattle.runner.specs.Inputs.input_limits Rattle.runner.specs.Inputs.input_cell Rattle.runner.specs.Inputs.input_cells Rattle.runner.specs.Inputs.test_input Rattle.runner.specs.Inputs.test_inputs Rattle.runner.specs.Run.field_of Rattle.runner.specs.Run.operands_of Rattle.runner.specs.Run.node_field Rattle.runner.specs.Run.fields_to Rattle.runner.specs.Run.run_accepted Rattle.runner.specs.Run.run Rattle.runner.specs.Run.gap_count Rattle.runner.specs.Run.all_cells
facts_hold = refl
