-- How the code holds operations, refusals and what a step ends with.
use Rattle.std.specs.Prelude.{ℕ, ◌≡◌, false, Result, Ok, Err, MatchResult}
use Rattle.plan.specs.declared.operations.Operation.{Operation}
use Rattle.plan.specs.declared.operations.Operation.TheVariants.{Const, Param, Permute, Flip, Reshape, Expand, Pad, Shrink, Cast, Add, Mul, Max, Idiv, Mod, CmpLt, CmpNe, And, Or, Where, Reduce, Load, Fill, Known, Stack}
use Rattle.plan.specs.declared.operations.UnknownOperation.{UnknownOperation}
use Rattle.plan.specs.declared.faults.Fault.{Fault}
use Rattle.plan.specs.declared.faults.Fault.TheVariants.{Length, NoOperation, UnusedWord, Source, TypeNumber, OperandTypes, RowOrNumber, Shapes, Devices, ZeroDivisor, ResultRange, TotalElements, InputLength, Room, Flag, Limits, NoElement, CutShort, NumberTooLong, BytesLeft, FileHead, FileOperation, PackedRange, Edition}
use Rattle.plan.specs.declared.faults.Refusal.{Refusal as Refused}
use Rattle.plan.specs.Operations.{is_operation}
use Rattle.plan.specs.Answers.{Refusal, Outcome, accepted, refused}

-- the number of an operation
abbrev pub number_of : Operation → ℕ
number_of Const = 0
number_of Param = 1
number_of Permute = 2
number_of Flip = 3
number_of Reshape = 4
number_of Expand = 5
number_of Pad = 6
number_of Shrink = 7
number_of Cast = 8
number_of Add = 9
number_of Mul = 10
number_of Max = 11
number_of Idiv = 12
number_of Mod = 13
number_of CmpLt = 14
number_of CmpNe = 15
number_of And = 16
number_of Or = 17
number_of Where = 18
number_of Reduce = 19
number_of Load = 20
number_of Fill = 21
number_of Known = 22
number_of Stack = 23

-- the operation of this number, or the number where no operation has it
abbrev pub Decodes : ℕ → Result Operation UnknownOperation → Type 0
Decodes n r = MatchResult r (λ op. number_of op ≡ n) (λ e. (e.0 ≡ n) × (is_operation n ≡ false))

-- the number of a refusal
abbrev pub fault_number : Fault → ℕ
fault_number Length = 1
fault_number NoOperation = 2
fault_number UnusedWord = 3
fault_number Source = 4
fault_number TypeNumber = 5
fault_number OperandTypes = 6
fault_number RowOrNumber = 7
fault_number Shapes = 8
fault_number Devices = 9
fault_number ZeroDivisor = 10
fault_number ResultRange = 11
fault_number TotalElements = 12
fault_number InputLength = 13
fault_number Room = 14
fault_number Flag = 15
fault_number Limits = 16
fault_number NoElement = 17
fault_number CutShort = 20
fault_number NumberTooLong = 21
fault_number BytesLeft = 22
fault_number FileHead = 23
fault_number FileOperation = 24
fault_number PackedRange = 25
fault_number Edition = 26

abbrev pub refusal_of : Refused → Refusal
refusal_of r = record { number = fault_number r.fault; place = r.place }

-- what the code ends with, as the outcome that it is
abbrev pub outcome_of : {A B : Type 0} → (B → A) → Result B Refused → Outcome A
outcome_of view (Ok b) = accepted (view b)
outcome_of view (Err r) = refused (refusal_of r)
