-- What each step of a run changed, and the line that is printed of it.
use Rattle.std.specs.Prelude.{ℕ, ◌+◌, ◌-◌, ◌==◌, nat_lt, if◌then◌else◌, Bool, false, List, [], ◌∷◌, ◌++◌, length, replicate}
use Rattle.std.specs.Prelude.{take, codes, decimal, Option, Some, None}
use Rattle.std.specs.Fmt.{digits}
use Rattle.std.specs.Int.{w64, to_le_bytes}
use Rattle.bpf_insn.specs.Text.{insn_text}
use Rattle.bpf_parts.specs.declared.operation.Comparison.{Comparison}
use Rattle.bpf_parts.specs.declared.operation.Condition.{Condition}
use Rattle.bpf_parts.specs.declared.operation.Width.{Width}
use Rattle.bpf_insn.specs.declared.insn.Insn.{Insn}
use Rattle.bpf_insn.specs.declared.insn.Insn.TheVariants.{Alu, Negate, MoveSigned, ByteSwap, Load, Store, Jump, Goto}
use Rattle.bpf_insn.specs.declared.insn.Insn.TheVariants.{Wide, LoadMap, LoadAddress, Call, Exit}
use Rattle.bpf_parts.specs.Sizes.{size_bytes}
use Rattle.bpf_parts.specs.declared.memory.Size.{Size}
use Rattle.bpf_parts.specs.Text.{register_text, signed_text}
use Rattle.machine.specs.State.{State}
use Rattle.machine.specs.Step.{number, operand}
use Rattle.machine.specs.Words.{holds_words}
use Rattle.machine.specs.declared.regions.Region.{Region}
use Rattle.machine.specs.declared.regions.Region.TheVariants.{Front, Tail, Stack}
use Rattle.machine.specs.declared.regions.TheConstants.{STACK_SIZE}
use Rattle.machine.specs.declared.values.Value.{Value}
use Rattle.machine.specs.declared.values.Value.TheVariants.{Unset, Num, Ptr, Map}
use Rattle.stepper.specs.Deeds.{stored_at}
use Rattle.job_parts.specs.Replies.{reply_text}
use Rattle.job_trace.specs.declared.changes.StepChange.{StepChange}
use Rattle.job_trace.specs.declared.changes.StepChange.TheVariants as changes
use Rattle.job_trace.specs.declared.lines.TheConstants.{COLUMN}

-- ---- values

-- a number: decimal below 4,096, else hexadecimal
abbrev pub number_text : ℕ → List ℕ
number_text n = if nat_lt n 4096 then decimal n else codes "0x" ++ digits 16 false n

-- the name of a region
abbrev pub region_text : Region → List ℕ
region_text Front = codes "front"
region_text Tail = codes "tail"
region_text Stack = codes "stack"

-- what a register holds: a pointer is its region and its offset there, with the sign
abbrev pub step_value_text : Value → List ℕ
step_value_text Unset = codes "unset"
step_value_text (Num n) = number_text n
step_value_text (Ptr region offset) = region_text region ++ signed_text offset
step_value_text (Map index) = codes "map " ++ decimal index

-- ---- changes

-- what a store of that number, of this size, to that place of the stack changed
abbrev pub stored : Size → (place : Option ℕ) → (number : Option ℕ) → StepChange
stored size None value = changes.Nothing
stored size (Some place) None = changes.Nothing
stored size (Some place) (Some n) = changes.Stored place size n

-- the condition holds of two numbers
abbrev pub condition_holds_of : Condition → Width → Option ℕ → Option ℕ → Bool
condition_holds_of condition width None b = false
condition_holds_of condition width (Some a) None = false
condition_holds_of condition width (Some a) (Some b) = holds_words condition width a b

-- the condition of a jump holds
abbrev pub holds : Comparison → State → Bool
holds comparison t =
    condition_holds_of comparison.condition comparison.width (number (t.registers comparison.dst)) (number (operand t comparison.src))

-- where a jump at that slot led: the slot, if that is not the next one, and else whether the condition holds
abbrev pub jumped : (holds : Bool) → (slot next : ℕ) → StepChange
jumped taken slot next =
    if next == slot + 1 then (if taken then changes.Taken else changes.NotTaken) else changes.Jumped next

-- what was written to that register, if there is one; the registers hold these values
abbrev pub written : Option ℕ → (registers : ℕ → Value) → StepChange
written None registers = changes.Nothing
written (Some register) registers = changes.Written register (registers register)

-- what an instruction at that slot changed, by the state after its step. A store and a jump change no register, so the
-- state has their operands as before. The last three go on by no step of their own
abbrev pub step_change_of : Insn → (slot : ℕ) → State → StepChange
step_change_of (Alu op width dst src) slot t = changes.Written dst (t.registers dst)
step_change_of (Negate width dst) slot t = changes.Written dst (t.registers dst)
step_change_of (MoveSigned extension dst src) slot t = changes.Written dst (t.registers dst)
step_change_of (ByteSwap swap bits dst) slot t = changes.Written dst (t.registers dst)
step_change_of (Load size dst place) slot t = changes.Written dst (t.registers dst)
step_change_of (Store size place src) slot t =
    stored size (stored_at (t.registers place.base) (size_bytes size) place.offset) (number (operand t src))
step_change_of (Jump comparison offset) slot t = jumped (holds comparison t) slot t.slot
step_change_of (Goto distance) slot t = changes.Jumped t.slot
step_change_of (Wide dst value) slot t = changes.Written dst (t.registers dst)
step_change_of (LoadMap dst index) slot t = changes.Written dst (t.registers dst)
step_change_of (LoadAddress dst address) slot t = changes.Nothing
step_change_of (Call callee called) slot t = changes.Nothing
step_change_of Exit slot t = changes.Nothing

-- the offsets of this many bytes of the stack from that place on: the first and the last, or the one
abbrev pub stack_text : (place bytes : ℕ) → List ℕ
stack_text place bytes =
    if bytes == 1
    then codes "stack-" ++ decimal (STACK_SIZE - place)
    else codes "stack-" ++ decimal (STACK_SIZE - place) ++ codes "..-" ++ decimal (STACK_SIZE + 1 - place - bytes)

-- the text of a change. Bytes that are stored are in their order in memory, the lowest of the number first
abbrev pub change_text : StepChange → List ℕ
change_text (changes.Written register value) = register_text register ++ codes " = " ++ step_value_text value
change_text (changes.Stored place size n) =
    stack_text place (size_bytes size) ++ codes " = " ++ reply_text (take (size_bytes size) (to_le_bytes w64 n))
change_text changes.NotTaken = codes "not taken"
change_text changes.Taken = codes "taken"
change_text (changes.Jumped slot) = codes "to " ++ decimal slot
change_text (changes.Answered call) =
    codes "map " ++ decimal call.question.map ++ codes " cell " ++ decimal call.question.key ++ codes ": told "
    ++ number_text call.answer
change_text (changes.Ended verdict steps budget) =
    codes "verdict " ++ decimal verdict ++ codes " after " ++ decimal steps ++ codes " steps, budget " ++ decimal budget
change_text changes.Nothing = []

-- ---- lines

-- this many spaces, and at most those of the column
abbrev pub blanks : ℕ → List ℕ
blanks n = take n (replicate COLUMN 32)

-- the slot of an instruction and its text
abbrev pub place_text : (slot : ℕ) → Insn → List ℕ
place_text slot insn = decimal slot ++ codes ": " ++ insn_text insn

-- a text in a column that begins a line, with the space after it
abbrev pub column_text : List ℕ → List ℕ
column_text text = codes "    " ++ text ++ blanks (COLUMN - length text) ++ codes " "

-- a text in a column, and after it a change
abbrev pub change_line : List ℕ → StepChange → List ℕ
change_line text change = column_text text ++ change_text change ++ 10 ∷ []

-- the line of a step: the instruction at its slot, and in a column of its own what it changed
abbrev pub trace_step_line : (slot : ℕ) → Insn → StepChange → List ℕ
trace_step_line slot insn change = change_line (place_text slot insn) change
