-- What the slow program finds for an instruction, as an outcome of the definition.
use Rattle.std.specs.Prelude.{◌≡◌, ℕ, ℤ, ◌+◌, ◌≤◌, ◌+ℤ◌, ◌&&◌, if◌then◌else◌}
use Rattle.std.specs.Prelude.{List, slice_index_or, Option, Some, None}
use Rattle.bpf_parts.specs.declared.callee.Callee.{Callee}
use Rattle.bpf_insn.specs.declared.insn.Insn.{Insn}
use Rattle.stepper.specs.declared.deeds.InstructionEffect.{InstructionEffect}
use Rattle.stepper.specs.declared.deeds.InstructionEffect.TheVariants as deeds
use Rattle.stepper.specs.declared.deeds.MachineView.{MachineView}
use Rattle.machine.specs.declared.helpers.Helper.{Helper}
use Rattle.machine.specs.declared.regions.TheConstants.{STACK_SIZE}
use Rattle.machine.specs.declared.values.Value.{Value}
use Rattle.machine.specs.declared.values.Value.TheVariants.{Unset, Num, Ptr, Map}
use Rattle.machine.specs.declared.regions.Region.TheVariants.{Front, Tail, Stack}
use Rattle.machine.specs.Helpers.{helper_of, takes_kind}
use Rattle.machine.specs.Memory.{Header, byte_after, region_place_of}
use Rattle.stepper.specs.Bytes.{bytes_in, lent_header}
use Rattle.machine.specs.Sizes.{Maps, kind_of_map}
use Rattle.machine.specs.State.{State, state, register_after}
use Rattle.machine.specs.Step.{Outcome, Next, Ask, Verdict, Trap, question, after_answer, argument_of, asks, calls}
use Rattle.machine.specs.Step.{has_kind, is_cell, finds_cell, perform, finds_maps, writes}

-- a list of values, by register
abbrev pub registers_in : List Value → ℕ → Value
registers_in registers k = slice_index_or registers k Unset

-- the state of a frame: its slot, its registers and its stack
abbrev pub state_in : MachineView → State
state_in frame = state frame.slot (registers_in frame.registers.now) (bytes_in frame.memory.stack.now)

-- what a deed makes of a state
abbrev pub outcome_of : State → InstructionEffect → Outcome
outcome_of s (deeds.Write register value slots) =
    Next (state (s.slot + slots) (register_after s.registers register value) s.stack)
outcome_of s (deeds.Put place bytes number) =
    Next (state (s.slot + 1) s.registers (byte_after s.stack bytes place number))
outcome_of s (deeds.Go slot) = Next (state slot s.registers s.stack)
outcome_of s (deeds.Ask asked) = Ask asked (after_answer s)
outcome_of s (deeds.Verdict verdict) = Verdict verdict
outcome_of s deeds.Trap = Trap

-- what a deed makes of the state of a frame
abbrev pub outcome_in : MachineView → InstructionEffect → Outcome
outcome_in frame deed = outcome_of (state_in frame) deed

-- the deed writes the register, and the next instruction is `slots` slots further
abbrev pub Writes : MachineView → (register : ℕ) → Option Value → (slots : ℕ) → InstructionEffect → Type 0
Writes frame register value slots deed =
    outcome_in frame deed ≡ writes (state_in frame) (frame.slot + slots) register value

-- the deed is what the instruction does
abbrev pub Does : MachineView → Insn → InstructionEffect → Type 0
Does frame insn deed =
    outcome_in frame deed ≡ perform (lent_header frame.memory) (state_in frame) insn

-- a deed's place is there: the next slot is near, and the bytes that it writes lie in the stack
abbrev pub IsPlaced : InstructionEffect → Type 0
IsPlaced (deeds.Write register value slots) = slots ≤ 2
IsPlaced (deeds.Put place bytes number) = place + bytes ≤ STACK_SIZE
IsPlaced (deeds.Go slot) = Unit {0}
IsPlaced (deeds.Ask asked) = Unit {0}
IsPlaced (deeds.Verdict verdict) = Unit {0}
IsPlaced deeds.Trap = Unit {0}

-- the place in the stack of the first of `bytes` bytes at that distance from a pointer, if all of them lie there
abbrev pub stored_at : (base : Value) → (bytes : ℕ) → (distance : ℤ) → Option ℕ
stored_at Unset bytes distance = None
stored_at (Num n) bytes distance = None
stored_at (Ptr Front offset) bytes distance = None
stored_at (Ptr Tail offset) bytes distance = None
stored_at (Ptr Stack offset) bytes distance = region_place_of Stack bytes (offset +ℤ distance)
stored_at (Map index) bytes distance = None

-- the question of a helper for a key of a map, if the map is of a kind of which the helper may be asked
abbrev pub asks_of : (sizes : Maps) → State → Helper → (map key : ℕ) → Outcome
asks_of sizes s helper map key =
    if takes_kind helper (kind_of_map sizes map)
    then asks s helper (Map map) (Num key) (argument_of helper (s.registers 3))
    else Trap

-- the question of a helper, with these maps
abbrev pub asks_with : (sizes : Maps) → State → Helper → Outcome
asks_with sizes s helper =
    if is_cell sizes (s.registers 1) (s.registers 2) && has_kind sizes helper (s.registers 1)
    then asks s helper (s.registers 1) (s.registers 2) (argument_of helper (s.registers 3))
    else Trap

-- a call with these maps
abbrev pub calls_with : (sizes : Maps) → State → Callee → ℤ → Outcome
calls_with sizes s callee number =
    if finds_cell sizes (helper_of number) (s.registers 1) (s.registers 2)
    then calls s callee number
    else Trap

-- what an instruction does with maps of these sizes
abbrev pub perform_with : (sizes : Maps) → Header → State → Insn → Outcome
perform_with sizes header s insn = if finds_maps sizes s (Some insn) then perform header s insn else Trap

-- the deed is what the instruction does with maps of these sizes
abbrev pub DoesWith : (sizes : Maps) → MachineView → Insn → InstructionEffect → Type 0
DoesWith sizes frame insn deed =
    outcome_in frame deed ≡ perform_with sizes (lent_header frame.memory) (state_in frame) insn
