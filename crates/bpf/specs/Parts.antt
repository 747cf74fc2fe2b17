-- How an image is made of its parts, or the first fault of them.
use Rattle.std.specs.Prelude.{ℕ, Bool, true, false, if◌then◌else◌, List, [], ◌∷◌, length, Option, Some, None, is_some}
use Rattle.std.specs.Prelude.{Result, Ok, Err}
use Rattle.std.specs.List.{flat_map}
use Rattle.bpf_insn.specs.declared.insn.Insn.{Insn}
use Rattle.bpf_insn.specs.Spelling.{second_immediate}
use Rattle.bpf.specs.declared.header.ImageHeader.{ImageHeader}
use Rattle.bpf.specs.declared.loops.Loop.{Loop}
use Rattle.bpf.specs.declared.version.Version.{Version}
use Rattle.bpf.specs.declared.fault.ImageFault.{ImageFault}
use Rattle.bpf.specs.declared.fault.ImageFault.TheVariants as faults
use Rattle.bpf.specs.Program.{Program, program}
use Rattle.bpf.specs.Reading.{are_loops, is_budget, is_count}

-- ---- the statement

-- a second slot, if there is one, has no instruction
abbrev pub second_slots : Bool → List (Option Insn)
second_slots true = None ∷ []
second_slots false = []

-- the one or two slots of an instruction
abbrev pub placed_slots : Insn → List (Option Insn)
placed_slots insn = Some insn ∷ second_slots (is_some (second_immediate insn))

-- ---- what else contracts and proofs say

-- what is wrong with the parts of an image of `slots` slots
unfoldable pub parts_fault : (slots : ℕ) → List Loop → (budget : ℕ) → Option ImageFault
parts_fault slots loops budget =
    if is_count (length loops) slots 0
    then (if is_budget budget
    then (if are_loops slots 0 loops then None else Some faults.Loop)
    else Some faults.Budget)
    else Some faults.Count

-- the thing, unless something is wrong
abbrev pub unless : {X : Type 0} → Option ImageFault → X → Result X ImageFault
unless None x = Ok x
unless (Some fault) x = Err fault

-- the header of this version, these instructions, loops and budget, or the first fault
abbrev pub image_header_of : (version : Version) → List Insn → List Loop → (budget : ℕ) → Result ImageHeader ImageFault
image_header_of version insns loops budget =
    unless (parts_fault (length (flat_map placed_slots insns)) loops budget)
    (record { version = version; loops = length loops; slots = length (flat_map placed_slots insns); budget = budget })

-- the program of this version, these instructions, loops and budget, or the first fault
abbrev pub parts_reading : (version : Version) → List Insn → List Loop → (budget : ℕ) → Result Program ImageFault
parts_reading version insns loops budget =
    unless (parts_fault (length (flat_map placed_slots insns)) loops budget)
    (program version budget loops (flat_map placed_slots insns))
