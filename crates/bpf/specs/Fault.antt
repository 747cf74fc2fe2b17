-- The numbers of the faults of an image.
use Rattle.std.specs.Prelude.{ℕ, ◌==◌, if◌then◌else◌, Option, Some, None}
use Rattle.bpf_insn.specs.declared.decoder.BadInsn.TheVariants.{Opcode}
use Rattle.bpf.specs.declared.fault.ImageFault.{ImageFault}
use Rattle.bpf.specs.declared.fault.ImageFault.TheVariants.{Magic, Version, Length, Count, Budget, Loop, Insn, Memory}

-- ---- the statement

-- the number of a fault
abbrev pub image_fault_code : ImageFault → ℕ
image_fault_code Magic = 1
image_fault_code Version = 2
image_fault_code Length = 3
image_fault_code Count = 4
image_fault_code Budget = 5
image_fault_code Loop = 6
image_fault_code (Insn slot fault) = 7
image_fault_code Memory = 8

-- the slot of a faulty instruction, 0 for every other fault
abbrev pub image_fault_slot : ImageFault → ℕ
image_fault_slot Magic = 0
image_fault_slot Version = 0
image_fault_slot Length = 0
image_fault_slot Count = 0
image_fault_slot Budget = 0
image_fault_slot Loop = 0
image_fault_slot (Insn slot fault) = slot
image_fault_slot Memory = 0

-- ---- what else contracts and proofs say

-- a fault of a number, if it is the number of one; of the faults of instructions the first at slot 0
abbrev pub image_fault_of_code : ℕ → Option ImageFault
image_fault_of_code code =
    if code == 1 then Some Magic
    else (if code == 2 then Some Version
    else (if code == 3 then Some Length
    else (if code == 4 then Some Count
    else (if code == 5 then Some Budget
    else (if code == 6 then Some Loop
    else (if code == 7 then Some (Insn 0 Opcode)
    else (if code == 8 then Some Memory
    else None)))))))
