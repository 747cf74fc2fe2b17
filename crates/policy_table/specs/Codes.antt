-- The numbers of faults.
use Rattle.std.specs.Prelude.{ℕ, ◌==◌, if◌then◌else◌, Option, Some, None}
use Rattle.policy_table.specs.declared.faults.PolicyFault.{PolicyFault}
use Rattle.policy_table.specs.declared.faults.PolicyFault.TheVariants.{TooLong, BadRange, Memory, NoCell, BadLine}

-- the number of a fault
abbrev pub policy_fault_code : PolicyFault → ℕ
policy_fault_code TooLong = 1
policy_fault_code BadRange = 2
policy_fault_code Memory = 3
policy_fault_code NoCell = 4
policy_fault_code BadLine = 5

-- the fault of a number, if it is the number of one
abbrev pub policy_fault_of_code : ℕ → Option PolicyFault
policy_fault_of_code code =
    if code == 1 then Some TooLong
    else (if code == 2 then Some BadRange
    else (if code == 3 then Some Memory
    else (if code == 4 then Some NoCell
    else (if code == 5 then Some BadLine
    else None))))
