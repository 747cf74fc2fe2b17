-- Why a table of either version is refused.
use Rattle.std.specs.Prelude.{ℕ, List, ◌++◌, codes, decimal}
use Rattle.policy_table.specs.StatementFaults.{policy_fault_in, statement_fault_text}
use Rattle.policy_table.specs.declared.faults.PolicyFault.{PolicyFault}
use Rattle.policy_table.specs.declared.faults.PolicyFault.TheVariants as faults
use Rattle.policy_table.specs.declared.text_faults.TextFault.{TextFault}
use Rattle.policy_table.specs.declared.text_faults.TextFault.TheVariants.{Memory, Line}

-- the fault without its place
abbrev pub text_fault_of : TextFault → PolicyFault
text_fault_of Memory = faults.Memory
text_fault_of (Line line fault) = policy_fault_in fault

-- the number of its line; 0 if memory was refused
abbrev pub fault_line : TextFault → ℕ
fault_line Memory = 0
fault_line (Line line fault) = line

-- the fault with its place, as it is printed
abbrev pub text_fault_text : TextFault → List ℕ
text_fault_text Memory = codes "no memory"
text_fault_text (Line line fault) = codes "line " ++ decimal line ++ codes " " ++ statement_fault_text fault
