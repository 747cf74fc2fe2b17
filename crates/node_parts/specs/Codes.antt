-- The numbers of the faults.
use Rattle.std.specs.Prelude.{ℕ}
use Rattle.node_parts.specs.declared.faults.NodeFault.{NodeFault}
use Rattle.node_parts.specs.declared.faults.NodeFault.TheVariants.{Memory, Ports, Banks}

-- the number of a fault
abbrev pub node_fault_code : NodeFault → ℕ
node_fault_code Memory = 1
node_fault_code Ports = 2
node_fault_code Banks = 3
